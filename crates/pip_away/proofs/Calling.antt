-- Calls: the chain of prepare, and the target of a yield.
use Rattle.std.proofs.Common.{◌≡◌, ◌≢◌, ℕ, zero, suc, ◌+◌, ◌<◌, ◌≤◌, ◌%◌, ◌==◌, ◌&&◌, ◌||◌, not, Bool}
use Rattle.std.proofs.Common.{true}
use Rattle.std.proofs.Common.{false, refl, sym, ap, ◌∙◌, subst, arith, Option, Some, None, List}
use Rattle.std.specs.Prelude.{◌-◌, IfSome, is_some, nat_lt, option_map, unwrap_or}
use Rattle.std.proofs.lemmas.Bool.{lt-ltb, le-ltb}
use Rattle.pip_base.specs.Memory.{Memory, word_at}
use Rattle.pip_kern.proofs.Tested.{page_of-row}
use Rattle.pip_model.specs.Answers.{Five, page_of}
use Rattle.pip_model.specs.FullRows.{FullRow, full_row, full_rows}
use Rattle.pip_model.specs.Happens.{call_named}
use Rattle.pip_model.specs.Layout.{LaysOut}
use Rattle.pip_model.specs.Partitions.{HasPartition}
use Rattle.pip_model.specs.Prepare.{next_in_chain}
use Rattle.pip_model.specs.Sound.{IsSound}
use Rattle.pip_model.specs.Switching.{target_node}
use Rattle.pip_model.specs.Tree.{Node, Row, Tree, child_at, config, find_node, hidden, page_at, row_at}
use Rattle.pip_model.specs.Tree.{row_pages, vpage}
use Rattle.pip_model.specs.Tree.{word_of}
use Rattle.pip_model.proofs.Frames.Laid.{born_place, full_back, laid_words, no_words_zero, open_words}
use Rattle.pip_model.proofs.Frames.ReadBack.{full-at}
use Rattle.pip_model.proofs.OnLists.Members.{In-append_right, In-map, find_in}
use Rattle.pip_model.proofs.Trees.Numbers.{page_small}
use Rattle.pip_model.specs.Lists.{In, has}
use Rattle.pip_model.proofs.Trees.Children.{child_back}
use Rattle.pip_model.proofs.Trees.Lookup.{found_in, node_is}
use Rattle.pip_guests.specs.Sights.{Sight}
use Rattle.pip_guests.specs.Sights as T
use Rattle.pip_switch.proofs.Targets.{child_target, target_stands}

-- ---- chains

module _ (t : Tree) (s : IsSound t) (p va : ℕ) (x : Node) (found : find_node t p ≡ Some x) where
  -- no page
  module _ (none : None ≡ full_rows t x (vpage va)) where
    pub unmapped_page : 0 ≡ page_of t p va
    unmapped_page = go (row_at x.rows (vpage va)) refl
      where
        go : (o : Option Row) → row_at x.rows (vpage va) ≡ o → 0 ≡ page_of t p va
        go None e = sym (ap (λ z. unwrap_or (page_at z (vpage va)) 0) (node_is t p x found)
            ∙ ap (λ o. unwrap_or (option_map (λ r. r.frame) o) 0) e)
        go (Some q) e = let bad : None ≡ full_row t x (Some q) = none ∙ full-at t x (vpage va) (Some q) e in cc

    pub unmapped_next : 0 ≡ next_in_chain t p va
    unmapped_next = sym (ap (λ g. word_of (t.words g) 0) (sym unmapped_page)
        ∙ ap (λ o. word_of o 0) (no_words_zero t s))

  -- a page, by its row
  module _ (f : FullRow) (here : full_rows t x (vpage va) ≡ Some f) where
    pub mapped_page : f.frame ≡ page_of t p va
    mapped_page = sym (page_of-row t s p x found va f here)

    row_here : (q : Row) × (row_at x.rows (vpage va) ≡ Some q) × (f.frame ≡ q.frame) × (f.user ≡ not (hidden t q.frame))
    row_here =
        let (q, at, same) = full_back t x (vpage va) f here in
        (q, at, ap (λ z. z.frame) same, ap (λ z. z.user) same)

    in_rows : In f.frame (row_pages x)
    in_rows =
        let (q, at, frame, user) = row_here in
        let (i, same) = find_in (λ r. r.at == vpage va) q x.rows at in
        subst (λ n. In n (row_pages x)) (sym frame) (In-map (λ r. r.frame) q x.rows i)

    -- it can be read, and has its word in the memory
    open_page : f.user ≡ true → (w : ℕ → ℕ) × (t.words f.frame ≡ Some w)
    open_page on =
        let (q, at, frame, user) = row_here in
        open_words t s f.frame x (found_in t p x found) in_rows
        (ap (hidden t) frame ∙ off (hidden t q.frame) (sym user ∙ on))
      where
        off : (b : Bool) → not b ≡ true → b ≡ false
        off true e = cc
        off false e = refl

    pub open_next : f.user ≡ true → (m : Memory) → LaysOut t m → word_at m f.frame 0 ≡ next_in_chain t p va
    open_next on m lays =
        let (w, e) = open_page on in
        laid_words t s m lays f.frame 0 w e (omega arith) ∙ sym (ap (λ o. word_of o 0) e)
        ∙ ap (λ g. word_of (t.words g) 0) mapped_page

    pub row_inside : f.frame < t.frames
    row_inside = page_small t f.frame s x (found_in t p x found)
        (In-append_right f.frame (config x) (row_pages x) in_rows)

    -- or not
    pub hidden_next : f.user ≡ false → 0 ≡ next_in_chain t p va
    hidden_next off =
        let (q, at, frame, user) = row_here in
        let hid : hidden t f.frame ≡ true = ap (hidden t) frame ∙ on (hidden t q.frame) (sym user ∙ off) in
        let none : is_some (t.words f.frame) ≡ false =
        s.words f.frame ∙ ap (λ b. has (row_pages t.root) f.frame && not b) hid ∙ and_off (has (row_pages t.root)
        f.frame)
        in
        sym (ap (λ g. word_of (t.words g) 0) (sym mapped_page) ∙ no_word (t.words f.frame) none)
      where
        on : (b : Bool) → not b ≡ false → b ≡ true
        on true e = refl
        on false e = cc

        and_off : (b : Bool) → (b && false) ≡ false
        and_off true = refl
        and_off false = refl

        no_word : (o : Option (ℕ → ℕ)) → is_some o ≡ false → word_of o 0 ≡ 0
        no_word None e = refl
        no_word (Some w) e = cc

chain_on : (sight : Sight) (t : Tree) (p a i : ℕ) → i < 3
    → T.chain_passes sight t p (3 - i) a
    ≡ (sight.seen (page_of t p a) 0 && T.chain_passes sight t p (3 - (i + 1)) (next_in_chain t p a))
chain_on sight t p a i low =
    let n : 3 - i ≡ suc (3 - (i + 1)) = omega arith in ap (λ k. T.chain_passes sight t p k a) n

module _ (sight : Sight) (t : Tree) (p first a i g : ℕ)
    (before : T.chain_passes sight t p 3 first ≡ T.chain_passes sight t p (3 - i) a) (low : i < 3)
    (is : g ≡ page_of t p a) where
  chain_next : T.chain_passes sight t p 3 first
      ≡ (sight.seen g 0 && T.chain_passes sight t p (3 - (i + 1)) (next_in_chain t p a))
  chain_next = before ∙ chain_on sight t p a i low
      ∙ ap (λ n. sight.seen n 0 && T.chain_passes sight t p (3 - (i + 1)) (next_in_chain t p a)) (sym is)

  pub chain_met : sight.seen g 0 ≡ false → false ≡ T.chain_passes sight t p 3 first
  unfolding chain_next
  chain_met e = sym (chain_next
      ∙ ap (λ b. b && T.chain_passes sight t p (3 - (i + 1)) (next_in_chain t p a)) e)

  pub chain_passed : sight.seen g 0 ≡ true → (n : ℕ) → n ≡ next_in_chain t p a
      → T.chain_passes sight t p 3 first ≡ T.chain_passes sight t p (3 - (i + 1)) n
  unfolding chain_next
  chain_passed e n same = chain_next
      ∙ ap (λ b. b && T.chain_passes sight t p (3 - (i + 1)) (next_in_chain t p a)) e
      ∙ ap (T.chain_passes sight t p (3 - (i + 1))) (sym same)

-- ---- yields

-- no child is born at an address that is no multiple of 4096
pub crooked_target : (t : Tree) → IsSound t → (p d : ℕ) → d ≢ 0 → d ≢ 1 → d % 4096 ≢ 0
    → None ≡ option_map (λ (y : Node). y.name) (target_node t p d)
crooked_target t s p d nz other crooked = sym (child_target t p d nz other ∙ go (child_at t p d) refl)
  where
    go : (o : Option Node) → child_at t p d ≡ o → option_map (λ (y : Node). y.name) o ≡ None
    go None e = refl
    go (Some y) e =
        let (other, up, born) = child_back t s p d y e in
        let even = (born_place t s y.name y other).0 in
        absurd (crooked (ap (λ n. n % 4096) (sym born) ∙ even))

-- a target that is found stands
pub target_here : (m : Memory) (p d : ℕ) (k : HasPartition m p) (o : Option ℕ)
    → o ≡ option_map (λ (y : Node). y.name) (target_node k.tree p d) → IfSome o (HasPartition m)
target_here m p d k None e = tt
target_here m p d k (Some to) e = target_stands m p d to k e

pub target_none : (own : List ℕ) (sight : Sight) (t : Tree) (k : ℕ) (o : Option Node)
    → None ≡ option_map (λ (y : Node). y.name) o → T.target_passes own sight t k o ≡ true
target_none own sight t k None e = refl
target_none own sight t k (Some y) e = cc

pub target_some : (own : List ℕ) (sight : Sight) (t : Tree) (k to : ℕ) (o : Option Node)
    → Some to ≡ option_map (λ (y : Node). y.name) o
    → T.target_passes own sight t k o ≡ T.handler_passes own sight t to k
target_some own sight t k to None e = cc
target_some own sight t k to (Some y) e = let n : to ≡ y.name = cc in
    ap (λ z. T.handler_passes own sight t z k) (sym n)

pub saved_never : (n : ℕ) (b : Bool) → 256 ≤ n → (not (nat_lt n 256) || b) ≡ true
saved_never n b high = ap (λ c. not c || b) (le-ltb n 256 high)

pub saved_maybe : (n : ℕ) (b : Bool) → n < 256 → (not (nat_lt n 256) || b) ≡ b
saved_maybe n b low = ap (λ c. not c || b) (lt-ltb n 256 low)

-- ---- calls

pub other_call : (own : List ℕ) (sight : Sight) (t : Tree) (p : ℕ) (a : Five) (n : ℕ) → n ≢ 3 → n ≢ 8
    → true ≡ T.call_passes own sight t p a (call_named n)
other_call own sight t p a zero x y = refl
other_call own sight t p a (suc zero) x y = refl
other_call own sight t p a (suc (suc zero)) x y = refl
other_call own sight t p a (suc (suc (suc zero))) x y = absurd (x refl)
other_call own sight t p a (suc (suc (suc (suc zero)))) x y = refl
other_call own sight t p a (suc (suc (suc (suc (suc zero))))) x y = refl
other_call own sight t p a (suc (suc (suc (suc (suc (suc zero)))))) x y = refl
other_call own sight t p a (suc (suc (suc (suc (suc (suc (suc zero))))))) x y = refl
other_call own sight t p a (suc (suc (suc (suc (suc (suc (suc (suc zero)))))))) x y = absurd (y refl)
other_call own sight t p a (suc (suc (suc (suc (suc (suc (suc (suc (suc zero))))))))) x y = refl
other_call own sight t p a (suc (suc (suc (suc (suc (suc (suc (suc (suc (suc zero)))))))))) x y = refl
other_call own sight t p a (suc (suc (suc (suc (suc (suc (suc (suc (suc (suc (suc zero))))))))))) x y = refl
other_call own sight t p a (suc (suc (suc (suc (suc (suc (suc (suc (suc (suc (suc (suc n)))))))))))) x y = refl
