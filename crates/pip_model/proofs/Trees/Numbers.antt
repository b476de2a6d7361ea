-- All numbers of a sound tree are words.
use Rattle.std.proofs.Common.{◌≡◌, ℕ, zero, suc, ◌+◌, ◌/◌, ◌%◌, ◌^◌, ◌≤◌, ◌<◌, ◌==◌, inl, inr, Bool, true, false, not}
use Rattle.std.proofs.Common.{cond, List, [], ◌∷◌, ◌++◌, refl, sym, ap, ◌∙◌, subst, arith, Option, Some, None}
use Rattle.std.specs.Prelude.{flat_map, bit_and}
use Rattle.std.proofs.lemmas.Nat.{and_le_r}
use Rattle.pip_base.specs.declared.types.Pair.{Pair}
use Rattle.pip_model.specs.Ancestors.{Above, further, parent}
use Rattle.pip_model.specs.Answers.{words_cleared, words_without}
use Rattle.pip_model.specs.Boot.{boot_root, tables_from, tables_of_root, zero_words}
use Rattle.pip_model.specs.Collect.{first_va, chain_word, words_with_chain}
use Rattle.pip_model.specs.Lists.{In, has}
use Rattle.pip_model.specs.Reach.{Alignment, Faulted, Hidden, Place, Reached, Right, is_misaligned, reach, right}
use Rattle.pip_model.specs.Reach.{reach_by_row, word_reached}
use Rattle.pip_model.specs.Sound.{HasNumbers, IsSound, IsWord}
use Rattle.pip_model.specs.Tree.{Node, Row, Tree, config, dir, held_pages, hidden, names_of, node, nodes, pairs, row_at}
use Rattle.pip_model.specs.Tree.{row_pages, table_pairs, vpage, word_of}
use Rattle.pip_base.specs.declared.types.Access.{Access}
use Rattle.pip_base.specs.declared.types.Size.{Size}
use Rattle.pip_model.proofs.OnLists.Members.{In-append_left, In-append_right, In-map, In-map_from}
use Rattle.pip_model.proofs.Trees.Ancestors.{root_is_top, holds_up, parent_in, name-config}
use Rattle.pip_model.proofs.Trees.Boot.{root_small, root_rights, root_positive}
use Rattle.pip_model.proofs.Trees.Free.{row_found}

root_held : (t : Tree) → IsSound t → held_pages t.root ≡ held_pages (boot_root t.frames)
root_held t s = cc (s.boot_root.same)

-- every page that a node holds is a frame
pub page_small : (t : Tree) (g : ℕ) → IsSound t → (x : Node) → In x (nodes t) → In g (held_pages x) → g < t.frames
page_small t g s x i h = elim (root_is_top t s x i) [
  | inl e ↦ root_small t.frames s.boot_root.small s.boot_root.large g
      (subst (In g) (root_held t s) (rw e h))
  | inr a ↦ root_small t.frames s.boot_root.small s.boot_root.large g (subst (In g) (root_held t s)
      (In-append_right g (config t.root) (row_pages t.root) (holds_up t g s t.root x a h)))
]

-- rights are numbers below 8
rights_below : (t : Tree) → IsSound t → (y x : Node) → Above t y x → ((r : Row) → In r y.rows → r.rights < 8)
    → (q : Row) → In q x.rows → q.rights < 8
rights_below t s y x (parent i j e) h q k =
    let g = (s.lent x y i j e).rows q.frame
    (In-append_right q.frame (config x) (row_pages x) (In-map (λ r. r.frame) q x.rows k)) in
    let (r, l, p) = In-map_from (λ r. r.frame) q.frame y.rows g in
    omega (arith, s.rights x y i j e q r k l p, and_le_r q.rights r.rights, h r l)
rights_below t s y x (further {z = z} i j e a) h q k =
    let g = (s.lent x z i j e).rows q.frame
    (In-append_right q.frame (config x) (row_pages x) (In-map (λ r. r.frame) q x.rows k)) in
    let (r, l, p) = In-map_from (λ r. r.frame) q.frame z.rows g in
    omega (arith, s.rights x z i j e q r k l p, and_le_r q.rights r.rights, rights_below t s y z a h r l)

root_rows_small : (t : Tree) → IsSound t → (q : Row) → In q t.root.rows → q.rights < 8
root_rows_small t s q k = let c : q.rights ≡ 7 =
    root_rights t.frames q (subst (In q) (cc (s.boot_root.same)) k) in omega arith

pub rights_small : (t : Tree) → IsSound t → (x : Node) → In x (nodes t) → (q : Row) → In q x.rows → q.rights < 8
rights_small t s x i q k = elim (root_is_top t s x i) [
  | inl e ↦ root_rows_small t s q (rw e k)
  | inr a ↦ rights_below t s t.root x a (root_rows_small t s) q k
]

-- a row's vpage is below 2^20, since it has a table
pub at_small : (t : Tree) → IsSound t → (x : Node) → In x (nodes t) → (q : Row) → In q x.rows → q.at < 2 ^ 20
at_small t s x i q k =
    let (b, l, e) = In-map_from (λ b. b.index) (dir q.at) x.tables ((s.tables x i).tabled q k) in
    omega (arith, (s.tables x i).small b l)

tables_own : (k i g : ℕ) (d : Pair) → In d (flat_map table_pairs (tables_from k i g) ++ []) → d.va ≡ 0
tables_own zero i g d (inl e) = rw e
tables_own zero i g d (inr (inl e)) = rw e
tables_own zero i g d (inr (inr (inl e))) = rw e
tables_own zero i g d (inr (inr (inr e))) = absurd e
tables_own (suc k) i g d (inl e) = rw e
tables_own (suc k) i g d (inr (inl e)) = rw e
tables_own (suc k) i g d (inr (inr (inl e))) = rw e
tables_own (suc k) i g d (inr (inr (inr j))) = tables_own k (i + 1) (g + 3) d j

-- the addresses of the root's pages are 0
root_own : (n : ℕ) (d : Pair) → In d (pairs (boot_root n)) → d.va ≡ 0
root_own n d (inl e) = rw e
root_own n d (inr (inl e)) = rw e
root_own n d (inr (inr (inl e))) = rw e
root_own n d (inr (inr (inr (inl e)))) = rw e
root_own n d (inr (inr (inr (inr (inl e))))) = rw e
root_own n d (inr (inr (inr (inr (inr j))))) = tables_own (tables_of_root n) 1 6 d j

-- an address at which a page was given is a word
pub va_small : (t : Tree) → IsSound t → (x : Node) → In x (nodes t) → (g : Pair) → In g (pairs x) → IsWord g.va
va_small t s x (inl e) g j = let z : g.va ≡ 0 =
    root_own t.frames g (subst (In g) (ap pairs (s.boot_root.same)) (rw (← e) j)) in
    omega arith
va_small t s x (inr i) g j =
    let (y, k, u) = parent_in t.root t.others s.parents_come_first x i in
    let (r, l, at, pg) = row_found y (vpage g.va) g.frame ((s.lent x y i k u).placed g j) in
    omega (arith, at_small t s y k r l)

pub born_small : (t : Tree) → IsSound t → (x : Node) → In x (nodes t) → IsWord x.born
born_small t s x (inl e) = let z : x.born ≡ 0 = ap (λ z. z.born) e ∙ ap (λ z. z.born) s.boot_root.same in
    omega arith
born_small t s x (inr i) =
    rw (← sym (s.named_by_descriptor x i).born) (va_small t s x (inr i) x.base.descriptor (inl refl))

pub name_small : (t : Tree) → IsSound t → (x : Node) → In x (nodes t) → IsWord x.name
name_small t s x i =
    omega (arith, page_small t x.name s x i (In-append_left x.name (config x) (row_pages x) (name-config t s x i)))

pub up_small : (t : Tree) → IsSound t → (x : Node) → In x (nodes t) → IsWord x.up
up_small t s x (inl e) = let z : x.up ≡ 1 = ap (λ z. z.up) e ∙ ap (λ z. z.up) s.boot_root.same in omega arith
up_small t s x (inr i) = let (y, k, u) = parent_in t.root t.others s.parents_come_first x i in
    rw u (name_small t s y k)

pub node-numbers : (t : Tree) → IsSound t → (x : Node) → In x (nodes t) → HasNumbers t.frames x
node-numbers t s x i = record {
  name = name_small t s x i;
  up = up_small t s x i;
  born = born_small t s x i;
  addresses = va_small t s x i;
  pages = λ g j. page_small t g s x i j;
  tables = (s.tables x i).small;
  rows = λ r j. (at_small t s x i r j, rights_small t s x i r j);
}

-- words that are stored stay words
pub without_small : (gs : List ℕ) (words : ℕ → Option (ℕ → ℕ)) (g i : ℕ) → IsWord (word_of (words g) i)
    → IsWord (word_of (words_without gs words g) i)
without_small gs words g i h = go (has gs g)
  where
    go : (b : Bool) → IsWord (word_of (cond b None (words g)) i)
    go true = omega arith
    go false = h

pub cleared_small : (gs : List ℕ) (words : ℕ → Option (ℕ → ℕ)) (g i : ℕ) → IsWord (word_of (words g) i)
    → IsWord (word_of (words_cleared gs words g) i)
cleared_small gs words g i h = go (has gs g)
  where
    go : (b : Bool) → IsWord (word_of (cond b (Some zero_words) (words g)) i)
    go true = omega arith
    go false = h

pub linked_small : (gs : List Pair) (words : ℕ → Option (ℕ → ℕ)) (g i : ℕ) → ((d : Pair) → In d gs → IsWord d.va)
    → IsWord (word_of (words g) i) → IsWord (word_of (words_with_chain gs words g) i)
linked_small [] words g i s h = h
linked_small (d ∷ gs) words g i s h = go (d.frame == g) (linked_small gs words g i (λ e j. s e (inr j)) h)
  where
    first_small : (gs : List Pair) → ((d : Pair) → In d gs → IsWord d.va) → IsWord (first_va gs)
    first_small [] s = omega arith
    first_small (e ∷ es) s = s e (inl refl)

    word : (b : Bool) → IsWord (cond b (first_va gs) 0)
    word true = first_small gs (λ e j. s e (inr j))
    word false = omega arith

    go : (b : Bool) → IsWord (word_of (words_with_chain gs words g) i)
        → IsWord (word_of (cond b (Some (chain_word (first_va gs))) (words_with_chain gs words g)) i)
    go true k = word (i == 0)
    go false k = k

-- an access reaches a word of a page, by its address
pub reached_index : (t : Tree) (p va g i : ℕ) (a : Access) (z : Size) → reach t p va a z ≡ Place g i → va % 4096 / 4 ≡ i
reached_index t p va g i a z e = off (is_misaligned va z) (row_at (node t p).rows (vpage va)) e
  where
    at : (r : Row) (h f : Bool) → cond h (Faulted Hidden) (cond f (Faulted Right) (Place r.frame (va % 4096 / 4)))
        ≡ Place g i → va % 4096 / 4 ≡ i
    at r true f q = cc
    at r false true q = cc
    at r false false q = cc

    off : (b : Bool) (o : Option Row) → cond b (Faulted Alignment) (reach_by_row t va a o) ≡ Place g i
        → va % 4096 / 4 ≡ i
    off true o q = cc
    off false None q = cc
    off false (Some r) q = at r (hidden t r.frame) (not (bit_and (right a) r.rights == right a)) q

pub reached_small : (t : Tree) (p va g i : ℕ) (a : Access) (z : Size) → reach t p va a z ≡ Place g i → i < 1024
reached_small t p va g i a z e = omega (arith, reached_index t p va g i a z e)

pub word_found : (t : Tree) (p va : ℕ) (a : Access) (z : Size) (x : ℕ) → IsSound t
    → word_reached t (reach t p va a z) ≡ Some x → IsWord x
word_found t p va a z x s e = go (reach t p va a z) refl e
  where
    go : (q : Reached) → reach t p va a z ≡ q → word_reached t q ≡ Some x → IsWord x
    go (Faulted f) h k = cc
    go (Place g i) h k = let u : word_of (t.words g) i ≡ x = cc in
        rw (← u) (s.numbers g i (reached_small t p va g i a z h))

-- no node holds frame 0, so none is named 0
pub page_positive : (t : Tree) (g : ℕ) → IsSound t → (x : Node) → In x (nodes t) → In g (held_pages x) → 1 ≤ g
page_positive t g s x i h = elim (root_is_top t s x i) [
  | inl e ↦ root_positive t.frames s.boot_root.small s.boot_root.large g
      (subst (In g) (root_held t s) (rw e h))
  | inr a ↦ root_positive t.frames s.boot_root.small s.boot_root.large g (subst (In g) (root_held t s)
      (In-append_right g (config t.root) (row_pages t.root) (holds_up t g s t.root x a h)))
]

pub name_positive : (t : Tree) → IsSound t → (q : ℕ) → In q (names_of (nodes t)) → 1 ≤ q
name_positive t s q i =
    let (x, j, e) = In-map_from (λ x. x.name) q (nodes t) i in
    omega (arith, page_positive t x.name s x j (In-append_left x.name (config x) (row_pages x) (name-config t s x j)))
