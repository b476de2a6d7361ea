-- What the root reads of its handlers is the same after a change of guests that do not have the pages of these.
use Rattle.std.proofs.Common.{◌≡◌, ℕ, ◌+◌, ◌*◌, ◌%◌, ◌/◌, ◌==◌, ◌&&◌, ◌⊎◌, inl, inr, Bool, true, false, not, cond}
use Rattle.std.proofs.Common.{refl, sym, ap, ◌∙◌, subst, Option, Some, None}
use Rattle.std.specs.Prelude.{bit_and, nat_le}
use Rattle.std.proofs.lemmas.Bool.{cases_Bool}
use Rattle.pip_base.specs.declared.types.Access.TheVariants.{Load}
use Rattle.pip_base.specs.declared.types.Size.TheVariants.{Word}
use Rattle.pip_model.specs.Ancestors.{Above}
use Rattle.pip_model.specs.Handlers.{block_at, context_in, context_reached, handler, handler_at, is_reached}
use Rattle.pip_model.specs.Lists.{In, has}
use Rattle.pip_model.specs.Reach.{Alignment, Faulted, Hidden, Place, Reached, Right, is_misaligned, reach, reach_by_row}
use Rattle.pip_model.specs.Reach.{right, word_reached}
use Rattle.pip_model.specs.Sound.{IsSound}
use Rattle.pip_model.specs.Tree.{Node, Row, Tree, ancestry, config, hidden, node, nodes, row_at, row_pages, vpage}
use Rattle.pip_model.specs.Tree.{word_of}
use Rattle.pip_model.proofs.OnLists.Members.{In-append_left, In-map, find_in, has_in, in_has}
use Rattle.pip_model.proofs.Trees.Ancestors.{holds_up}
use Rattle.pip_model.proofs.Trees.Ancestry.{ancestry_over, named_node}
use Rattle.pip_model.proofs.Trees.Free.{IsName, hidden_by, hidden_from, node_found}

-- the root has the same rows in both trees, and its pages of which Out holds have the same words and are hidden alike
pub record KeepsRoot (Out : ℕ → Type 0) (t u : Tree) : Type 0 where
  pub rows : u.root.rows ≡ t.root.rows
  pub words : (g : ℕ) → Out g → u.words g ≡ t.words g
  pub hides : (g : ℕ) → In g (row_pages t.root) → Out g → hidden u g ≡ hidden t g

-- the root's node by its name
root_node : (t : Tree) → IsSound t → node t t.root.name ≡ t.root
root_node t s = named_node t t.root.name s t.root (inl refl) refl

-- an access of the root, by its row
pub root_reach : (t : Tree) (va : ℕ) → IsSound t → reach t t.root.name va Load Word
    ≡ cond (is_misaligned va Word) (Faulted Alignment) (reach_by_row t va Load (row_at t.root.rows (vpage va)))
root_reach t va s = rw (root_node t s)

-- the root loads the same at an address
pub record LoadsSame (t u : Tree) (x y : Reached) : Type 0 where
  pub reached : y ≡ x
  pub word : word_reached u y ≡ word_reached t x
  pub context : context_reached u y ≡ context_reached t x

module _ (Out : ℕ → Type 0) (t u : Tree) (k : KeepsRoot Out t u) (s : IsSound t) (r : IsSound u) where
  place_same : (h : Bool) (c : Bool) (g i : ℕ) → u.words g ≡ t.words g
      → LoadsSame t u (cond h (Faulted Hidden) (cond c (Faulted Right) (Place g i)))
      (cond h (Faulted Hidden) (cond c (Faulted Right) (Place g i)))
  place_same true c g i e = record { reached = refl; word = refl; context = refl }
  place_same false true g i e = record { reached = refl; word = refl; context = refl }
  place_same false false g i e = record {
    reached = refl;
    word = rw e;
    context = rw e;
  }

  row_same : (va : ℕ) (o : Option Row) → row_at t.root.rows (vpage va) ≡ o
      → ((b : Row) → o ≡ Some b → Out b.frame) → LoadsSame t u (reach_by_row t va Load o) (reach_by_row u va Load o)
  row_same va None e out = record { reached = refl; word = refl; context = refl }
  row_same va (Some b) e out =
      let i = In-map (λ b. b.frame) b t.root.rows (find_in (λ b. b.at == vpage va) b t.root.rows e).0 in
      let h = k.hides b.frame i (out b refl) in
      let c = not (bit_and (right Load) b.rights == right Load) in
      rw h (place_same (hidden t b.frame) c b.frame (va % 4096 / 4) (k.words b.frame (out b refl)))

  aligned_same : (m : Bool) (x y : Reached) → LoadsSame t u x y
      → LoadsSame t u (cond m (Faulted Alignment) x) (cond m (Faulted Alignment) y)
  aligned_same true x y l = record { reached = refl; word = refl; context = refl }
  aligned_same false x y l = l

  pub loads_same : (va : ℕ) → ((b : Row) → row_at t.root.rows (vpage va) ≡ Some b → Out b.frame)
      → LoadsSame t u (reach t t.root.name va Load Word) (reach u u.root.name va Load Word)
  loads_same va out =
      let one = row_same va (row_at t.root.rows (vpage va)) refl out in
      let two = subst (λ rs. LoadsSame t u (reach_by_row t va Load (row_at t.root.rows (vpage va)))
      (reach_by_row u va Load (row_at rs (vpage va)))) (sym k.rows) one in
      rw (root_reach t va s) (subst (LoadsSame t u (cond (is_misaligned va Word) (Faulted Alignment)
      (reach_by_row t va Load (row_at t.root.rows (vpage va))))) (sym (root_reach u va r))
      (aligned_same (is_misaligned va Word) _ _ two))

  -- its handler is the same
  pub handler_same : (v : ℕ) → ((b : Row) → row_at t.root.rows (vpage (0xfffff000 + 4 * v)) ≡ Some b → Out b.frame)
      → ((a : ℕ) → word_reached t (reach t t.root.name (0xfffff000 + 4 * v) Load Word) ≡ Some a → (b : Row)
      → row_at t.root.rows (vpage a) ≡ Some b → Out b.frame) → handler u u.root.name v ≡ handler t t.root.name v
  handler_same v entry at =
      let l = loads_same (0xfffff000 + 4 * v) entry in
      rw (l.word, go (word_reached t (reach t t.root.name (0xfffff000 + 4 * v) Load Word)) at)
    where
      found : (a : ℕ) (b : Bool) → LoadsSame t u (reach t t.root.name a Load Word) (reach u u.root.name a Load Word)
          → handler_at u u.root.name (cond b (Some a) None) ≡ handler_at t t.root.name (cond b (Some a) None)
      found a true l = l.context
      found a false l = refl

      go : (o : Option ℕ) → ((a : ℕ) → o ≡ Some a → (b : Row) → row_at t.root.rows (vpage a) ≡ Some b → Out b.frame)
          → handler_at u u.root.name (block_at u u.root.name o) ≡ handler_at t t.root.name (block_at t t.root.name o)
      go None h = refl
      go (Some a) h =
          let l = loads_same a (h a refl) in
          rw (
            l.reached,
            found a ((a % 4 == 0 && nat_le (a % 4096) 4028) && is_reached
                (reach t t.root.name a Load Word)) l,
          )

-- ---- what a guest changes

module _ (t u : Tree) (q : ℕ) (s : IsSound t) (r : IsSound u) (n : IsName t q) (m : IsName u q)
    (own : config (node u q) ≡ config (node t q)) (out : (x : Node) → In x (nodes t)
    → (In q (ancestry t x.name) → ⊥) → In x (nodes u)) where
  -- a page that is in none of the guest's rows, and is hidden, is hidden after
  pub hidden_on : (g : ℕ) → (In g (row_pages (node t q)) → ⊥) → hidden t g ≡ true → hidden u g ≡ true
  hidden_on g h e = let (z, j, c) = hidden_from t g e in go z j c (cases_Bool (has (ancestry t z.name) q))
    where
      below : (z y : Node) → In g (config z) → In y (nodes t) → y.name ≡ q → (y ≡ z) ⊎ Above t y z → hidden u g ≡ true
      below z y c i d (inl o) =
          let same : z ≡ node t q = rw (← o, ← named_node t q s y i d) in
          hidden_by u g (node u q) (node_found u q m).0
          (subst (In g) (sym own) (rw (← same) c))
      below z y c i d (inr a) = absurd (h (rw (named_node t q s y i d)
          (holds_up t g s y z a (In-append_left g (config z) (row_pages z) c))))

      go : (z : Node) → In z (nodes t) → In g (config z)
          → (has (ancestry t z.name) q ≡ true) ⊎ (has (ancestry t z.name) q ≡ false) → hidden u g ≡ true
      go z j c (inl b) = let (y, i, d, o) = ancestry_over t s z j q (has_in q _ b) in below z y c i d o
      go z j c (inr b) = hidden_by u g z (out z j (λ k. let a = in_has q _ k in cc)) c
