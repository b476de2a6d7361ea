-- The laws of createPartition.
use Rattle.std.proofs.Common.{◌≡◌, ℕ, ◌==◌, inl, inr, false, not, cond, [], ◌∷◌, refl, sym, ap, ◌∙◌, subst, arith}
use Rattle.std.proofs.Common.{eq-eqb}
use Rattle.std.specs.Prelude.{is_some, unwrap_or, option_map, bit_and}
use Rattle.std.specs.List.{list_any}
use Rattle.std.proofs.lemmas.Bool.{ne_eqb}
use Rattle.pip_base.specs.declared.outcome.Status.TheVariants as S
use Rattle.pip_model.specs.Accepted.{MayCreate}
use Rattle.pip_model.specs.Answers.{Five, first_met, list_of, some_null, some_unaligned}
use Rattle.pip_model.specs.CreatePartition.{create_partition, create_refusals, newborn, tree_with_newborn}
use Rattle.pip_model.specs.declared.call_name.MemoryCall.TheVariants.{CreatePartition}
use Rattle.pip_model.specs.Lists.{In, repeats}
use Rattle.pip_model.specs.Local.{IsBelow, IsOutside}
use Rattle.pip_model.specs.Sound.{IsSound}
use Rattle.pip_model.specs.Tree.{Node, Tree, ancestry, chain_in, config, hidden, names_of, node, nodes, row_at}
use Rattle.pip_model.specs.Tree.{row_pages, vpage}
use Rattle.pip_model.specs.Worlds.{World}
use Rattle.pip_model.proofs.OnLists.Members.{In-filter}
use Rattle.pip_model.proofs.Trees.Ancestors.{name_in}
use Rattle.pip_model.proofs.Trees.Ancestry.{child_below, named_node}
use Rattle.pip_model.proofs.Trees.Free.{IsName, hidden_by, node_found}
use Rattle.pip_model.specs.Happens.{answer}
use Rattle.pip_model.proofs.Calls.Create as C
use Rattle.pip_model.proofs.Calls.Create.{create-sound, may_create}
use Rattle.pip_model.proofs.Locality.Agree.{AgreeAnswers, Agreeing, agree_unless, caller-same, free-same, name-same}
use Rattle.pip_model.proofs.Locality.Agree.{page-same, turned, without_same}
use Rattle.pip_model.proofs.Locality.Leaves.{LeavesTree, without_out}
use Rattle.pip_model.proofs.Calls.Laws.{Keeps, MemoryLaws, unless}

created_in : (t : Tree) (p : ℕ) (x : Five) (y : Node) → In y (nodes t) → In y (nodes (tree_with_newborn t p x))
created_in t p x y (inl e) = inl e
created_in t p x y (inr i) = inr (inr i)

created_name : (t : Tree) (p : ℕ) (x : Five) (q : ℕ) → IsName t q → IsName (tree_with_newborn t p x) q
created_name t p x q (inl e) = inl e
created_name t p x q (inr i) = inr (inr i)

-- an old node, or the new one
created_case : (t : Tree) (p : ℕ) (x : Five) (P : Node → Type 0) → ((y : Node) → In y (nodes t) → P y)
    → P (newborn t p x) → (y : Node) → In y (nodes (tree_with_newborn t p x)) → P y
created_case t p x P f g y (inl e) = f y (inl e)
created_case t p x P f g y (inr (inl e)) = rw e g
created_case t p x P f g y (inr (inr i)) = f y (inr i)

module _ (t : Tree) (p : ℕ) (x : Five) (s : IsSound t) (n : IsName t p) (m : MayCreate t p x) where
  abbrev new : Tree
  new = tree_with_newborn t p x

  -- a partition that was there keeps its line, and its node
  same_line : (q : ℕ) → IsName t q → ancestry new q ≡ ancestry t q
  same_line q i =
      let other = ne_eqb (newborn t p x).name q (λ e. C.fresh_name t p x s n m (subst (IsName t) (sym e) i)) in
      rw other

  same_node : (q : ℕ) → IsName t q → node new q ≡ node t q
  same_node q i =
      let f = node_found t q i in
      named_node new q (C.with_newborn-sound t p x s n m) (node t q) (created_in t p x (node t q) f.0) f.1

  newborn_below : IsBelow new p (newborn t p x)
  newborn_below =
      let child = In-filter (λ z. z.up == p) (newborn t p x) (newborn t p x ∷ t.others) (inl refl) (eq-eqb p p refl) in
      child_below new p (C.with_newborn-sound t p x s n m) (created_name t p x p n) (newborn t p x) child

  to_new : (y : Node) → In y (nodes t) → In p (ancestry t y.name) → In p (ancestry new y.name)
  to_new y i h = rw (same_line y.name (name_in y (nodes t) i)) h

  to_old : (y : Node) → In y (nodes t) → In p (ancestry new y.name) → In p (ancestry t y.name)
  to_old y i h = rw (← same_line y.name (name_in y (nodes t) i)) h

  leaves : LeavesTree p t new
  leaves = record {
    outside = λ y. ((λ h. (created_in t p x y h.0, (λ k. h.1 (to_old y h.0 k)))), (λ h. from y h.0 h.1));
    own = ap {A = Node} (λ z. record z { masked = false }) (sym (same_node p n));
    words = λ g h. without_out t (config (newborn t p x)) g (λ i.
        let (v, j, e) = C.held_new t p x s n m g i in
        h (subst (λ g. In g (row_pages (node t p))) (sym e) (m.usable v j).row));
    lines = λ q k i j. let e = same_line q i in (subst (In k) (sym e), subst (In k) e);
  }
    where
      from : (y : Node) → In y (nodes new) → (In p (ancestry new y.name) → ⊥) → IsOutside t p y
      from y i h = created_case t p x (λ y. (In p (ancestry new y.name) → ⊥) → IsOutside t p y)
          (λ y i h. (i, (λ k. h (to_new y i k)))) (λ h. absurd (h newborn_below.1)) y i h

  -- a page of the new child is hidden
  open_words : (g : ℕ) → hidden new g ≡ false → new.words g ≡ t.words g
  open_words g h = without_out t (config (newborn t p x)) g (λ i.
      let e = hidden_by new g (newborn t p x) (inr (inl refl)) i in
      absurd (grind (arith, h, e)))

keeps : (w : World) (p : ℕ) (a : Five) → IsSound w.tree → IsName w.tree p
    → Keeps CreatePartition w p a (answer CreatePartition w p a)
keeps w p a s n = unless (λ e. let m = may_create w.tree p a e in record {
  stays = λ q r i. created_name w.tree p a q i;
  value = omega arith;
  up = λ q i j. rw (same_node w.tree p a s n m q i);
  rows = λ q i j h. rw (same_node w.tree p a s n m q i);
  words = λ l g h i. open_words w.tree p a s n m g i;
  entries = λ h. cc;
  leaves = leaves w.tree p a s n m;
})

-- a partition below p in the one tree is below it in the other
below_to : {p : ℕ} {t u : Tree} (g : Agreeing p t u) (x : Five) → MayCreate t p x → MayCreate u p x
    → newborn t p x ≡ newborn u p x → ((y : Node) → IsBelow t p y → IsBelow u p y)
    → (y : Node) → IsBelow (tree_with_newborn t p x) p y → IsBelow (tree_with_newborn u p x) p y
below_to {p = p} {t = t} {u = u} g x m m' e to y (i, l) =
    created_case t p x (λ y. In p (ancestry (tree_with_newborn t p x) y.name) → IsBelow (tree_with_newborn u p x) p y)
    (λ y i l.
    let b = to y (i, to_old t p x g.sound g.name m y i l) in
    (created_in u p x y b.0, to_new u p x g.sound' (name-same g) m' y b.0 b.1))
    (λ l. subst (IsBelow (tree_with_newborn u p x) p) (sym e) (newborn_below u p x g.sound' (name-same g) m'))
    y i l

abbrev rights_in : Node → ℕ → ℕ
rights_in x v = unwrap_or (option_map (λ r. r.rights) (row_at x.rows v)) 0

module _ {p : ℕ} {t u : Tree} (g : Agreeing p t u) where
  newborn_same : (x : Five) → newborn t p x ≡ newborn u p x
  newborn_same x =
      let e0 = page-same g x.x0 in
      let e1 = page-same g x.x1 in
      let e2 = page-same g x.x2 in
      let e3 = page-same g x.x3 in
      let e4 = page-same g x.x4 in λ i. record {
        name = e0 i;
        up = p;
        born = x.x0;
        base = record {
          descriptor = record { va = x.x0; frame = e0 i };
          mmu = record { va = x.x1; frame = e1 i };
          shadow1 = record { va = x.x2; frame = e2 i };
          shadow2 = record { va = x.x3; frame = e3 i };
          list = record { va = x.x4; frame = e4 i };
        };
        tables = [];
        more = [];
        rows = [];
        masked = false;
        pending = [];
      }

  refusals_same : (x : Five) → create_refusals t p x ≡ create_refusals u p x
  refusals_same x =
      let f = free-same g in
      let own = caller-same g in
      λ i. some_unaligned (list_of x) ∷ some_null (list_of x) ∷ (repeats (list_of x), S.Repeated)
      ∷ (list_any (λ v. not (is_some (row_at (own i).rows (vpage v)))) (list_of x), S.NotMapped)
      ∷ (list_any (λ v. not (f (vpage v) i)) (list_of x), S.NotFree)
      ∷ (list_any (λ v. not (bit_and 3 (rights_in (own i) (vpage v)) == 3)) (list_of x), S.NoRight)
      ∷ []

  agrees : (x : Five) → AgreeAnswers p (create_partition t p x) (create_partition u p x)
  agrees x =
      let e = ap first_met (refusals_same x) in
      agree_unless g e (λ h.
      let m = may_create t p x h in
      let m' = may_create u p x (cc) in
      let same = newborn_same x in
      let row = same_node t p x g.sound g.name m p g.name in
      record {
        status = refl;
        value = refl;
        tree = record {
          to = below_to g x m m' same g.trees.to;
          from = below_to (turned g) x m' m (sym same) g.trees.from;
          words = λ h i j b.
              without_same (config (newborn t p x)) (config (newborn u p x)) t.words u.words h i (cc)
              (g.trees.words h i (rw (← row) j) b);
        };
      })

pub laws : MemoryLaws CreatePartition
laws = record {
  sound = λ w p a s n l. create-sound w.tree p a s n;
  keeps = keeps;
  agrees = λ w v p a g h. agrees g a;
  caches = λ w cs p a. refl;
}
