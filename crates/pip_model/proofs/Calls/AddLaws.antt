-- The laws of addVAddr.
use Rattle.std.proofs.Common.{◌≡◌, ℕ, ◌==◌, inl, inr, Bool, not, cond, List, [], ◌∷◌, refl, sym, ap, ◌∙◌, subst, arith}
use Rattle.std.proofs.Common.{Some, None}
use Rattle.std.specs.Prelude.{is_none, is_some, unwrap_or, option_map}
use Rattle.std.proofs.lemmas.Bool.{cases_eq, ne_eqb}
use Rattle.pip_base.specs.declared.outcome.Status.{Status}
use Rattle.pip_base.specs.declared.outcome.Status.TheVariants as S
use Rattle.pip_model.specs.AddVAddr.{add_refusals, add_vaddr, with_row}
use Rattle.pip_model.specs.Answers.{Five, child_name, first_met, nobody, page_of, some_null, some_unaligned}
use Rattle.pip_model.specs.declared.call_name.MemoryCall.TheVariants.{AddVAddr}
use Rattle.pip_model.specs.Sound.{IsSound}
use Rattle.pip_model.specs.Tree.{Node, Row, Tree, change_at, change_node, config, has_table, row_at, vpage}
use Rattle.pip_model.specs.Worlds.{World}
use Rattle.pip_model.proofs.Trees.Ancestors.{same_name}
use Rattle.pip_model.proofs.Trees.ChangeNode.{change-else, change-here, change-keeps, with_child}
use Rattle.pip_model.proofs.Trees.Free.{IsName, passed}
use Rattle.pip_model.proofs.Trees.Lookup.{found_in}
use Rattle.pip_model.specs.Happens.{answer}
use Rattle.pip_model.specs.AddVAddr.{exceeds}
use Rattle.pip_model.proofs.Calls.Add.{add-sound, insert-at, may_add}
use Rattle.pip_model.proofs.Locality.Agree.{AgreeAnswers, AgreeTrees, Agreeing, agree_child, agree_unless, caller-same}
use Rattle.pip_model.proofs.Locality.Agree.{child-same, free-same, page-same}
use Rattle.pip_model.proofs.Trees.Children.{named_child}
use Rattle.pip_model.proofs.Calls.Laws.{Keeps, KeepsEntries, MemoryLaws, changed_child, entries_on, other_rows, unless}

-- the row that comes
abbrev row_of : Tree → ℕ → Five → Row
row_of t p a = record { at = vpage a.x2; frame = page_of t p a.x0; rights = a.x3 }

abbrev refusals : Tree → ℕ → Five → List (Bool × Status)
refusals t p a = add_refusals t p a.x0 a.x1 a.x2 a.x3

-- it is where none was
added_row : (r : Row) (v : ℕ) (q : Row) (rows : List Row) → row_at rows r.at ≡ None → row_at rows v ≡ Some q
    → cond (r.at == v) (Some r) (row_at rows v) ≡ Some q
added_row r v q rows none e = elim (cases_eq r.at v) [
  | inl k ↦ let z = ap (row_at rows) k in cc
  | inr k ↦ rw (ne_eqb r.at v k, e)
]

module _ (w : World) (p : ℕ) (a : Five) (s : IsSound w.tree) (n : IsName w.tree p) where
  abbrev t : Tree
  t = w.tree

  abbrev f : Node → Node
  f = with_row (row_of t p a)

  -- so what caches hold is true
  entries : first_met (refusals t p a) ≡ None → KeepsEntries t (with_child t p a.x1 f t.words)
  entries e =
      let (c, k) = named_child t p a.x1 (passed (refusals t p a) e S.NotChild) in
      let m = may_add t p a.x0 a.x1 a.x2 a.x3 c s n k.found e in
      let names = change-keeps c.name f (λ z. z.name) (λ z. refl) in
      let configs = change-keeps c.name f (λ z. config z) (λ z. refl) in
      rw k.name (entries_on (change_at c.name f) t names configs
      (λ b x v q at r. elim (cases_eq x.name c.name) [
        | inl same ↦ let is = same_name t x c s (found_in t b x at) (inr k.child) same in let none =
            subst (λ z. row_at z.rows (vpage a.x2) ≡ None) (sym is) m.absent in
            ap (λ z. row_at z.rows v) (change-here c.name f x same) ∙ insert-at (row_of t p a) v x.rows none ∙
            added_row (row_of t p a) v q x.rows none r
        | inr other ↦
            ap (λ z. row_at z.rows v) (change-else c.name f x other) ∙ r
      ]))

  keeps : Keeps AddVAddr w p a (answer AddVAddr w p a)
  keeps = unless (λ e. changed_child s n a.x1 0 f t.words (record {
    there = passed (refusals t p a) e S.NotChild;
    name = λ x. refl;
    up = λ x. refl;
    value = omega arith;
    rows = λ q i h. other_rows t (child_name t p a.x1) q f i (λ z. h (inl (refl, z)));
    other_words = λ g h. refl;
    open_words = λ l g h i. refl;
    entries = λ h. entries e;
  }))

module _ {p : ℕ} {t u : Tree} (g : Agreeing p t u) where
  refusals_same : (a : Five) → refusals t p a ≡ refusals u p a
  refusals_same a =
      let own = caller-same g in
      let c = child-same g a.x1 in
      let f = free-same g (vpage a.x0) in
      λ i. some_unaligned (a.x0 ∷ a.x1 ∷ a.x2 ∷ []) ∷ some_null (a.x0 ∷ a.x1 ∷ a.x2 ∷ []) ∷ (is_none (c i), S.NotChild)
      ∷ (not (is_some (row_at (own i).rows (vpage a.x0))), S.NotMapped)
      ∷ (not (f i), S.NotFree)
      ∷ (exceeds a.x3 (unwrap_or (option_map (λ r. r.rights) (row_at (own i).rows (vpage a.x0))) 0), S.NoRight)
      ∷ (not (has_table (unwrap_or (c i) nobody) (vpage a.x2)), S.NoTable)
      ∷ (is_some (row_at (unwrap_or (c i) nobody).rows (vpage a.x2)), S.Taken)
      ∷ []

  agrees : (a : Five) → AgreeAnswers p (add_vaddr t p a.x0 a.x1 a.x2 a.x3) (add_vaddr u p a.x0 a.x1 a.x2 a.x3)
  agrees a = agree_unless g (ap first_met (refusals_same a)) (λ h.
      let there = passed (refusals t p a) h S.NotChild in
      let f : Node → Node = with_row (row_of t p a) in
      let f' : ℕ → Node → Node = λ page. with_row (record { at = vpage a.x2; frame = page; rights = a.x3 }) in
      let changed : ℕ → Type 0 =
      λ page. AgreeTrees p (with_child t p a.x1 f t.words) (with_child u p a.x1 (f' page) u.words) in
      let same = agree_child g f (λ x. refl) (λ x. refl) a.x1 there t.words u.words g.trees.words in
      record { status = refl; value = refl; tree = rw (← page-same g a.x0) same })

pub laws : MemoryLaws AddVAddr
laws = record {
  sound = λ w p a s n l. add-sound w.tree p a.x0 a.x1 a.x2 a.x3 s n;
  keeps = keeps;
  agrees = λ w v p a g h. agrees g a;
  caches = λ w cs p a. refl;
}
