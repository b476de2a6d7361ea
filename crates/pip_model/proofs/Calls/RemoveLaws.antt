-- The laws of removeVAddr.
use Rattle.std.proofs.Common.{◌≡◌, ℕ, inr, not, [], ◌∷◌, refl, sym, ap, ◌∙◌, arith, Some}
use Rattle.std.specs.Prelude.{is_none}
use Rattle.pip_base.specs.declared.outcome.Status.TheVariants as S
use Rattle.pip_model.specs.Answers.{Five, child_name, first_met, some_null, some_unaligned}
use Rattle.pip_model.specs.declared.call_name.MemoryCall.TheVariants.{RemoveVAddr}
use Rattle.pip_model.specs.RemoveVAddr.{remove_refusals, remove_vaddr, without_row}
use Rattle.pip_model.specs.Sound.{IsSound}
use Rattle.pip_model.specs.Tree.{Node, Tree, child_at, free, row_at, vpage}
use Rattle.pip_model.specs.Worlds.{World}
use Rattle.pip_model.proofs.Trees.Free.{IsName, passed}
use Rattle.pip_model.specs.Happens.{answer}
use Rattle.pip_model.proofs.Calls.Remove.{remove-sound}
use Rattle.pip_model.proofs.Locality.Agree.{AgreeAnswers, Agreeing, agree_at_child, agree_child, agree_unless}
use Rattle.pip_model.proofs.Locality.Agree.{child_name-same, child_of-same, free-same, refused-same}
use Rattle.pip_model.proofs.Trees.Children.{named_is}
use Rattle.pip_model.proofs.Calls.Laws.{Keeps, MemoryLaws, changed_child, other_rows, unless}

module _ (w : World) (p : ℕ) (a : Five) (s : IsSound w.tree) (n : IsName w.tree p) where
  abbrev t : Tree
  t = w.tree

  abbrev f : Node → Node
  f = without_row (vpage a.x1)

  keeps : Keeps RemoveVAddr w p a (answer RemoveVAddr w p a)
  keeps = unless (λ e. changed_child s n a.x0 0 f t.words (record {
    there = passed (remove_refusals t p a.x0 a.x1) e S.NotChild;
    name = λ x. refl;
    up = λ x. refl;
    value = omega arith;
    rows = λ q i h. other_rows t (child_name t p a.x0) q f i (λ z. h (inr (refl, z)));
    other_words = λ g h. refl;
    open_words = λ l g h i. refl;
    entries = λ h. cc;
  }))

module _ {p : ℕ} {t u : Tree} (g : Agreeing p t u) where
  free_of_child : (d v : ℕ) (c : Node) → child_at t p d ≡ Some c
      → free t (child_name t p d) v ≡ free u (child_name u p d) v
  free_of_child d v c k =
      let name = (named_is t p d c k).name in
      cc (free-same (agree_at_child g d c k) v, child_name-same g d)

  refusals_same : (d cv : ℕ) → first_met (remove_refusals t p d cv) ≡ first_met (remove_refusals u p d cv)
  refusals_same d cv = refused-same g (some_unaligned (d ∷ cv ∷ [])) (some_null (d ∷ cv ∷ [])) d _ _ (λ c k.
      let o = child_of-same g d in
      let f = free_of_child d (vpage cv) c k in
      λ i. (is_none (row_at (o i).rows (vpage cv)), S.Absent) ∷ (not (f i), S.LentOn) ∷ [])

  agrees : (d cv : ℕ) → AgreeAnswers p (remove_vaddr t p d cv) (remove_vaddr u p d cv)
  agrees d cv = agree_unless g (refusals_same d cv) (λ h.
      let there = passed (remove_refusals t p d cv) h S.NotChild in
      record {
        status = refl;
        value = refl;
        tree = agree_child g (without_row (vpage cv)) (λ x. refl) (λ x. refl) d there t.words u.words g.trees.words;
      })

pub laws : MemoryLaws RemoveVAddr
laws = record {
  sound = λ w p a s n l. remove-sound w.tree p a.x0 a.x1 s;
  keeps = keeps;
  agrees = λ w v p a g h. agrees g a.x0 a.x1;
  caches = λ w cs p a. refl;
}
