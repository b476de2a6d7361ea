-- The laws of mappedInChild.
use Rattle.std.proofs.Common.{◌≡◌, ℕ, ◌==◌, inr, not, [], ◌∷◌, refl, ap, ◌∙◌, arith, Option, Some, None}
use Rattle.std.specs.Prelude.{is_some}
use Rattle.pip_base.specs.declared.outcome.Status.TheVariants as S
use Rattle.pip_model.specs.Answers.{first_met, page_of, some_null, some_unaligned}
use Rattle.pip_model.specs.declared.call_name.MemoryCall.TheVariants.{MappedInChild}
use Rattle.pip_model.specs.MappedInChild.{find_refusals, holder_born, mapped_in_child}
use Rattle.pip_model.specs.Sound.{IsSound, IsWord}
use Rattle.pip_model.specs.Tree.{Node, Tree, children, holder, holds, row_at, vpage}
use Rattle.pip_model.proofs.OnLists.Members.{In-filter_from, find_in}
use Rattle.pip_model.proofs.Trees.Free.{unless-sound}
use Rattle.pip_model.proofs.Trees.Numbers.{born_small}
use Rattle.pip_model.proofs.Locality.Agree.{AgreeAnswers, Agreeing, agree_unless, caller-same, holder-same, page-same}
use Rattle.pip_model.proofs.Calls.Laws.{MemoryLaws, same_tree, unless}

born_word : (t : Tree) (p g : ℕ) → IsSound t → IsWord (holder_born (holder t p g))
born_word t p g s = go (holder t p g) refl
  where
    go : (o : Option Node) → holder t p g ≡ o → IsWord (holder_born o)
    go None e = omega arith
    go (Some x) e =
        let i = (find_in (λ x. holds x g) x (children t p) e).0 in
        born_small t s x (inr (In-filter_from (λ x. x.up == p) x t.others i).0)

agrees : {p : ℕ} {t u : Tree} → Agreeing p t u → (v : ℕ)
    → AgreeAnswers p (mapped_in_child t p v) (mapped_in_child u p v)
agrees {p = p} {t = t} {u = u} g v =
    let row = caller-same g in
    let e : first_met (find_refusals t p v) ≡ first_met (find_refusals u p v) = λ i. first_met (
    some_unaligned (v ∷ []) ∷ some_null (v ∷ []) ∷ (not (is_some (row_at (row i).rows (vpage v))), S.NotMapped) ∷ []) in
    agree_unless g e (λ h. record {
      status = refl;
      value = cc (holder-same g (page_of t p v), page-same g v);
      tree = g.trees;
    })

pub laws : MemoryLaws MappedInChild
laws = record {
  sound = λ w p a s n l. unless-sound w.tree (first_met (find_refusals w.tree p a.x0)) _ s (λ e. s);
  keeps = λ w p a s n. unless {o = first_met (find_refusals w.tree p a.x0)} (λ e.
      same_tree S.Ok _ (born_word w.tree p (page_of w.tree p a.x0) s));
  agrees = λ w v p a g h. agrees g a.x0;
  caches = λ w cs p a. refl;
}
