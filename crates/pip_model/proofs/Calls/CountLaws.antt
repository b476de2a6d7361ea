-- The laws of countToMap.
use Rattle.std.proofs.Common.{◌≡◌, ℕ, ◌+◌, Bool, true, false, cond, [], ◌∷◌, length, refl, ap, arith}
use Rattle.std.specs.Prelude.{◌-◌, is_none}
use Rattle.pip_base.specs.declared.outcome.Status.TheVariants as S
use Rattle.pip_model.specs.Answers.{child_of, first_met, some_null, some_unaligned}
use Rattle.pip_model.specs.CountToMap.{count_refusals, count_to_map, pages_needed}
use Rattle.pip_model.specs.declared.call_name.MemoryCall.TheVariants.{CountToMap}
use Rattle.pip_model.specs.Sound.{IsWord}
use Rattle.pip_model.specs.Tree.{Node, Tree, has_table, lists, vpage}
use Rattle.pip_model.proofs.Trees.Free.{unless-sound}
use Rattle.pip_model.proofs.Locality.Agree.{AgreeAnswers, Agreeing, agree_unless, child-same, child_of-same}
use Rattle.pip_model.proofs.Calls.Laws.{MemoryLaws, same_tree, unless}

pub needs_word : (x : Node) (v : ℕ) → IsWord (pages_needed x v)
needs_word x v = go (has_table x v)
  where
    go : (b : Bool) → IsWord (cond b 0 (3 + lists (length x.tables + 1) - lists (length x.tables)))
    go true = omega arith
    go false = omega arith

-- what it refuses is the same in both trees; prepare refuses it too
pub count_same : {p : ℕ} {t u : Tree} → Agreeing p t u → (d cv : ℕ)
    → first_met (count_refusals t p d cv) ≡ first_met (count_refusals u p d cv)
count_same g d cv =
    let c = child-same g d in
    λ i. first_met (some_unaligned (d ∷ cv ∷ []) ∷ some_null (d ∷ cv ∷ []) ∷ (is_none (c i), S.NotChild) ∷ [])

agrees : {p : ℕ} {t u : Tree} → Agreeing p t u → (d cv : ℕ)
    → AgreeAnswers p (count_to_map t p d cv) (count_to_map u p d cv)
agrees g d cv =
    agree_unless g (count_same g d cv) (λ h. record {
      status = refl;
      value = rw (child_of-same g d);
      tree = g.trees;
    })

pub laws : MemoryLaws CountToMap
laws = record {
  sound = λ w p a s n l. unless-sound w.tree (first_met (count_refusals w.tree p a.x0 a.x1)) _ s (λ e. s);
  keeps = λ w p a s n. unless {o = first_met (count_refusals w.tree p a.x0 a.x1)} (λ e.
      same_tree S.Ok _ (needs_word (child_of w.tree p a.x0) (vpage a.x1)));
  agrees = λ w v p a g h. agrees g a.x0 a.x1;
  caches = λ w cs p a. refl;
}
