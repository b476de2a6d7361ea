use Rattle.std.proofs.Common.{◌≡◌, inl, inr, ◌∙◌, ◌+◌, [], ◌∷◌, length, length-append, arith}
use Rattle.pip_search.proofs.Staging.{pushed_at}
use Rattle.pip_search.proofs.stages.helpers_of.Goals as goal

pub loop-place-preserved : goal.loop-place-preserved
loop-place-preserved c =
    let h = c.loop-place.invariant in
    let count = h.count in
    let helpers = c.loop-place.helpers.items in
    let helper = c.goal_of.result in
    rw c.in_ok-push.ensures.items (record {
      count = omega (arith, length-append helpers (helper ∷ []));
      are = λ j s low is. elim (pushed_at helpers helper j (omega arith)) [
        | inl old ↦ old.1 ∙ h.are j s (omega arith) is
        | inr new ↦
            let here : j ≡ c.loop-place.place = omega (arith, new.0) in
            let stage : c.number_at.result ≡ s + 1 = c.number_at.ensures ∙ rw here at is in
            new.1 ∙ c.goal_of.ensures s stage
      ];
    })
