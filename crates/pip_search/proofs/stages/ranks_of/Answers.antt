use Rattle.std.proofs.Common.{◌∙◌, inl, inr, ◌+◌, ◌*◌, ◌<◌, [], ◌∷◌, length, length-append, arith}
use Rattle.std.proofs.lemmas.Nat.{div-mul-add, mod-mul-add, mul-add-lt}
use Rattle.pip_search.proofs.Staging.{pushed_at}
use Rattle.pip_search.proofs.stages.ranks_of.Goals as goal

pub loop-cell-preserved : goal.loop-cell-preserved
loop-cell-preserved c =
    let h = c.loop-cell.invariant in
    let count = h.count in
    let ranks = c.loop-cell.ranks.items in
    let rank = c.rank_in.result in
    rw c.in_ok-push.ensures.items (record {
      count = omega (arith, length-append ranks (rank ∷ []));
      are = λ e low. elim (pushed_at ranks rank e (omega arith)) [
        | inl old ↦ old.1 ∙ h.are e (omega arith)
        | inr new ↦ new.1 ∙ rw (new.0, count, ← c.number_at-stage.ensures) c.rank_in.ensures
      ];
    })

pub returns : goal.returns
returns c = λ j d low less.
    let columns = c.args.columns in
    let e = j * columns + d in
    let within : e < columns * length c.args.stages.now = mul-add-lt j columns d (length c.args.stages.now) low less in
    rw (div-mul-add j columns d less, mod-mul-add j columns d less) at (c.loop-cell.invariant.are e (omega arith))
