use Rattle.std.proofs.Common.{arith, sym, ◌∙◌}
use Rattle.pip_search.proofs.Staging.{stages_most, stages_no, stages_yes}
use Rattle.pip_search.proofs.stages.rank_in.Goals as goal
use Rattle.pip_search.proofs.stages.rank_in.Goals.{then-helpful_at-column, else-helpful_at-column}

pub overflow_add-rank : goal.overflow_add-rank
overflow_add-rank c =
    let h = stages_most c.args.classes.now c.args.goals.now c.args.column c.loop-number.number in
    let k = c.loop-number.invariant in
    omega arith

pub loop-number-preserved : goal.loop-number-preserved
loop-number-preserved c = elim c.if-helpful_at-column.branch [
  | then-helpful_at-column w ↦
      let h = stages_yes c.args.classes.now c.args.goals.now c.args.column c.loop-number.number
      (sym c.helpful_at.ensures ∙ w.if-helpful_at-column.true) in
      let k = c.loop-number.invariant in
      let r = w.rank-is in
      omega arith
  | else-helpful_at-column w ↦
      let h = stages_no c.args.classes.now c.args.goals.now c.args.column c.loop-number.number
      (λ e. w.if-helpful_at-column.false (c.helpful_at.ensures ∙ e)) in
      let k = c.loop-number.invariant in
      let r = w.rank-is in
      omega arith
]
