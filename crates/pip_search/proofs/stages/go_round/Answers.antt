use Rattle.std.proofs.Common.{◌≡◌, Some, length, slice_get, refl, arith}
use Rattle.std.proofs.lemmas.Option.{slice_get_read}
use Rattle.pip_search.proofs.Staging.{round_begin, round_more}
use Rattle.pip_search.proofs.Walking.{named_at}
use Rattle.pip_search.proofs.stages.go_round.Goals as goal

pub go_on-requires-clause-reached : goal.go_on-requires-clause-reached
go_on-requires-clause-reached c =
    let all = c.args.all.now in
    let n = c.loop-goal.goal in
    let v = c.index-all-goal.result in
    let at : slice_get all n ≡ Some v = slice_get_read all (length all) n v refl (omega arith) c.index-all-goal.is in
    rw c.as_slice-orders.ensures.value (c.requires.reached n v.items (named_at (λ v. v.items) all n v at))

pub loop-goal-init : goal.loop-goal-init
loop-goal-init c = record {
  left = c.requires.left;
  round = round_begin c.args.targets.now c.args.classes.now c.args.width c.args.place c.args.choices.now.items;
}

pub loop-goal-preserved : goal.loop-goal-preserved
loop-goal-preserved c = record {
  left = c.in_ok-at.ensures.left;
  round = round_more c.args.targets.now c.args.classes.now c.args.width c.loop-goal.goal c.args.place c.loop-goal.at
      c.in_ok-at.at c.args.choices.now.items c.loop-goal.choices.items c.go_on.new.choices.items
      c.loop-goal.invariant.round c.in_ok-at.ensures.serve;
}
