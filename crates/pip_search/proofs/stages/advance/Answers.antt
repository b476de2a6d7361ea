use Rattle.std.proofs.Common.{◌≡◌, ◌+◌, ◌++◌, ◌∷◌, [], length, map, slice_get, true, refl, ap, sym, subst, arith, ◌∙◌}
use Rattle.std.proofs.Common.{length-append}
use Rattle.pip_search.specs.Stages.{AreStaged, AllHaveOrders, AreRetired, zeros_in}
use Rattle.pip_search.proofs.Staging.{none_got, reached_push, taken_all}
use Rattle.pip_search.proofs.stages.advance.Goals as goal

pub loop-goal-init : goal.loop-goal-init
loop-goal-init c = record {
  same = refl;
  goals = refl;
  count = let none = ap length c.new-all.ensures.items in omega arith;
  reached = λ goal orders e. absurd (none_got (λ v. v.items) c.new-all.result.items c.new-all.ensures.items goal
      orders e);
}

pub loop-goal-preserved : goal.loop-goal-preserved
loop-goal-preserved c =
    let h = c.loop-goal.invariant in
    let stages = c.loop-goal.stages in
    let n = c.loop-goal.goal in
    let all = c.loop-goal.all.items in
    let v = c.in_ok-orders.orders in
    let taken = c.retire.ensures in
    let kept = taken.same c.if-retire.false in
    let items = c.in_ok-push-2.ensures.items in
    let own : AllHaveOrders c.args.targets.now c.args.classes.now stages c.args.width n v.items = record {
      ordered = c.in_ok-orders.ensures.ordered;
      all = λ j left. rw c.as_slice.ensures.value at (taken.none c.if-retire.false j (omega arith) left.inside left);
    } in
    let long = ap length items in
    record {
      same = kept ∙ h.same;
      goals = h.goals;
      count = omega (arith, length-append all (v ∷ []));
      reached = rw kept (reached_push (λ v. v.items) c.args.targets.now c.args.classes.now stages c.args.width all
          c.push-in-loop-goal.new.self.items v n items h.count h.reached own);
    }

pub returns-then-retire-clause-staged : goal.returns-then-retire-clause-staged
returns-then-retire-clause-staged c =
    let h = c.loop-goal.invariant in
    let stages = c.loop-goal.stages in
    let goals = c.loop-goal.goals.items in
    let count = length c.args.stages.now in
    let orders = c.in_ok-orders.orders.items in
    let stage = c.len.result + 1 in
    let staged : AreStaged c.args.targets.now c.args.classes.now stages goals c.args.width count =
    rw (h.same, h.goals) c.requires.staged in
    let taken : AreRetired orders stage 0 (length stages) stages c.retire.new.stages true =
    rw c.as_slice.ensures.value at (subst (λ b. AreRetired c.as_slice.result.now stage 0 (length stages) stages
    c.retire.new.stages b) c.if-retire.true c.retire.ensures) in
    rw c.in_ok-push.ensures.items (taken_all c.args.targets.now c.args.classes.now c.args.width count stages
    c.retire.new.stages goals orders c.loop-goal.goal stage c.requires.inside c.requires.places staged
    c.in_ok-orders.ensures.whole (omega arith) taken)

pub returns-then-retire-clause-less : goal.returns-then-retire-clause-less
returns-then-retire-clause-less c = λ e.
    let less = c.retire.ensures.less c.if-retire.true in
    let same = ap zeros_in c.loop-goal.invariant.same in
    omega arith

pub returns-clause-staged : goal.returns-clause-staged
returns-clause-staged c = rw (c.loop-goal.invariant.same, c.loop-goal.invariant.goals) c.requires.staged

pub returns-clause-reached : goal.returns-clause-reached
returns-clause-reached c = λ all e.
    let same : c.loop-goal.all ≡ all = cc in
    rw (← same) (omega arith, c.loop-goal.invariant.reached)
