use Rattle.std.proofs.Common.{ap, length, arith}
use Rattle.pip_search.specs.Stages.{zeros_in}
use Rattle.pip_search.proofs.Staging.{all_zero, none_ordered, written_back, zero_length, zeros_most}
use Rattle.pip_search.proofs.stages.reach.Goals as goal

pub loop-order-init : goal.loop-order-init
loop-order-init c =
    let orders = c.in_ok-orders.orders.items in
    let zeros_are = c.in_ok-orders.ensures.items_if_clones_equal (λ y h. h) in
    let none = all_zero orders _ zeros_are in
    let most = zeros_most orders in
    let long = zero_length orders _ (length c.args.stages.now) zeros_are (omega arith) in
    record {
      count = long;
      ordered = none_ordered c.args.targets.now c.args.classes.now c.args.stages.now c.args.width c.args.goal orders
          none;
      below = λ j. let h = none j in omega arith;
      falls = omega arith;
    }

pub loop-order-preserved : goal.loop-order-preserved
loop-order-preserved c =
    let h = c.loop-order.invariant in
    let own = c.sweep.ensures in
    let count = own.count in
    let less = own.less c.if-not-sweep.false in
    let value = ap zeros_in c.as_mut_slice.ensures.value in
    let long = ap length c.as_mut_slice.ensures.value in
    rw (written_back c.loop-order.orders.len c.sweep.new.orders c.loop-order.orders.items (omega arith) (omega arith))
    (record {
      count = omega arith;
      ordered = own.ordered;
      below = own.below;
      falls = omega arith;
    })
