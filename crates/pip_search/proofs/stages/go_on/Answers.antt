use Rattle.std.proofs.Common.{◌≡◌, ◌<◌, slice_index, refl, arith}
use Rattle.pip_search.specs.Stages.{HasNoStage}
use Rattle.pip_search.proofs.Staging.{going_begin, going_down, going_more, going_serves, to_left}
use Rattle.pip_search.proofs.stages.go_on.Goals as goal

pub loop-turn-init : goal.loop-turn-init
loop-turn-init c = record {
  left = c.requires.left;
  falls = omega arith;
  going = going_begin c.args.targets.now c.args.width c.args.place c.args.choices.now.items;
}

pub unreachable-requires : goal.unreachable-requires
unreachable-requires c =
    let h = c.loop-turn.invariant in
    let own = c.requires.reached.ordered c.loop-turn.at (c.requires.reached.all c.loop-turn.at h.left) in
    c.in_default.ensures own.choice (rw c.number_at-order.ensures own.is)

pub unreachable-requires-2 : goal.unreachable-requires-2
unreachable-requires-2 c =
    let h = c.loop-turn.invariant in
    let some = c.requires.reached.all c.loop-turn.at h.left in
    let fits = c.type_inv.orders c.args.place in
    omega arith

pub loop-turn-preserved : goal.loop-turn-preserved
loop-turn-preserved c =
    let h = c.loop-turn.invariant in
    let old = c.args.choices.now.items in
    let mid = c.loop-turn.choices.items in
    let i = c.loop-turn.at in
    let n = c.in-Some.choice in
    let k = c.leads_to-at.result in
    let step = c.in-Some.ensures in
    let is = c.leads_to-at.ensures in
    let lower = going_down c.args.targets.now c.args.classes.now c.args.stages.now c.args.width c.requires.places
    c.requires.few c.args.goal c.args.place i n k c.number_at-order.result c.args.orders.now old mid h.going h.left step
    is (λ serves. absurd (cc (c.serves.ensures.no serves, c.if-serves.false))) in
    record {
      left = to_left c.args.targets.now c.args.classes.now c.args.stages.now c.args.width c.requires.places
          c.requires.few c.args.goal c.args.place i n k c.number_at-order.result c.args.orders.now old mid h.going
          h.left step is;
      falls = let q = c.number_at-order.ensures in omega arith;
      going = rw c.in_ok-push.ensures.items (going_more c.args.targets.now c.args.classes.now c.args.stages.now
          c.args.width c.requires.places c.requires.few c.args.goal c.args.place i n k c.number_at-order.result
          c.args.orders.now old mid h.going h.left step is);
    }

pub returns-then-serves-clause-left : goal.returns-then-serves-clause-left
returns-then-serves-clause-left c =
    let h = c.loop-turn.invariant in
    to_left c.args.targets.now c.args.classes.now c.args.stages.now c.args.width c.requires.places
    c.requires.few c.args.goal c.args.place c.loop-turn.at c.in-Some.choice c.leads_to-at.result
    c.number_at-order.result c.args.orders.now c.args.choices.now.items c.loop-turn.choices.items h.going
    h.left c.in-Some.ensures c.leads_to-at.ensures

pub returns-then-serves-clause-serve : goal.returns-then-serves-clause-serve
returns-then-serves-clause-serve c =
    let h = c.loop-turn.invariant in
    rw c.in_ok-push.ensures.items (going_serves c.args.targets.now c.args.classes.now c.args.stages.now c.args.width
    c.requires.places c.requires.few c.args.goal c.args.place c.loop-turn.at c.in-Some.choice c.leads_to-at.result
    c.number_at-order.result c.args.orders.now c.args.choices.now.items c.loop-turn.choices.items h.going
    h.left c.in-Some.ensures c.leads_to-at.ensures (c.serves.ensures.yes c.if-serves.true))
