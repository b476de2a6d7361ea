use Rattle.std.proofs.Common.{arith}
use Rattle.pip_kern.proofs.Climb.{climb_full}
use Rattle.pip_apart.proofs.Climbing.{at_root, climbs_met, climbs_on, climbs_start}
use Rattle.pip_apart.proofs.guests.top_of.Goals as goal

pub returns-then-number-eq-ROOT : goal.returns-then-number-eq-ROOT
returns-then-number-eq-ROOT g c t x s lays is =
    at_root t s c.args.part c.number.result c.number.ensures.same c.if-number-eq-ROOT.true

pub loop-i-init : goal.loop-i-init
loop-i-init g c = record {
  stands = c.requires;
  climb = λ t x s lays is.
      climbs_start t c.args.part c.number.result x is c.number.ensures.same c.if-number-eq-ROOT.false;
}

pub returns-then-number-eq-ROOT-2 : goal.returns-then-number-eq-ROOT-2
returns-then-number-eq-ROOT-2 g c t x s lays is =
    let k = c.loop-i.invariant.climb t x s lays is in
    climbs_met t s c.args.part c.loop-i.at c.loop-i._i c.parent_of-up.result c.number-in-loop-i.result k
    (c.parent_of-up.ensures.parent t k.climb.x s lays k.climb.x_is) c.number-in-loop-i.ensures.same
    c.if-number-eq-ROOT-2.true

pub loop-i-preserved : goal.loop-i-preserved
loop-i-preserved g c = record {
  stands = c.parent_of-up.ensures.stands;
  climb = λ t x s lays is.
      let k = c.loop-i.invariant.climb t x s lays is in
      climbs_on t s c.args.part c.loop-i.at c.loop-i._i c.parent_of-up.result c.number-in-loop-i.result k
      (c.parent_of-up.ensures.parent t k.climb.x s lays k.climb.x_is) c.number-in-loop-i.ensures.same
      c.if-number-eq-ROOT-2.false;
}

pub never-assert_unchecked-requires : goal.never-assert_unchecked-requires
never-assert_unchecked-requires g c =
    let s = c.requires in
    let k = c.loop-i.invariant.climb s.tree s.node s.sound s.laid s.found in
    let low = c.loop-i-test.false in
    let high = c.loop-i.auto._i-end in
    let count = c.count-i-end.ensures in
    let frames = s.laid.count in
    absurd (climb_full s.tree s.sound c.args.part 1 c.loop-i.at c.loop-i._i k.climb (omega arith))
