use Rattle.std.proofs.Common.{arith, sym, ◌∙◌, ◌≡◌, ◌≢◌, ℕ, Bool, true, false, eq-eqb, eqb-true, refl}
use Rattle.std.proofs.Math.Dec.{eqb}
use Rattle.std.proofs.lemmas.Bool.{both_ways}
use Rattle.pip_kern.proofs.Climb.{climb_chain, climb_full, climb_on, climb_past, climb_start}
use Rattle.pip_kern.proofs.nodes.is_below.Goals as goal

-- what the test of two names says
tested_apart : (a b : ℕ) (r : Bool) → r ≡ eqb a b → r ≡ false → a ≢ b
tested_apart a b r is off e = both_ways r off (is ∙ eq-eqb a b e)

tested_same : (a b : ℕ) (r : Bool) → r ≡ eqb a b → r ≡ true → a ≡ b
tested_same a b r is on = eqb-true a b (cc)

pub loop-i-init : goal.loop-i-init
loop-i-init g c = record {
  stands = c.requires;
  climb = λ t x s lays is. climb_start t c.args.part c.args.top x is;
  steps = omega arith;
}

pub returns-then-eq-2-clause-below : goal.returns-then-eq-2-clause-below
returns-then-eq-2-clause-below g c t x s lays is =
    let k = c.loop-i.invariant.climb t x s lays is in
    let ne = tested_apart c.loop-i.at c.args.top c.eq.result c.eq.ensures c.if-eq.false in
    let up = sym (c.parent_of-up.ensures.parent t k.x s lays k.x_is)
    ∙ tested_same c.parent_of-up.result c.loop-i.at c.eq-in-loop-i.result c.eq-in-loop-i.ensures c.if-eq-2.true in (
      λ bad. absurd (both_ways false refl bad),
      λ r. absurd (climb_past t s c.args.part c.args.top c.loop-i.at c.loop-i._i k ne up r),
    )

pub loop-i-preserved : goal.loop-i-preserved
loop-i-preserved g c = record {
  stands = c.parent_of-up.ensures.stands;
  climb = λ t x s lays is.
      let k = c.loop-i.invariant.climb t x s lays is in
      let ne = tested_apart c.loop-i.at c.args.top c.eq.result c.eq.ensures c.if-eq.false in
      let moved =
      tested_apart c.parent_of-up.result c.loop-i.at c.eq-in-loop-i.result c.eq-in-loop-i.ensures c.if-eq-2.false in
      climb_on t s c.args.part c.args.top c.loop-i.at c.parent_of-up.result c.loop-i._i k ne
      (c.parent_of-up.ensures.parent t k.x s lays k.x_is) moved;
  steps = omega arith;
}

pub never-assert_unchecked-requires : goal.never-assert_unchecked-requires
never-assert_unchecked-requires g c =
    let s = c.requires in
    let k = c.loop-i.invariant.climb s.tree s.node s.sound s.laid s.found in
    let low = c.loop-i-test.false in
    let high = c.loop-i.auto._i-end in
    let count = c.count-i-end.ensures in
    let frames = s.laid.count in
    absurd (climb_full s.tree s.sound c.args.part c.args.top c.loop-i.at c.loop-i._i k (omega arith))

pub returns-then-eq-clause-chain : goal.returns-then-eq-clause-chain
returns-then-eq-clause-chain g c t x s lays is =
    let k = c.loop-i.invariant.climb t x s lays is in
    omega (arith, climb_chain t s c.args.part c.args.top c.loop-i.at c.loop-i._i k)

pub returns-then-eq-2-clause-chain : goal.returns-then-eq-2-clause-chain
returns-then-eq-2-clause-chain g c t x s lays is =
    let k = c.loop-i.invariant.climb t x s lays is in
    omega (arith, climb_chain t s c.args.part c.args.top c.loop-i.at c.loop-i._i k)
