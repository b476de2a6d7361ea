use Rattle.std.proofs.Common.{arith, sym, ◌∙◌, ◌≢◌, ◌≡◌, ℕ, Bool, true, false, eq-eqb, eqb-true, refl}
use Rattle.pip_switch.specs.Plain.{plain_world}
use Rattle.std.proofs.Math.Dec.{eqb}
use Rattle.std.proofs.lemmas.Bool.{both_ways}
use Rattle.pip_switch.proofs.Rising.{rise_chain, rise_end, rise_full, rise_on, rise_start, rise_taken}
use Rattle.pip_switch.proofs.Rising.{rise_up}
use Rattle.pip_switch.proofs.delivery.find_taker.Goals as goal

tested_apart : (a b : ℕ) (r : Bool) → r ≡ eqb a b → r ≡ false → a ≢ b
tested_apart a b r is off e = both_ways r off (is ∙ eq-eqb a b e)

tested_same : (a b : ℕ) (r : Bool) → r ≡ eqb a b → r ≡ true → a ≡ b
tested_same a b r is on = eqb-true a b (sym is ∙ on)

pub loop-i-init : goal.loop-i-init
loop-i-init g c = record {
  stands = c.requires.stands;
  rise = λ t x s laid found. rise_start t s (plain_world t c.args.cpus.now) refl c.args.vector c.args.part x found;
  steps = omega arith;
}

pub returns-then-eq-clause-taker : goal.returns-then-eq-clause-taker
returns-then-eq-clause-taker g c t x s laid found =
    let k = c.loop-i.invariant.rise t x s laid found in
    rise_end t s (plain_world t c.args.cpus.now) refl c.args.vector c.args.part c.loop-i.at c.loop-i._i k
    c.parent_of-up.result (c.parent_of-up.ensures.parent t k.x s laid k.x_is)
    (tested_same c.parent_of-up.result c.loop-i.at c.eq.result c.eq.ensures c.if-eq.true)

pub returns-in-Some-clause-taker : goal.returns-in-Some-clause-taker
returns-in-Some-clause-taker g c t x s laid found =
    let k = c.loop-i.invariant.rise t x s laid found in
    let up_is = c.parent_of-up.ensures.parent t k.x s laid k.x_is in
    let moved = tested_apart c.parent_of-up.result c.loop-i.at c.eq.result c.eq.ensures c.if-eq.false in
    let next = rise_up t s (plain_world t c.args.cpus.now) refl c.args.vector c.args.part c.loop-i.at c.loop-i._i k
    c.parent_of-up.result up_is in
    rise_taken t s (plain_world t c.args.cpus.now) refl c.args.vector c.args.part c.loop-i.at c.loop-i._i k
    c.parent_of-up.result up_is moved c.in-Some.handler (sym c.in-Some.is
    ∙ c.free_handler.ensures.handler t next.0 s laid next.1) _ (c.born_of.ensures.born t k.x s laid k.x_is)

pub loop-i-preserved : goal.loop-i-preserved
loop-i-preserved g c = record {
  stands = c.parent_of-up.ensures.stands;
  rise = λ t x s laid found.
      let k = c.loop-i.invariant.rise t x s laid found in
      let up_is = c.parent_of-up.ensures.parent t k.x s laid k.x_is in
      let moved = tested_apart c.parent_of-up.result c.loop-i.at c.eq.result c.eq.ensures c.if-eq.false in
      let next = rise_up t s (plain_world t c.args.cpus.now) refl c.args.vector c.args.part c.loop-i.at c.loop-i._i k
      c.parent_of-up.result up_is in
      rise_on t s (plain_world t c.args.cpus.now) refl c.args.vector c.args.part c.loop-i.at c.loop-i._i k
      c.parent_of-up.result up_is moved (sym c.in_default.is ∙ c.free_handler.ensures.handler t next.0 s laid next.1);
  steps =
      let up = c.parent_of-up.ensures.step in
      let one = c.free_handler.ensures.none c.in_default.is in
      let so = c.loop-i.invariant.steps in
      omega (arith, up, one, so);
}

pub never-assert_unchecked-requires : goal.never-assert_unchecked-requires
never-assert_unchecked-requires g c =
    let s = c.requires.stands in
    let k = c.loop-i.invariant.rise s.tree s.node s.sound s.laid s.found in
    let low = c.loop-i-test.false in
    let high = c.loop-i.auto._i-end in
    let count = c.count-i-end.ensures in
    let frames = s.laid.count in
    absurd (rise_full s.tree s.sound (plain_world s.tree c.args.cpus.now) refl c.args.vector c.args.part c.loop-i.at
    c.loop-i._i k (omega arith))

pub returns-then-eq-clause-chain : goal.returns-then-eq-clause-chain
returns-then-eq-clause-chain g c t x s laid found =
    let long = rise_chain t s (plain_world t c.args.cpus.now) refl c.args.vector c.args.part c.loop-i.at c.loop-i._i
    (c.loop-i.invariant.rise t x s laid found) in
    let up = c.parent_of-up.ensures.step in
    let so = c.loop-i.invariant.steps in
    omega (arith, long, up, so)

pub returns-in-Some-clause-chain : goal.returns-in-Some-clause-chain
returns-in-Some-clause-chain g c t x s laid found =
    let long = rise_chain t s (plain_world t c.args.cpus.now) refl c.args.vector c.args.part c.loop-i.at c.loop-i._i
    (c.loop-i.invariant.rise t x s laid found) in
    let up = c.parent_of-up.ensures.step in
    let one = c.free_handler.ensures.steps in
    let born = c.born_of.ensures.step in
    let so = c.loop-i.invariant.steps in
    omega (arith, long, up, one, born, so)
