use Rattle.std.proofs.Common.{◌∙◌, arith, eq-eqb, eqb-true, sym}
use Rattle.std.proofs.lemmas.Bool.{both_ways}
use Rattle.pip_away.specs.Blind.{sight_of}
use Rattle.pip_away.proofs.Above.{ascent_end, ascent_full, ascent_met, ascent_on, ascent_start, ascent_up}
use Rattle.pip_away.proofs.delivery.above_miss.Goals as goal

pub loop-i-init : goal.loop-i-init
loop-i-init g c = record {
  stands = c.requires;
  rise = λ t x s laid found. ascent_start c.args.blind.now.own.items (sight_of c.args.blind.now) t s c.args.cpus.now
      c.args.vector c.args.part x found;
}

pub returns-then-eq : goal.returns-then-eq
returns-then-eq g c t x s laid found =
    let k = c.loop-i.invariant.rise t x s laid found in
    ascent_end c.args.blind.now.own.items (sight_of c.args.blind.now) t s c.args.cpus.now c.args.vector c.args.part
    c.loop-i.at c.loop-i._i k
    c.parent_of-up.result (c.parent_of-up.ensures.parent t k.x s laid k.x_is)
    (eqb-true _ _ (sym c.eq.ensures ∙ c.if-eq.true))

pub returns-then-not-is_passed : goal.returns-then-not-is_passed
returns-then-not-is_passed g c t x s laid found =
    let k = c.loop-i.invariant.rise t x s laid found in
    let up_is = c.parent_of-up.ensures.parent t k.x s laid k.x_is in
    let next = ascent_up c.args.blind.now.own.items (sight_of c.args.blind.now) t s c.args.cpus.now c.args.vector
    c.args.part c.loop-i.at c.loop-i._i k c.parent_of-up.result up_is in
    ascent_met c.args.blind.now.own.items (sight_of c.args.blind.now) t s c.args.cpus.now c.args.vector c.args.part
    c.loop-i.at c.loop-i._i k c.parent_of-up.result up_is
    (λ e. both_ways c.eq.result c.if-eq.false (c.eq.ensures ∙ eq-eqb _ _ e))
    (sym c.if-not-is_passed.true ∙ c.is_passed.ensures t next.0 s laid next.1)

pub loop-i-preserved : goal.loop-i-preserved
loop-i-preserved g c = record {
  stands = c.parent_of-up.ensures.stands;
  rise = λ t x s laid found.
      let k = c.loop-i.invariant.rise t x s laid found in
      let up_is = c.parent_of-up.ensures.parent t k.x s laid k.x_is in
      let next = ascent_up c.args.blind.now.own.items (sight_of c.args.blind.now) t s c.args.cpus.now c.args.vector
      c.args.part c.loop-i.at c.loop-i._i k c.parent_of-up.result up_is in
      ascent_on c.args.blind.now.own.items (sight_of c.args.blind.now) t s c.args.cpus.now c.args.vector c.args.part
      c.loop-i.at c.loop-i._i k c.parent_of-up.result up_is
      (λ e. both_ways c.eq.result c.if-eq.false (c.eq.ensures ∙ eq-eqb _ _ e))
      (sym c.if-not-is_passed.false ∙ c.is_passed.ensures t next.0 s laid next.1);
}

pub never-assert_unchecked-requires : goal.never-assert_unchecked-requires
never-assert_unchecked-requires g c =
    let s = c.requires in
    let k = c.loop-i.invariant.rise s.tree s.node s.sound s.laid s.found in
    let low = c.loop-i-test.false in
    let high = c.loop-i.auto._i-end in
    let count = c.count-i-end.ensures in
    let frames = s.laid.count in
    absurd (ascent_full c.args.blind.now.own.items (sight_of c.args.blind.now) s.tree s.sound c.args.cpus.now
    c.args.vector c.args.part c.loop-i.at c.loop-i._i k (omega arith))
