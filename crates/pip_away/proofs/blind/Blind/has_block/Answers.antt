use Rattle.std.proofs.Common.{◌≡◌, ◌∙◌, ◌+◌, arith, sym}
use Rattle.pip_away.specs.Blind.{sight_of}
use Rattle.pip_away.proofs.Reading.{all_later}
use Rattle.pip_away.proofs.blind.Blind.has_block.Goals as goal

pub returns-then-not-has : goal.returns-then-not-has
returns-then-not-has c = sym (c.loop-j.invariant ∙ rw (
  all_later (λ j. (sight_of c.args.self.now).blind c.args.page j) c.args.index c.loop-j.j c.loop-j-test.true,
  ← c.has.ensures,
  c.if-not-has.true,
))

pub loop-j-preserved : goal.loop-j-preserved
loop-j-preserved c = c.loop-j.invariant ∙ rw (
  all_later (λ j. (sight_of c.args.self.now).blind c.args.page j) c.args.index c.loop-j.j c.loop-j-test.true,
  ← c.has.ensures,
  c.if-not-has.false,
)

pub returns : goal.returns
returns c = let end : c.loop-j.j ≡ 17 = omega arith in sym (c.loop-j.invariant ∙ rw end)

pub loop-j-init : goal.loop-j-init
loop-j-init c = let z : c.args.index + 0 ≡ c.args.index = omega arith in rw z
