-- The registers are tested from the last one on.
use Rattle.std.proofs.Common.{◌≤◌, ◌∙◌, arith, length}
use Rattle.std.proofs.lemmas.List.{take_all}
use Rattle.pip_every.proofs.Words.{used_before, used_here}
use Rattle.pip_every.proofs.processors.used.Goals as goal

pub loop-count-init : goal.loop-count-init
loop-count-init c = record {
  most = omega arith;
  used = rw (take_all 16 c.args.regs.now (omega (arith, c.told-regs)));
}

pub loop-count-preserved : goal.loop-count-preserved
loop-count-preserved c =
    let most : c.loop-count.count ≤ length c.args.regs.now = omega arith in
    record {
      most = omega arith;
      used = used_before c.args.regs.now c.loop-count.count c.loop-count-test.true most c.if-regs-count-eq0.true
          ∙ c.loop-count.invariant.used;
    }

pub returns-else-regs-count-eq0-clause-used : goal.returns-else-regs-count-eq0-clause-used
returns-else-regs-count-eq0-clause-used c =
    let most : c.loop-count.count ≤ length c.args.regs.now = omega arith in
    used_here c.args.regs.now c.loop-count.count c.loop-count-test.true most c.if-regs-count-eq0.false
    ∙ c.loop-count.invariant.used
