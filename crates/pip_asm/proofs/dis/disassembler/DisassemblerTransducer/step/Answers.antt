use Rattle.std.proofs.Common.{arith}
use Rattle.std.proofs.Math.Seq.{take-length}
use Rattle.pip_asm.proofs.Steps.{part_leads, part_midway}
use Rattle.pip_asm.proofs.dis.disassembler.DisassemblerTransducer.step.Goals as goal

pub returns-in-Ok : goal.returns-in-Ok
returns-in-Ok c =
    let is = c.in-Ok.ensures.told in
    record {
      few = omega arith;
      rest = omega arith;
      leads = rw (c.push_part.ensures, take-length c.args.front.now) (part_leads _ _ c.args.front.now _ is);
      midway = rw c.push_part.ensures (part_midway _ _ c.args.front.now _ is);
      fewer = c.in-Ok.ensures.fewer;
    }
