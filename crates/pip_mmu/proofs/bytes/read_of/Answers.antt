use Rattle.std.proofs.Common.{◌%◌, arith}
use Rattle.pip_mmu.proofs.Units.{unit_some}
use Rattle.pip_mmu.proofs.bytes.read_of.Goals as goal

pub nonzero_div-result : goal.nonzero_div-result
nonzero_div-result c = unit_some (c.args.va % 4) c.unit_of.result (omega arith) c.unit_of.ensures
