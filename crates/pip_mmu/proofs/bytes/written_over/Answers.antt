use Rattle.std.proofs.Common.{◌%◌, ◌<◌, arith, subst}
use Rattle.pip_model.specs.Events.{below_of}
use Rattle.pip_mmu.proofs.Units.{byte_fits, unit_some, word_fits}
use Rattle.pip_mmu.proofs.bytes.written_over.Goals as goal

pub nonzero_div-result : goal.nonzero_div-result
nonzero_div-result c = unit_some (c.args.va % 4) c.unit_of-unit.result (omega arith) c.unit_of-unit.ensures

pub overflow_mul-result-in-Byte : goal.overflow_mul-result-in-Byte
overflow_mul-result-in-Byte c =
    let small : c.args.x < 256 = subst (λ z. c.args.x < below_of z) c.in-Byte.is c.requires in
    let fits = byte_fits (c.args.va % 4) c.unit_of-unit.result c.args.x (omega arith) small c.unit_of-unit.ensures in
    omega arith

pub overflow_add-result : goal.overflow_add-result
overflow_add-result c =
    let small : c.args.x < 256 = subst (λ z. c.args.x < below_of z) c.in-Byte.is c.requires in
    let fits = word_fits (c.args.va % 4) c.unit_of-unit.result c.args.x c.args.word (omega arith) small (omega arith)
    c.unit_of-unit.ensures in
    omega arith
