use Rattle.std.proofs.Common.{arith, ◌∙◌, subst}
use Rattle.pip_model.specs.Boot.{boot_tree}
use Rattle.pip_model.specs.Layout.{LaysOut}
use Rattle.pip_test_every.proofs.Booted.{are_zeros, boots_zeros, count_zeros}
use Rattle.pip_test_every.proofs.searches.boot_program.Goals as goal

pub boot_zeros-requires : goal.boot_zeros-requires
boot_zeros-requires g c = are_zeros _ 16 c.in_ok-mem.ensures

pub write_program-requires-clause-booted : goal.write_program-requires-clause-booted
write_program-requires-clause-booted g c = boots_zeros _ 16 (omega arith) (omega arith)
    (subst (λ n. LaysOut (boot_tree n) c.boot_zeros.new.mem.block.frames) (count_zeros _ 16 c.in_ok-mem.ensures)
    c.boot_zeros.ensures.layout)

pub write_program-requires-clause-count : goal.write_program-requires-clause-count
write_program-requires-clause-count g c = c.boot_zeros.ensures.count ∙ count_zeros _ 16 c.in_ok-mem.ensures
