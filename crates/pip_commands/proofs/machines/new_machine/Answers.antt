use Rattle.pip_model.specs.Boot.{zero_words}
use Rattle.pip_command_contracts.proofs.Begins.{are_zeros}
use Rattle.pip_commands.proofs.Lines.{boots_zeros}
use Rattle.pip_commands.proofs.machines.new_machine.Goals as goal

pub returns-clause-stands : goal.returns-clause-stands
returns-clause-stands g c =
    c.new-2.ensures.stands c.args.frames (λ g. zero_words) (boots_zeros _ _ c.args.frames c.in_ok-mem.ensures
    c.boot_zeros.ensures.layout c.requires.least_frames c.requires.most_frames)

pub boot_zeros-requires : goal.boot_zeros-requires
boot_zeros-requires g c = are_zeros _ c.args.frames c.in_ok-mem.ensures
