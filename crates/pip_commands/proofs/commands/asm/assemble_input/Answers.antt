use Rattle.std.proofs.Common.{rules, ◌≡◌, ap, refl}
use Rattle.pip_commands.proofs.Assembling.{asm_written}
use Rattle.pip_command_contracts.proofs.Endings.{ends_same}
use Rattle.pip_commands.proofs.Waiting.{asm_waits}
use Rattle.pip_command_contracts.proofs.Waiting.{waits_after}
use Rattle.pip_commands.proofs.commands.asm.assemble_input.Goals as goal

pub returns-in-Ok-clause-ends : goal.returns-in-Ok-clause-ends
returns-in-Ok-clause-ends g c =
    let same : c.as_slice.result.now ≡ c.in-Ok.text.items = search rules in
    let end = c.write_assembly.ensures in
    ends_same g.K.Sink.history (ap (λ s. s.now) c.read_whole.ensures.sink) c.requires.paced.none (λ none.
    asm_written _ _ _ _ end.none (record {
      reads = λ n. c.in-Ok.ensures.no_faults
          (λ e. cc);
      writes = end.no_faults;
    }) end.flushed
    none c.in-Ok.text.items c.in-Ok.ensures.read c.as_slice.result.now same end.wrote)

pub read_whole-requires-clause-paced : goal.read_whole-requires-clause-paced
read_whole-requires-clause-paced g c = λ bytes left taken is.
    c.requires.paced.allows _ (waits_after _ c.requires.paced.none _ bytes left taken refl is)

pub read_whole-requires-clause-is_open : goal.read_whole-requires-clause-is_open
read_whole-requires-clause-is_open g c = c.requires.paced.is_open (asm_waits _ c.requires.paced.none)
