use Rattle.std.proofs.Common.{rules}
use Rattle.pip_certificates.proofs.LineReads.{reading_lacks, stopped}
use Rattle.pip_certificates.proofs.commands.merge.line_reader.LineReader.read_line.Goals as goal

pub returns-in_err-take_held-2-clause-takes : goal.returns-in_err-take_held-2-clause-takes
returns-in_err-take_held-2-clause-takes g c =
    stopped c.from_residual-in_err-take_held-2.result _ _ c.from_residual-in_err-take_held-2.ensures.1
    (reading_lacks _ _ _ _ _ c.loop-line.invariant.reading _ _ c.in_ok-read_on.ensures.bytes _ _
    (search rules))
