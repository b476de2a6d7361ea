use Rattle.std.proofs.Common.{rules}
use Rattle.pip_asm.specs.Seen.{statement_of}
use Rattle.pip_asm.proofs.Keeping.{line_keeps}
use Rattle.pip_asm.proofs.reading.Passed.take_line.Goals as goal

pub place-requires-clause-stands : goal.place-requires-clause-stands
place-requires-clause-stands c = (c.args.line.now, search rules)

pub returns-in-Ok-place-clause-bytes : goal.returns-in-Ok-place-clause-bytes
returns-in-Ok-place-clause-bytes c = line_keeps c.args.self.now c.place.new.self c.args.number c.args.line.now
    (statement_of c.in-Ok.said) (search rules) c.in-Ok-place.ensures.same c.in-Ok-place.ensures.says
