use Rattle.std.proofs.Common.{subst}
use Rattle.pip_io.specs.Newlines.{IsFirstNewline}
use Rattle.pip_script.proofs.Newlines.{found_none, found_some}
use Rattle.pip_script.proofs.input.first_newline.Goals as goal

pub returns-in-Some : goal.returns-in-Some
returns-in-Some c = found_some c.args.seen c.args.bytes.now c.requires.plain
    c.in-Some.at (subst (IsFirstNewline _) c.in-Some.is c.find_newline.ensures)

pub returns-in-None : goal.returns-in-None
returns-in-None c = found_none c.args.seen c.args.bytes.now c.requires.plain
    (subst (IsFirstNewline _) c.in-None.is c.find_newline.ensures)
