use Rattle.std.proofs.Common.{rules, refl, subst}
use Rattle.pip_script.specs.Lines.{HoldsLine, still}
use Rattle.pip_io.proofs.Taken.{Keeps-refl}
use Rattle.pip_commands.proofs.commands.script.turn.whole_line.Goals as goal

pub returns-in-Some-Newline-clause-does : goal.returns-in-Some-Newline-clause-does
returns-in-Some-Newline-clause-does g c =
    let i = c.args.input.now in
    let left = (g.S.Source.history c.args.joint.now.source.now).left in
    record {
      holds = subst (HoldsLine (still i) i left) c.in-Some-Newline.field-0-is (c.in-Some-Newline.ensures left);
      kept = search rules;
      taken = Keeps-refl (g.K.Sink.history c.args.joint.now.sink.now).written;
      no_faults = record { reads = refl; writes = refl };
      same = refl;
    }
