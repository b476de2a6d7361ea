use Rattle.std.proofs.Common.{ℕ, List, Option, refl, subst}
use Rattle.std.specs.Prelude.{MatchOption}
use Rattle.pip_script.specs.Lines.{HoldsLine, HoldsPart, still}
use Rattle.pip_commands.proofs.commands.script.turn.next_line.Goals as goal

pub returns-in-Some-clause-line : goal.returns-in-Some-clause-line
returns-in-Some-clause-line g c =
    let i = c.args.input.now in
    let left = (g.S.Source.history c.args.joint.now.source.now).left in (
      subst (λ o. MatchOption o (HoldsPart (still i) i)
          (λ end. (left : Option (List ℕ)) → HoldsLine (still i) i left end)) c.in-Some.is c.requires.ahead left,
      refl,
      refl,
    )
