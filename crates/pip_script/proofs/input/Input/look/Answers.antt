use Rattle.std.proofs.Common.{◌<◌, length, refl, subst}
use Rattle.pip_script.specs.Lines.{BeginsLine, HasNoNewline}
use Rattle.pip_script.proofs.Newlines.{long_newline, long_plain}
use Rattle.pip_script.proofs.input.Input.look.Goals as goal

pub returns-in_default : goal.returns-in_default
returns-in_default c = λ left.
    let long = long_newline c.in-Some.at c.args.self.now.bytes c.if-at-le-MAX_LINE.false
    (subst (BeginsLine c.in-Some.at) c.held-held.ensures c.in-Some.ensures) in (refl, long.0, long.1)

pub returns-in_default-2 : goal.returns-in_default-2
returns-in_default-2 c = λ left.
    let same = c.held-held.ensures in
    let far = subst (λ xs. 120 < length xs) same c.if-held-le-MAX_LINE.false in
    (refl, far, long_plain c.args.self.now.bytes far (subst HasNoNewline same c.in-None.ensures))
