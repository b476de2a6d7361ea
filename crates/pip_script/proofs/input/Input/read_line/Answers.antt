use Rattle.std.proofs.Common.{ap, sym, subst, ◌∙◌}
use Rattle.pip_script.specs.Lines.{HoldsLine}
use Rattle.pip_script.proofs.Newlines.{over, still_same}
use Rattle.pip_script.proofs.input.Input.read_line.Goals as goal

pub returns-then-is_over-clause-line : goal.returns-then-is_over-clause-line
returns-then-is_over-clause-line g c =
    let part = c.loop-count.invariant.part in
    over _ c.in_ok-count.count c.loop-count.self c.read_on.new.self _ _ part.count
    (sym (ap (λ v. v.room) c.self.view_is)
    ∙ c.if-is_over.true) c.if-count-eq0.false part.short part.plain c.in_ok-count.ensures.more

pub returns-in-Some-clause-line : goal.returns-in-Some-clause-line
returns-in-Some-clause-line g c =
    let left = (g.S.Source.history c.read_on.new.joint.source.now).left in
    let same = still_same c.in_ok-count.count c.loop-count.self c.read_on.new.self _ left
    (λ none. absurd (c.if-is_over.false (ap (λ v. v.room) c.self.view_is ∙ none))) c.in_ok-count.ensures.more in
    subst (λ count. HoldsLine count c.read_on.new.self left c.in-Some.end)
    (sym (c.loop-count.invariant.part.count ∙ same)) (c.in-Some.ensures left)
