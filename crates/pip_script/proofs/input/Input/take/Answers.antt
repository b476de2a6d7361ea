use Rattle.std.proofs.Common.{ap, drop, length, ◌≤◌, ◌∙◌, subst, sym}
use Rattle.pip_script.proofs.Buffers.{part_after, part_few}
use Rattle.pip_script.proofs.input.Input.take.Goals as goal

pub returns-clause-bytes : goal.returns-clause-bytes
returns-clause-bytes c =
    let few = subst (λ v. c.args.count ≤ length v.bytes) (sym c.self.view_is) c.requires in
    part_after c.args.count c.self.inside.start c.self.inside.end c.self.inside.bytes c.self.invariant.0
    (part_few _ _ _ _ few)
    ∙ ap (λ v. drop c.args.count v.bytes) c.self.view_is
