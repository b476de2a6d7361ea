use Rattle.std.proofs.Common.{arith, ap, ◌∙◌}
use Rattle.std.specs.Prelude.{slice_index}
use Rattle.pip_audit.specs.declared.auditor.Auditor.{Auditor}
use Rattle.pip_audit.proofs.Judges.{can_judge, given_holds}
use Rattle.pip_audit.proofs.auditor.Auditor.judge_given.Goals as goal

pub judge_tables-requires-clause-judges : goal.judge_tables-requires-clause-judges
judge_tables-requires-clause-judges g c =
    let count = ap (λ (z : Auditor). z.count) c.give_to_children.ensures.rest in
    let node = c.requires.node in
    can_judge (g.M.Frames.memory c.args.mem.now) c.give_to_children.new.self c.give_to_children.ensures.read
    c.requires.sound c.args.x (omega (arith, count, node)) c.load.new.self c.load.ensures.is_of
    (c.load.ensures.part ∙ c.name-part.ensures.name)

pub judge_tables-requires-clause-holds : goal.judge_tables-requires-clause-holds
judge_tables-requires-clause-holds g c =
    given_holds (g.M.Frames.memory c.args.mem.now) c.args.self.now c.requires.read c.give_to_children.new.self c.args.x
    c.load.new.self c.give_to_children.ensures.words
    (c.load.ensures.part ∙ c.name-part.ensures.name
    ∙ ap (λ (z : Auditor). slice_index z.names.items c.args.x) c.give_to_children.ensures.rest)
