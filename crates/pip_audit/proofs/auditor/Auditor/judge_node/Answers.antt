use Rattle.std.proofs.Common.{◌∙◌}
use Rattle.pip_audit.proofs.Judges.{can_judge}
use Rattle.pip_audit.proofs.auditor.Auditor.judge_node.Goals as goal

pub judge_plain-requires-clause-judges : goal.judge_plain-requires-clause-judges
judge_plain-requires-clause-judges g c =
    can_judge (g.M.Frames.memory c.args.mem.now) c.args.self.now c.requires.read c.requires.sound c.args.x
    c.requires.node c.load.new.self c.load.ensures.is_of (c.load.ensures.part ∙ c.name-part.ensures.name)
