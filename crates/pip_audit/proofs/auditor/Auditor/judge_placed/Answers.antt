use Rattle.std.proofs.Common.{◌∙◌, refl}
use Rattle.pip_audit.specs.Families.{up_at}
use Rattle.pip_audit.proofs.Judges.{can_judge, placed_holds}
use Rattle.pip_audit.proofs.auditor.Auditor.judge_placed.Goals as goal

pub judge_tables-requires-clause-judges : goal.judge_tables-requires-clause-judges
judge_tables-requires-clause-judges g c =
    can_judge (g.M.Frames.memory c.args.mem.now) c.args.self.now c.requires.read c.requires.sound c.args.x
    c.requires.node c.load.new.self c.load.ensures.is_of (c.load.ensures.part ∙ c.name-part.ensures.name)

pub judge_tables-requires-clause-holds : goal.judge_tables-requires-clause-holds
judge_tables-requires-clause-holds g c =
    let m = g.M.Frames.memory c.args.mem.now in
    let a = c.args.self.now in
    placed_holds m a c.requires.read c.requires.sound c.args.x (up_at m a.names.items c.args.x) c.load.new.self
    c.requires.other c.requires.node c.requires.places (c.load.ensures.part ∙ c.name-part.ensures.name) refl
