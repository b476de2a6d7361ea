use Rattle.std.proofs.Common.{Some, None, sym, ◌∙◌, subst}
use Rattle.pip_audit.specs.Reading.{TellsReading}
use Rattle.pip_audit.proofs.Verdicts.{is_sound, says_compared, says_unread, says_unsound}
use Rattle.pip_audit.proofs.auditor.Auditor.verdict.Goals as goal

pub returns-in-Some-clause-verdict : goal.returns-in-Some-clause-verdict
returns-in-Some-clause-verdict g c =
    says_unread (g.M.Frames.memory c.args.mem.now) c.in-Some.stop c.in-Some.ensures.tells

pub returns-in-Some-broken_part-clause-verdict : goal.returns-in-Some-broken_part-clause-verdict
returns-in-Some-broken_part-clause-verdict g c =
    let m = g.M.Frames.memory c.args.mem.now in
    let b = c.read_tree.new.self in
    says_unsound m b (subst (TellsReading m b) c.in_default.is c.read_tree.ensures.tells)
    c.in-Some-broken_part.part c.in-Some-broken_part.ensures.part

pub first_difference-requires-clause-sound : goal.first_difference-requires-clause-sound
first_difference-requires-clause-sound g c =
    let m = g.M.Frames.memory c.args.mem.now in
    let b = c.read_tree.new.self in
    is_sound m b (subst (TellsReading m b) c.in_default.is c.read_tree.ensures.tells) c.requires.words
    (sym c.in_default-broken_part.is ∙ c.broken_part.ensures.part)

pub returns-in-None-clause-verdict : goal.returns-in-None-clause-verdict
returns-in-None-clause-verdict g c =
    let m = g.M.Frames.memory c.args.mem.now in
    let b = c.read_tree.new.self in
    says_compared m b (subst (TellsReading m b) c.in_default.is c.read_tree.ensures.tells) None
    (sym c.in_default-broken_part.is ∙ c.broken_part.ensures.part) c.in-None.ensures.difference

pub returns-in-Some-first_difference-clause-verdict : goal.returns-in-Some-first_difference-clause-verdict
returns-in-Some-first_difference-clause-verdict g c =
    let m = g.M.Frames.memory c.args.mem.now in
    let b = c.read_tree.new.self in
    says_compared m b (subst (TellsReading m b) c.in_default.is c.read_tree.ensures.tells)
    (Some c.in-Some-first_difference.difference)
    (sym c.in_default-broken_part.is ∙ c.broken_part.ensures.part)
    c.in-Some-first_difference.ensures.difference
