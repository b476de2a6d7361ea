use Rattle.std.proofs.Common.{sym, ◌∙◌}
use Rattle.pip_audit.proofs.Yes.{says_yes, yes_lays}
use Rattle.pip_audit.proofs.auditor.Auditor.audit.Goals as goal

pub returns-clause-yes : goal.returns-clause-yes
returns-clause-yes g c = λ e.
    yes_lays (g.M.Frames.memory c.args.mem.now) c.see_frames.ensures.shape c.see_frames.ensures.words
    (sym c.verdict.ensures.verdict ∙ e)

pub returns-clause-layouts : goal.returns-clause-layouts
returns-clause-layouts g c = λ l. c.verdict.ensures.verdict ∙ says_yes (g.M.Frames.memory c.args.mem.now) l
