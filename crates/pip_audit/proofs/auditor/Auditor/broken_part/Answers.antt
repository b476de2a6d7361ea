use Rattle.std.proofs.Common.{arith, sym, ◌∙◌}
use Rattle.pip_audit.specs.Comparing.{tree_in}
use Rattle.pip_audit.proofs.Broken.{breaks_at, breaks_none}
use Rattle.pip_audit.proofs.auditor.Auditor.broken_part.Goals as goal

pub returns-then-not-keeps_to-clause-part : goal.returns-then-not-keeps_to-clause-part
returns-then-not-keeps_to-clause-part g c = breaks_at (tree_in (g.M.Frames.memory c.args.mem.now)) c.loop-part.part
    (omega arith) (omega arith) c.loop-part.invariant.before (sym c.keeps_to.ensures.keeps ∙ c.if-not-keeps_to.true)

pub returns-clause-part : goal.returns-clause-part
returns-clause-part g c = breaks_none (tree_in (g.M.Frames.memory c.args.mem.now))
    (λ k lo hi. let past = c.loop-part-test.false in c.loop-part.invariant.before k lo (omega (arith, hi, past)))
