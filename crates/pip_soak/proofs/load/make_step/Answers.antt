use Rattle.std.proofs.Common.{sym, ap, subst}
use Rattle.pip_soak.specs.Asks.{events_of}
use Rattle.pip_soak.specs.Counts.{MakesAll}
use Rattle.pip_soak.proofs.Made.{makes_more}
use Rattle.pip_soak.proofs.load.make_step.Goals as goal

pub returns-in-Prepare-clause-makes : goal.returns-in-Prepare-clause-makes
returns-in-Prepare-clause-makes g c =
    subst (MakesAll (g.P.Port.stands c.args.port.now) (g.P.Port.stands c.make-in-Prepare-3.new.port) c.args.counts.now
    c.make-in-Prepare-3.new.counts) (sym (ap events_of c.in-Prepare.is))
    (makes_more _ _ _ _ _ _ _ _ c.make-in-Prepare.ensures.makes
    (makes_more _ _ _ _ _ _ _ _ c.make-in-Prepare-2.ensures.makes c.make-in-Prepare-3.ensures.makes))
