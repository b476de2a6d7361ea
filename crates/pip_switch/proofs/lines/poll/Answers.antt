use Rattle.std.proofs.Common.{◌∙◌, sym}
use Rattle.pip_switch.proofs.Running.{root_held}
use Rattle.pip_switch.proofs.Taking.{came_untaken}
use Rattle.pip_switch.proofs.lines.poll.Goals as goal

pub pending-bits-requires : goal.pending-bits-requires
pending-bits-requires g c = root_held _ _ c.requires.world

pub returns-then-bits-eq0-clause-event : goal.returns-then-bits-eq0-clause-event
returns-then-bits-eq0-clause-event g c w s = came_untaken _ _ c.args.cpu w s
    (sym c.if-bits-eq0.true ∙ c.pending-bits.ensures.lines w.tree s.sound.tree s.shows.laid) _ c.untaken.ensures
