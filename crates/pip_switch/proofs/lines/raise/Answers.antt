use Rattle.std.proofs.Common.{arith, refl}
use Rattle.pip_model.proofs.Events.Soundness.{lines_raised}
use Rattle.pip_switch.proofs.Running.{root_held}
use Rattle.pip_switch.proofs.lines.raise.Goals as goal

pub pending-requires : goal.pending-requires
pending-requires g c = root_held _ _ c.requires.world

pub set_pending-requires : goal.set_pending-requires
set_pending-requires g c = root_held _ _ c.requires.world

pub returns-clause-event : goal.returns-clause-event
returns-clause-event g c w s = record {
  outcome = refl;
  shows = record {
    laid =
        (c.set_pending.ensures.tree w.tree _ s.sound.tree s.shows.laid (lines_raised 0 c.args.line w.tree.root.pending
        (omega arith) c.requires.line s.sound.tree.lines) (c.with_line-lines.ensures w.tree.root.pending
        s.sound.tree.lines (c.pending.ensures.lines w.tree s.sound.tree s.shows.laid))).1;
    cpus = s.shows.cpus;
  };
}
