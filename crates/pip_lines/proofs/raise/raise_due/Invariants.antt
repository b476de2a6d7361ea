use Rattle.std.proofs.Common.{◌≡◌, ◌+◌, ◌≤◌, take}
use Rattle.pip_model.specs.Acts.{after_acts, events_made}
use Rattle.pip_model.specs.Run.{raises}
use Rattle.pip_model.specs.Work.{events_work}
use Rattle.pip_model.specs.Worlds.{World}
use Rattle.pip_lines.proofs.raise.raise_due.Given as goal

abbrev pub invariant-loop-line : goal.invariant-loop-line
invariant-loop-line g l = record {
  acts : (w : World) → g.P.Port.stands l.fn.port w
      → g.P.Port.stands l.port (after_acts w (raises (take l.line-index l.fn.lines) l.t));
  work : (w : World) → g.P.Port.stands l.fn.port w
      → l.steps ≤ l.fn.steps + events_work w (events_made (raises (take l.line-index l.fn.lines) l.t));
  count : g.P.Port.count l.port ≡ g.P.Port.count l.fn.port;
}
