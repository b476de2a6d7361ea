use Rattle.std.proofs.Common.{◌≡◌, ◌<◌, ℕ, false}
use Rattle.pip_model.specs.Worlds.{World}
use Rattle.pip_model.specs.declared.processors.Occupant.{Occupant}
use Rattle.pip_parent.specs.Seen.{CountsTaken}
use Rattle.pip_parent.specs.Built.{lacks_right}
use Rattle.pip_parent.specs.Events.{MakesEvents, events_before}
use Rattle.pip_parent.specs.Stages.{IsBuilder, world_before}
use Rattle.pip_parent.proofs.building.build.Given as goal

-- the wants so far are met
abbrev pub invariant-loop-i : goal.invariant-loop-i
invariant-loop-i g l = record {
  taken : CountsTaken l.taken l.wants l.i;
  built : (w : World) (r : Occupant) → IsBuilder w l.cpu r l.pool → g.P.Port.stands l.fn.port w
      → g.P.Port.stands l.port (world_before w l.cpu r l.pool l.wants l.i);
  rights : (w : World) (r : Occupant) → IsBuilder w l.cpu r l.pool → g.P.Port.stands l.fn.port w → (j : ℕ) → j < l.i
      → lacks_right w.tree r.name l.pool l.wants j ≡ false;
  work : MakesEvents (g.P.Port.stands l.fn.port) (g.P.Port.stands l.port) (events_before l.cpu l.pool l.wants l.i)
      l.fn.steps l.steps;
  count : g.P.Port.count l.port ≡ g.P.Port.count l.fn.port;
}
