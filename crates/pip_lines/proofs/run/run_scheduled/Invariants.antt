use Rattle.std.proofs.Common.{◌≡◌, ℕ, ◌-◌}
use Rattle.pip_lines.proofs.Progress.{Progress}
use Rattle.pip_lines.proofs.Working.{Working}
use Rattle.pip_lines.proofs.run.run_scheduled.Given as goal
use Rattle.pip_model.specs.Run.{steps}
use Rattle.pip_model.specs.Worlds.{World}

abbrev pub invariant-loop-i : goal.invariant-loop-i
invariant-loop-i g l = record {
  count : g.P.Port.count l.port ≡ g.P.Port.count l.fn.port;
  cpus : g.S.Schedule.cpus l.schedule ≡ g.P.Port.count l.fn.port;
  no_faults : (g.K.Sink.history l.sink).faults ≡ (g.K.Sink.history l.fn.sink).faults;
  drawn : (seed : ℕ) → g.S.Schedule.is_at l.fn.schedule seed 0 → g.S.Schedule.is_at l.schedule seed l.i;
  work : (seed : ℕ) → g.S.Schedule.is_at l.fn.schedule seed 0 → (w : World) → g.P.Port.stands l.fn.port w
      → Working (g.P.Port.stands l.port) l.fn.steps l.steps w
      (steps w l.lines seed (g.P.Port.count l.fn.port) l.count 0)
      (λ v. steps v l.lines seed (g.P.Port.count l.fn.port) (l.count - l.i) l.i);
  progress : (seed : ℕ) → g.S.Schedule.is_at l.fn.schedule seed 0 → (w : World) → g.P.Port.stands l.fn.port w
      → Progress (g.P.Port.stands l.port) (g.K.Sink.history l.fn.sink).written (g.K.Sink.history l.sink).written w
      (steps w l.lines seed (g.P.Port.count l.fn.port) l.count 0)
      (λ v. steps v l.lines seed (g.P.Port.count l.fn.port) (l.count - l.i) l.i);
}
