-- How a monitor runs children.
use Rattle.std.specs.Prelude.{ℕ}
use Rattle.pip_children.specs.Children.{Schedule}
use Rattle.pip_native.specs.Monitoring.{all_alive}
use Rattle.pip_native.specs.Watching.{watched_steps}

-- for this many steps, by a monitor of which all are alive
abbrev pub monitored : ℕ → Schedule
monitored count = record {
  steps = λ n. count;
  acts = λ plans ds w. watched_steps w plans (all_alive ds) count 0;
}
