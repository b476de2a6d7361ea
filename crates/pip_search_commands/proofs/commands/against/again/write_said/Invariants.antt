use Rattle.std.proofs.Common.{◌≡◌, take}
use Rattle.std.specs.Prelude.{flat_map}
use Rattle.std.specs.List.{zip}
use Rattle.pip_io.specs.Taken.{Appends}
use Rattle.pip_search_commands.specs.EveryText.{label_bytes, said_line}
use Rattle.pip_search_commands.proofs.commands.against.again.write_said.Given as goal

-- the lines of the labels before this one were written
abbrev pub invariant-loop-k : goal.invariant-loop-k
invariant-loop-k g l = record {
  wrote : Appends (g.K.Sink.history l.fn.sink).written (g.K.Sink.history l.sink).written
      (flat_map (λ p. said_line l.fn.cpus l.fn.lines p.0 p.1) (take l.k (zip (label_bytes l.fn.labels) l.fn.said)));
  no_faults : (g.K.Sink.history l.sink).faults ≡ (g.K.Sink.history l.fn.sink).faults;
}
