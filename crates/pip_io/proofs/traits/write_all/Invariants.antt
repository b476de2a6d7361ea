use Rattle.std.proofs.Common.{length}
use Rattle.std.specs.Prelude.{◌≡◌, ◌++◌, [], List, ℕ}
use Rattle.pip_io.specs.Taken.{Appends}
use Rattle.pip_io.proofs.traits.write_all.Given as goal

abbrev pub invariant-loop-rest : goal.invariant-loop-rest
invariant-loop-rest g l = record {
  no_faults : (g.K.Sink.history l.sink).faults ≡ (g.K.Sink.history l.fn.sink).faults;
  done : (front : List ℕ) × Appends (g.K.Sink.history l.fn.sink).written (g.K.Sink.history l.sink).written front
      × (front ++ l.rest ≡ l.text);
  empty : l.text ≡ [] → l.sink ≡ l.fn.sink;
}

abbrev pub decreases-loop-rest : goal.decreases-loop-rest
decreases-loop-rest g l = length l.rest
