use Rattle.std.proofs.Common.{◌≡◌, take}
use Rattle.std.specs.Prelude.{flat_map}
use Rattle.pip_io.specs.Taken.{Appends}
use Rattle.pip_apart.specs.Searches.{alone_of}
use Rattle.pip_apart.specs.Texts.{guest_text}
use Rattle.pip_apart.proofs.text.write_guests.Given as goal

abbrev pub invariant-loop-k : goal.invariant-loop-k
invariant-loop-k g l = record {
  wrote : Appends (g.K.Sink.history l.fn.sink).written (g.K.Sink.history l.sink).written
      (flat_map (λ x. guest_text (alone_of x)) (take l.k l.fn.guests));
  no_faults : (g.K.Sink.history l.sink).faults ≡ (g.K.Sink.history l.fn.sink).faults;
}
