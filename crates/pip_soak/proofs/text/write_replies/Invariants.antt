use Rattle.std.proofs.Common.{◌≡◌, ◌-◌, ◌++◌, get_or}
use Rattle.std.specs.Prelude.{codes, decimal, flat_map}
use Rattle.pip_dump.specs.Written.{IsLeft}
use Rattle.pip_model.specs.Dump.{numbers_from}
use Rattle.pip_model.specs.Soak.{counted_text}
use Rattle.pip_soak.proofs.text.write_replies.Given as goal

-- the lines of the statuses from here on are left
abbrev pub invariant-loop-s : goal.invariant-loop-s
invariant-loop-s g l = record {
  no_faults : (g.K.Sink.history l.sink).faults ≡ (g.K.Sink.history l.fn.sink).faults;
  left : IsLeft (g.K.Sink.history l.fn.sink).written (g.K.Sink.history l.sink).written
      (flat_map (λ s. counted_text (codes "reply " ++ decimal s) (get_or l.replies s 0)) (numbers_from l.s (19 - l.s)))
      (flat_map (λ s. counted_text (codes "reply " ++ decimal s) (get_or l.replies s 0)) (numbers_from 0 19));
}
