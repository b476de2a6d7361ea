use Rattle.std.proofs.Common.{◌≡◌, ◌-◌, ◌≤◌, get_or}
use Rattle.std.specs.Prelude.{flat_map}
use Rattle.pip_model.specs.Dump.{group_text, numbers_from}
use Rattle.pip_dump.specs.Written.{IsLeft}
use Rattle.pip_dump.proofs.frames.groups_text.Given as goal

-- the lines of the groups from here on are left
abbrev pub invariant-loop-k : goal.invariant-loop-k
invariant-loop-k g l = record {
  high : l.from ≤ 128;
  no_faults : (g.K.Sink.history l.sink).faults ≡ (g.K.Sink.history l.fn.sink).faults;
  left : IsLeft (g.K.Sink.history l.fn.sink).written (g.K.Sink.history l.sink).written
      (flat_map (group_text (λ i. get_or l.words i 0))
      (numbers_from l.from (128 - l.from))) (flat_map (group_text (λ i. get_or l.words i 0)) (numbers_from 0 128));
}

abbrev pub decreases-loop-k : goal.decreases-loop-k
decreases-loop-k g l = 128 - l.from
