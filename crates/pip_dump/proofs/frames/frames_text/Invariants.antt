use Rattle.std.proofs.Common.{◌≡◌, ◌-◌}
use Rattle.std.specs.Prelude.{flat_map}
use Rattle.pip_model.specs.Dump.{frame_text, frames_text, numbers_from}
use Rattle.pip_model.specs.Partitions.{IsHeld}
use Rattle.pip_model.specs.Tree.{Tree}
use Rattle.pip_dump.specs.Written.{IsLeft}
use Rattle.pip_dump.proofs.frames.frames_text.Given as goal

-- the lines of the frames from here on are left
abbrev pub invariant-loop-f : goal.invariant-loop-f
invariant-loop-f g l = record {
  no_faults : (g.K.Sink.history l.sink).faults ≡ (g.K.Sink.history l.fn.sink).faults;
  left : (t : Tree) → IsHeld t (g.M.Frames.memory l.mem) → IsLeft (g.K.Sink.history l.fn.sink).written
      (g.K.Sink.history l.sink).written (flat_map (frame_text t) (numbers_from l.f (t.frames - l.f))) (frames_text t);
}
