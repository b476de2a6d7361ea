use Rattle.std.proofs.Common.{◌≡◌, length}
use Rattle.pip_image.specs.Coming.{coming}
use Rattle.pip_image.specs.Loading.{Loads}
use Rattle.pip_image.proofs.load.load_pages.Given as goal

abbrev pub invariant-loop-words : goal.invariant-loop-words
invariant-loop-words g l = record {
  name : l.joint.source.ghost_name ≡ l.fn.joint.source.ghost_name;
  sink : l.joint.sink ≡ l.fn.joint.sink;
  none : l.reader.place.plans ≡ 0;
  frames : l.reader.place.frames ≡ l.head.frames;
  is_open : g.S.Source.is_open l.joint.source.now;
  no_faults : (g.S.Source.history l.joint.source.now).faults ≡ (g.S.Source.history l.fn.joint.source.now).faults;
  count : length (g.M.Frames.memory l.mem) ≡ l.head.frames;
  kept : length (g.M.Frames.memory l.mem) ≡ length (g.M.Frames.memory l.fn.mem);
  done : Loads l.head.frames (coming l.fn.reader.place) (coming l.reader.place)
      (g.S.Source.history l.fn.joint.source.now).left
      (g.S.Source.history l.joint.source.now).left l.reader.place.seen.items (g.M.Frames.memory l.mem);
}

abbrev pub decreases-loop-words : goal.decreases-loop-words
decreases-loop-words g l = l.reader.place.pages
