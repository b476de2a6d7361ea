use Rattle.std.proofs.Common.{◌≡◌, ◌-◌, length}
use Rattle.pip_script.specs.Whole.{TakesPart}
use Rattle.pip_script.proofs.whole.read_whole.Given as goal

abbrev pub invariant-loop-count : goal.invariant-loop-count
invariant-loop-count g l = record {
  taken : TakesPart l.bytes.items (g.S.Source.history l.fn.joint.source.now).left
      (g.S.Source.history l.joint.source.now).left;
  name : l.joint.source.ghost_name ≡ l.fn.joint.source.ghost_name;
  sink : l.joint.sink ≡ l.fn.joint.sink;
  is_open : g.S.Source.is_open l.joint.source.now;
  no_faults : (g.S.Source.history l.joint.source.now).faults ≡ (g.S.Source.history l.fn.joint.source.now).faults;
}

abbrev pub decreases-loop-count : goal.decreases-loop-count
decreases-loop-count g l = 16777216 - length l.bytes.items
