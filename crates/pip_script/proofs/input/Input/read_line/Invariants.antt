use Rattle.std.proofs.Common.{◌≡◌, ◌-◌, length}
use Rattle.std.specs.Io.KnownBytes.{Keeps, prepend_known}
use Rattle.pip_script.specs.Lines.{HoldsPart, still}
use Rattle.pip_script.proofs.Since.{ReadSince}
use Rattle.pip_script.proofs.input.Input.read_line.Given as goal

abbrev pub invariant-loop-count : goal.invariant-loop-count
invariant-loop-count g l = record {
  kept : Keeps (prepend_known l.fn.self.bytes (g.S.Source.history l.fn.joint.source.now).left)
      (prepend_known l.self.bytes (g.S.Source.history l.joint.source.now).left);
  part : HoldsPart (still l.fn.self) l.self;
  since : ReadSince l.fn.self l.self (g.S.Source.history l.fn.joint.source.now).left
      (g.S.Source.history l.joint.source.now).left;
  name : l.joint.source.ghost_name ≡ l.fn.joint.source.ghost_name;
  sink : l.joint.sink ≡ l.fn.joint.sink;
  is_open : g.S.Source.is_open l.joint.source.now;
  no_faults : (g.S.Source.history l.joint.source.now).faults ≡ (g.S.Source.history l.fn.joint.source.now).faults;
}

abbrev pub decreases-loop-count : goal.decreases-loop-count
decreases-loop-count g l = 121 - length l.self.bytes
