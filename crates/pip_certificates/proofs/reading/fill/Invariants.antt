use Rattle.std.proofs.Common.{length, ◌-◌, ◌≡◌, ◌≤◌, take}
use Rattle.std.specs.Io.KnownBytes.{Consumes}
use Rattle.pip_certificates.proofs.reading.fill.Given as goal

abbrev pub invariant-loop-taken : goal.invariant-loop-taken
invariant-loop-taken g l = record {
  name : l.joint.source.ghost_name ≡ l.fn.joint.source.ghost_name;
  sink : l.joint.sink ≡ l.fn.joint.sink;
  size : length l.buf ≡ length l.fn.buf;
  some : l.taken ≤ length l.buf;
  is_open : g.S.Source.is_open l.joint.source.now;
  no_faults : (g.S.Source.history l.joint.source.now).faults ≡ (g.S.Source.history l.fn.joint.source.now).faults;
  taken : Consumes (g.S.Source.history l.fn.joint.source.now).left (g.S.Source.history l.joint.source.now).left
      (take l.taken l.buf);
}

abbrev pub decreases-loop-taken : goal.decreases-loop-taken
decreases-loop-taken g l = length l.initial.buf - l.taken
