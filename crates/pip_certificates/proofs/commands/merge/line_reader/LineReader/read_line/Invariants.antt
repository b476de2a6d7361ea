use Rattle.std.proofs.Common.{◌≡◌, ◌-◌, ◌^◌, [], length}
use Rattle.pip_certificates.proofs.LineReads.{IsReading}
use Rattle.pip_certificates.proofs.commands.merge.line_reader.LineReader.read_line.Given as goal

-- nothing is held, and the line goes on
abbrev pub invariant-loop-line : goal.invariant-loop-line
invariant-loop-line g l = record {
  none : l.self ≡ [];
  reading : IsReading l.fn.self (g.S.Source.history l.fn.joint.source.now).left
      (g.S.Source.history l.joint.source.now).left
      l.line.items;
  name : l.joint.source.ghost_name ≡ l.fn.joint.source.ghost_name;
  sink : l.joint.sink ≡ l.fn.joint.sink;
  is_open : g.S.Source.is_open l.joint.source.now;
  no_faults : (g.S.Source.history l.joint.source.now).faults ≡ (g.S.Source.history l.fn.joint.source.now).faults;
}

abbrev pub decreases-loop-line : goal.decreases-loop-line
decreases-loop-line g l = 2 ^ 63 - length l.line.items
