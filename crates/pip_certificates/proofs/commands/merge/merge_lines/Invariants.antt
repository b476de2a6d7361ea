use Rattle.std.proofs.Common.{◌≡◌}
use Rattle.pip_certificates.specs.Seen.{merging_of}
use Rattle.pip_certificates.proofs.MergeReads.{IsAfterLines}
use Rattle.pip_certificates.proofs.commands.merge.merge_lines.Given as goal

-- the lines before were merged
abbrev pub invariant-loop-before : goal.invariant-loop-before
invariant-loop-before g l = record {
  at : IsAfterLines l.before (merging_of l.merger) l.reader (g.S.Source.history l.fn.joint.source.now).left
      (g.S.Source.history l.joint.source.now).left;
  name : l.joint.source.ghost_name ≡ l.fn.joint.source.ghost_name;
  sink : l.joint.sink ≡ l.fn.joint.sink;
  is_open : g.S.Source.is_open l.joint.source.now;
  no_faults : (g.S.Source.history l.joint.source.now).faults ≡ (g.S.Source.history l.fn.joint.source.now).faults;
}
