use Rattle.pip_audit.specs.Comparing.{tree_in}
use Rattle.pip_audit.specs.Judging.{KeepsBefore}
use Rattle.pip_audit.specs.Reading.{IsRead}
use Rattle.pip_audit.proofs.auditor.Auditor.broken_part.Given as goal

-- it keeps to the parts so far
abbrev pub invariant-loop-part : goal.invariant-loop-part
invariant-loop-part g l = record {
  read : IsRead (g.M.Frames.memory l.mem) l.self;
  before : KeepsBefore l.part (tree_in (g.M.Frames.memory l.mem));
}
