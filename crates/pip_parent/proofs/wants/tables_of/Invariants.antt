use Rattle.std.proofs.Common.{◌≡◌, ◌≤◌}
use Rattle.pip_parent.specs.Seen.{KnowsDirectories}
use Rattle.pip_parent.specs.Wants.{opened_before}
use Rattle.pip_parent.proofs.wants.tables_of.Given as goal

abbrev pub invariant-loop-i : goal.invariant-loop-i
invariant-loop-i l = record {
  tables : l.tables ≡ opened_before l.wants l.i;
  most : l.tables ≤ l.i;
  known : KnowsDirectories l.directories l.wants l.i;
}
