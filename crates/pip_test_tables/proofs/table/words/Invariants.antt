use Rattle.pip_table.specs.Table.{IsDirectory}
use Rattle.pip_test_tables.proofs.table.words.Given as goal

-- the table stays one
abbrev pub invariant-loop-number : goal.invariant-loop-number
invariant-loop-number g l = IsDirectory (g.M.Frames.memory l.mem) l.top

abbrev pub invariant-loop-from : goal.invariant-loop-from
invariant-loop-from g l = IsDirectory (g.M.Frames.memory l.mem) l.top

abbrev pub invariant-loop-number-2 : goal.invariant-loop-number-2
invariant-loop-number-2 g l = IsDirectory (g.M.Frames.memory l.mem) l.top
