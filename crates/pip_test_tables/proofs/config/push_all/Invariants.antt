use Rattle.std.proofs.Common.{◌≡◌, length}
use Rattle.pip_config.specs.Lists.{HasList}
use Rattle.pip_test_tables.proofs.config.push_all.Given as goal

-- the slots pushed so far are in two pages
abbrev pub invariant-loop-m : goal.invariant-loop-m
invariant-loop-m g l = (h : HasList (g.M.Frames.memory l.mem) l.first l.m) × (length h.more ≡ 1)
