use Rattle.std.proofs.Common.{◌≡◌, ◌-◌, ◌^◌, Some}
use Rattle.pip_model.specs.Layout.{LaysOut}
use Rattle.pip_model.specs.Sound.{IsSound}
use Rattle.pip_model.specs.Tree.{Node, Tree, find_node}
use Rattle.pip_table.specs.NextLeaf.{start_above}
use Rattle.pip_away.proofs.Walked.{AllFree}
use Rattle.pip_away.proofs.rows.is_childless.Given as goal

-- the rows up to this one are free
abbrev pub invariant-loop-next : goal.invariant-loop-next
invariant-loop-next g l = (t : Tree) (x : Node) (s : IsSound t) → LaysOut t (g.M.Frames.memory l.mem)
    → (found : find_node t l.part ≡ Some x) → AllFree t s l.part x found (start_above l.after)

abbrev pub decreases-loop-next : goal.decreases-loop-next
decreases-loop-next g l = 2 ^ 20 - start_above l.after
