use Rattle.std.proofs.Common.{◌≡◌, Some}
use Rattle.pip_model.specs.Layout.{LaysOut}
use Rattle.pip_model.specs.Sound.{IsSound}
use Rattle.pip_model.specs.Tree.{Node, Tree, find_node}
use Rattle.pip_table.specs.NextLeaf.{start_above}
use Rattle.pip_away.proofs.Walked.{Fitting}
use Rattle.pip_away.proofs.rows.has_rows.Given as goal

-- the rows up to this one are those that are named first
abbrev pub invariant-loop-k : goal.invariant-loop-k
invariant-loop-k g l = (t : Tree) (x : Node) (s : IsSound t) → LaysOut t (g.M.Frames.memory l.mem)
    → (found : find_node t l.part ≡ Some x)
    → Fitting t s l.part x found l.rows l.owner l.k (start_above l.after)
