use Rattle.std.proofs.Common.{◌≡◌, Some}
use Rattle.pip_model.specs.Layout.{LaysOut}
use Rattle.pip_model.specs.Partitions.{HasPartition}
use Rattle.pip_model.specs.Sound.{IsSound}
use Rattle.pip_model.specs.Tree.{Node, Tree, find_node}
use Rattle.pip_away.specs.Blind.{sight_of}
use Rattle.pip_away.proofs.Above.{Ascent}
use Rattle.pip_away.proofs.delivery.above_miss.Given as goal

-- a number of steps up, and all that were passed miss
abbrev pub invariant-loop-i : goal.invariant-loop-i
invariant-loop-i g l = record {
  stands : HasPartition (g.M.Frames.memory l.mem) l.at;
  rise : (t : Tree) (x : Node) (s : IsSound t) → LaysOut t (g.M.Frames.memory l.mem) → find_node t l.fn.part ≡ Some x
      → Ascent l.blind.own.items (sight_of l.blind) t s l.cpus l.vector l.fn.part l.at l._i;
}
