use Rattle.std.proofs.Common.{◌≡◌, ◌^◌, ◌-◌, ◌≤◌, Some}
use Rattle.pip_model.specs.Layout.{LaysOut}
use Rattle.pip_model.specs.Sound.{IsSound}
use Rattle.pip_model.specs.Tree.{Node, Tree, find_node}
use Rattle.pip_dump.specs.Walk.{children_above}
use Rattle.pip_dump.proofs.place.next_child.Given as goal

-- no child was passed
abbrev pub invariant-loop-i : goal.invariant-loop-i
invariant-loop-i g l = record {
  high : l.v ≤ 2 ^ 20;
  passed : (t : Tree) (x : Node) → IsSound t → LaysOut t (g.M.Frames.memory l.fn.mem) → find_node t l.part ≡ Some x
      → children_above t x l.v ≡ children_above t x l.from;
}

abbrev pub decreases-loop-i : goal.decreases-loop-i
decreases-loop-i g l = 2 ^ 20 - l.v
