use Rattle.std.proofs.Common.{◌≡◌, ◌+◌, ◌*◌, ◌≤◌, Some}
use Rattle.pip_switch.specs.Plain.{plain_world}
use Rattle.pip_model.specs.Layout.{LaysOut}
use Rattle.pip_model.specs.Partitions.{HasPartition}
use Rattle.pip_model.specs.Sound.{IsSound}
use Rattle.pip_model.specs.Tree.{Node, Tree, find_node}
use Rattle.pip_switch.proofs.Rising.{Rise}
use Rattle.pip_switch.proofs.delivery.find_taker.Given as goal

-- i steps up, and no partition took the vector so far
abbrev pub invariant-loop-i : goal.invariant-loop-i
invariant-loop-i g l = record {
  stands : HasPartition (g.M.Frames.memory l.mem) l.at;
  rise : (t : Tree) (x : Node) → IsSound t → LaysOut t (g.M.Frames.memory l.mem) → find_node t l.fn.part ≡ Some x
      → Rise t (plain_world t l.cpus) l.vector l.fn.part l.at l._i;
  steps : l.steps ≤ l.fn.steps + 8 * l._i;
}
