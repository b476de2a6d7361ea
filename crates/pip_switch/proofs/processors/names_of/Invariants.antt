use Rattle.std.proofs.Common.{◌≡◌, ◌≤◌, take}
use Rattle.arrayvec.specs.ArrayVec.{array_vec_len}
use Rattle.pip_switch.specs.Occupied.{names_on}
use Rattle.pip_switch.proofs.processors.names_of.Given as goal

-- the names so far
abbrev pub invariant-loop-cpu : goal.invariant-loop-cpu
invariant-loop-cpu l = record {
  names : l.names.items ≡ names_on (take l.cpu-index l.cpu-items);
  room : array_vec_len l.names ≤ l.cpu-index;
}
