use Rattle.std.proofs.Common.{◌≡◌, ℕ, ap, arith}
use Rattle.pip_base.specs.Memory.{Memory}
use Rattle.pip_model.specs.Boot.{boot_root, boot_tree}
use Rattle.pip_model.specs.Layout.{LaysOut}
use Rattle.pip_model.specs.Partitions.{HasPartition}
use Rattle.pip_model.specs.Tree.{find_node}
use Rattle.pip_model.proofs.Trees.Boot.{boot-sound}
use Rattle.pip_test_kernel.proofs.birth.check_end.Goals as goal

-- the root stands after boot
root_stands : (n : ℕ) → n ≡ 32 → (m : Memory) → LaysOut (boot_tree n) m → (part : ℕ) → part ≡ 1 → HasPartition m part
root_stands n n_is m lays part part_is = record {
  tree = boot_tree n;
  node = boot_root n;
  sound = boot-sound n (omega arith) (omega arith);
  laid = lays;
  found = ap (find_node (boot_tree n)) part_is;
}

pub check_call-requires : goal.check_call-requires
check_call-requires g c = root_stands _ c.requires.frames (g.M.Frames.memory c.boot.new.mem) c.boot.ensures.layout
    c.new-root.result c.new-root.ensures
