use Rattle.std.proofs.Common.{ℕ, ◌∙◌}
use Rattle.pip_base.specs.declared.types.Access.TheVariants.{Store}
use Rattle.pip_base.specs.declared.types.Size.TheVariants.{Word}
use Rattle.pip_base.specs.Memory.{Memory}
use Rattle.pip_model.specs.Partitions.{HasPartition, IsHeld}
use Rattle.pip_model.specs.Collect.{collect}
use Rattle.pip_model.specs.Prepare.{prepare}
use Rattle.pip_model.specs.Reach.{reach}
use Rattle.pip_kern.proofs.Calls.{gives-tree}
use Rattle.pip_model.specs.Answers.{five_of}
use Rattle.pip_mmu.specs.Answers.{tree_stored}
use Rattle.pip_mmu.proofs.Places.{stored_found}
use Rattle.pip_birth.proofs.CreatePartition.Call.{create-stands}
use Rattle.pip_grow.proofs.CollectTable.Call.{collect-stands}
use Rattle.pip_grow.proofs.PrepareTable.Call.{prepare-stands}
use Rattle.pip_test_kernel.proofs.grow.check_step.Goals as goal

-- who stores a word stands afterwards
stands_stored : (m n : Memory) (p : ℕ) (s : HasPartition m p) (va word : ℕ)
    → IsHeld (tree_stored s.tree va Word word (reach s.tree p va Store Word)) n → HasPartition n p
stands_stored m n p s va word after = record {
  tree = tree_stored s.tree va Word word (reach s.tree p va Store Word);
  node = s.node;
  sound = after.0;
  laid = after.1;
  found = stored_found s.tree va Word word (reach s.tree p va Store Word) p ∙ s.found;
}

pub returns-in-Store : goal.returns-in-Store
returns-in-Store g c =
    let s = c.requires in
    stands_stored (g.M.Frames.memory c.args.mem.now) (g.M.Frames.memory c.store.new.mem) c.args.caller s c.in-Store.va
    c.in-Store.word (c.store.ensures.tree s.tree s.node s.sound s.laid s.found)

pub returns-in-Create : goal.returns-in-Create
returns-in-Create g c =
    let s = c.requires in
    create-stands (g.M.Frames.memory c.args.mem.now) (g.M.Frames.memory c.create_partition.new.mem) c.args.caller s
    (five_of c.in-Create.pages) (c.create_partition.ensures.does.tree s.tree s.node s.sound s.laid s.found)

pub returns-in-Prepare : goal.returns-in-Prepare
returns-in-Prepare g c =
    let s = c.requires in
    let a = c.in-Prepare in
    prepare-stands (g.M.Frames.memory c.args.mem.now) (g.M.Frames.memory c.prepare.new.mem) c.args.caller s a.d a.cv
    a.first (gives-tree (λ t. prepare t c.args.caller a.d a.cv a.first) c.args.caller c.prepare.result
    (g.M.Frames.memory c.args.mem.now) (g.M.Frames.memory c.prepare.new.mem) c.prepare.ensures.does s.tree s.node
    s.sound s.laid s.found)

pub returns-in-Collect : goal.returns-in-Collect
returns-in-Collect g c =
    let s = c.requires in
    let a = c.in-Collect in
    collect-stands (g.M.Frames.memory c.args.mem.now) (g.M.Frames.memory c.collect.new.mem) c.args.caller s a.d a.cv
    (gives-tree (λ t. collect t c.args.caller a.d a.cv) c.args.caller c.collect.result (g.M.Frames.memory
    c.args.mem.now) (g.M.Frames.memory c.collect.new.mem) c.collect.ensures.does s.tree s.node s.sound s.laid s.found)
