use Rattle.std.proofs.Common.{ℕ, ◌∙◌}
use Rattle.pip_base.specs.declared.types.Access.TheVariants.{Store}
use Rattle.pip_base.specs.declared.types.Size.TheVariants.{Byte}
use Rattle.pip_base.specs.Memory.{Memory}
use Rattle.pip_model.specs.Cache.{Agrees, Places}
use Rattle.pip_model.specs.Partitions.{HasPartition, IsHeld}
use Rattle.pip_model.specs.Reach.{reach}
use Rattle.pip_mmu.specs.Answers.{tree_stored}
use Rattle.pip_mmu.specs.Cached.{HasCached}
use Rattle.pip_mmu.proofs.Places.{stored_found}
use Rattle.pip_test_kernel.proofs.mmu.check_step.Goals as goal

-- who stores a byte stands afterwards
stands_stored : (m n : Memory) (p : ℕ) (c : Places) (s : HasPartition m p) (va byte : ℕ)
    → IsHeld (tree_stored s.tree va Byte byte (reach s.tree p va Store Byte)) n
    → Agrees (tree_stored s.tree va Byte byte (reach s.tree p va Store Byte)) c → HasCached n p c
stands_stored m n p c s va byte after agree = (
  record {
    tree = tree_stored s.tree va Byte byte (reach s.tree p va Store Byte);
    node = s.node;
    sound = after.0;
    laid = after.1;
    found = stored_found s.tree va Byte byte (reach s.tree p va Store Byte) p ∙ s.found;
  },
  agree,
)

pub returns-in-Load : goal.returns-in-Load
returns-in-Load g c =
    let s = c.requires.0 in
    (s, c.load_through.ensures.agrees s.tree s.node s.sound s.laid s.found c.requires.1)

pub returns-in-Fetch : goal.returns-in-Fetch
returns-in-Fetch g c =
    let s = c.requires.0 in
    (s, c.load_through-in-Fetch.ensures.agrees s.tree s.node s.sound s.laid s.found c.requires.1)

pub returns-in-Store : goal.returns-in-Store
returns-in-Store g c =
    let s = c.requires.0 in
    stands_stored (g.M.Frames.memory c.args.mem.now) (g.M.Frames.memory c.store_through.new.mem) c.args.root
    c.store_through.new.cache s c.in-Store.va c.in-Store.byte (c.store_through.ensures.tree s.tree s.node s.sound
    s.laid s.found c.requires.1) (c.store_through.ensures.agrees s.tree s.node s.sound s.laid s.found c.requires.1)
