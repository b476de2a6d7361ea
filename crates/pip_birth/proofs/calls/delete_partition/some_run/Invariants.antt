use Rattle.std.proofs.Common.{ℕ, ◌+◌, ◌<◌, ◌≤◌, slice_index_or, take}
use Rattle.pip_model.specs.Partitions.{InEach, IsHeld}
use Rattle.pip_model.specs.Tree.{Tree}
use Rattle.pip_model.specs.Work.{climbing_work}
use Rattle.pip_model.specs.Midway.{OnChain}
use Rattle.pip_birth.proofs.calls.delete_partition.some_run.Given as goal

-- none so far is the partition, or is below it
abbrev pub invariant-loop-part : goal.invariant-loop-part
invariant-loop-part g l = record {
  none : InEach (g.M.Frames.memory l.fn.mem) l.top
      (λ t x. (k d : ℕ) → k < l.part-index → OnChain t l.top (slice_index_or l.running k d) → ⊥);
  chains : (t : Tree) → IsHeld t (g.M.Frames.memory l.fn.mem)
      → l.steps ≤ l.fn.steps + climbing_work t (take l.part-index l.running);
}
