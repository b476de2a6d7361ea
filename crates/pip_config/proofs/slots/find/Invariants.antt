use Rattle.std.proofs.Common.{◌≡◌, ◌≢◌, ℕ, ◌+◌, ◌<◌, ◌≤◌, ◌-◌, ◌/◌, List, length}
use Rattle.pip_base.specs.declared.types.Pair.{Pair}
use Rattle.pip_model.specs.Tree.{Table}
use Rattle.pip_model.specs.NodeWords.{slots}
use Rattle.pip_config.specs.Lists.{ListIn, list_frame}
use Rattle.pip_config.proofs.slots.find.Given as goal

-- page is that of the last place so far, and no place so far has the table
abbrev pub invariant-loop-k : goal.invariant-loop-k
invariant-loop-k g l = record {
  place : (more : List Pair) (ts : List Table) → ListIn (g.M.Frames.memory l.mem) l.fn.first more ts
      → length ts ≡ l.m → record {
        page : l.page ≡ list_frame l.fn.first more ((l.k - 1) / 170);
        none : (j : ℕ) → j < l.k → (slots ts j).mmu.frame ≢ l.table;
      };
  steps : l.steps ≤ l.fn.steps + l.k + (l.k - 1) / 170;
}
