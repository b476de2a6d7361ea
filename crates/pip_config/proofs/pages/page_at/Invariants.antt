use Rattle.std.proofs.Common.{◌≡◌, ℕ, ◌+◌, ◌≤◌, List, length}
use Rattle.pip_base.specs.declared.types.Pair.{Pair}
use Rattle.pip_model.specs.Tree.{Table}
use Rattle.pip_config.specs.Lists.{PagesIn, list_frame}
use Rattle.pip_config.proofs.pages.page_at.Given as goal

-- page is the next list page of every list
abbrev pub invariant-loop : goal.invariant-loop
invariant-loop g l = record {
  frame : (more : List Pair) (slot : ℕ → Table) → PagesIn (g.M.Frames.memory l.mem) l.fn.first more slot
      → l.counter ≤ length more → l.page ≡ list_frame l.fn.first more l.counter;
  steps : l.steps ≡ l.fn.steps + l.counter;
}
