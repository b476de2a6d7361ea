use Rattle.std.proofs.Common.{◌≡◌, ℕ, ◌<◌, List, Some, length, map, slice_get}
use Rattle.pip_search.specs.Stages.{AreStaged, AllHaveOrders}
use Rattle.pip_search.proofs.stages.advance.Given as goal

abbrev pub invariant-loop-goal : goal.invariant-loop-goal
invariant-loop-goal l = record {
  same : l.stages ≡ l.fn.stages;
  goals : l.goals.items ≡ l.fn.goals.items;
  count : length l.all.items ≡ l.goal;
  reached : (goal : ℕ) (orders : List ℕ) → slice_get (map (λ v. v.items) l.all.items) goal ≡ Some orders
      → AllHaveOrders l.targets l.classes l.stages l.width goal orders;
}
