use Rattle.std.proofs.Common.{◌≡◌, ℕ, ◌+◌, ◌<◌, ◌≤◌, length, slice_index}
use Rattle.pip_search.specs.Stages.{OrdersLead, zeros_in}
use Rattle.pip_search.proofs.stages.reach.Given as goal

abbrev pub invariant-loop-order : goal.invariant-loop-order
invariant-loop-order l = record {
  count : length l.orders.items ≡ length l.stages;
  ordered : OrdersLead l.targets l.classes l.stages l.width l.goal l.orders.items;
  below : (j : ℕ) → slice_index l.orders.items j < l.order;
  falls : zeros_in l.orders.items + l.order ≤ length l.stages + 1;
}
