use Rattle.std.proofs.Common.{◌≡◌}
use Rattle.pip_switch.proofs.Emptying.{emptied_to}
use Rattle.pip_switch.proofs.caches.empty_all.Given as goal

-- those before are empty
abbrev pub invariant-loop-i : goal.invariant-loop-i
invariant-loop-i l = l.caches.items ≡ emptied_to l.i l.fn.caches.items
