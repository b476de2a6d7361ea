use Rattle.std.proofs.Common.{◌≡◌, length}
use Rattle.pip_model.specs.Cache.{empty_caches}
use Rattle.pip_switch.proofs.caches.new_caches.Given as goal

-- the caches so far
abbrev pub invariant-loop-i : goal.invariant-loop-i
invariant-loop-i l = record {
  items : l.caches.items ≡ empty_caches l._i;
  count : length l.caches.items ≡ l._i;
}
