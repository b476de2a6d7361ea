use Rattle.std.proofs.Common.{◌≡◌, ◌+◌, ◌-◌}
use Rattle.pip_asm.specs.Names.{has_free}
use Rattle.pip_asm.proofs.names.free_in.Given as goal

-- the places so far aren't free
abbrev pub invariant-loop-i : goal.invariant-loop-i
invariant-loop-i l = has_free l.slots l.i (l.home + 8 - l.i) ≡ has_free l.slots l.home 8
