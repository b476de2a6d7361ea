use Rattle.std.proofs.Common.{◌≡◌, ◌+◌, ◌-◌}
use Rattle.pip_asm.specs.Names.{found_in}
use Rattle.pip_asm.proofs.names.found_in.Given as goal

-- the places so far don't have the name
abbrev pub invariant-loop-i : goal.invariant-loop-i
invariant-loop-i l = found_in l.slots l.mark l.name l.i (l.home + 8 - l.i) ≡ found_in l.slots l.mark l.name l.home 8
