use Rattle.std.proofs.Common.{◌≡◌, drop}
use Rattle.pip_model.specs.Lists.{repeats}
use Rattle.pip_birth.proofs.calls.create_partition.repeats.Given as goal

-- no address so far occurs twice
abbrev pub invariant-loop-i : goal.invariant-loop-i
invariant-loop-i l = repeats l.pages ≡ repeats (drop l.i l.pages)
