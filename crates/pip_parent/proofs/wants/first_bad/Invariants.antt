use Rattle.std.proofs.Common.{◌≡◌, ◌<◌, ℕ, false}
use Rattle.pip_parent.specs.Seen.{KnowsAddresses}
use Rattle.pip_parent.specs.Wants.{is_bad}
use Rattle.pip_parent.proofs.wants.first_bad.Given as goal

abbrev pub invariant-loop-i : goal.invariant-loop-i
invariant-loop-i l = record {
  fits : (j : ℕ) → j < l.i → is_bad l.wants j ≡ false;
  known : KnowsAddresses l.addresses l.wants l.i;
}
