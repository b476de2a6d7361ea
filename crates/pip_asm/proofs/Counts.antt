-- Operands by their count.
use Rattle.std.specs.Prelude.{◌≡◌, ◌≢◌, ℕ, ◌==◌, cond, List, length, Result, Err}
use Rattle.std.proofs.Common.{ap, arith}
use Rattle.std.proofs.lemmas.Bool.Decides.{nat_tests}
use Rattle.pip_model.specs.AsmLines.{held}
use Rattle.pip_model.specs.AsmWords.{Cell}
use Rattle.pip_model.specs.declared.assembly.AsmKind.{AsmKind}
use Rattle.pip_model.specs.declared.assembly.AsmKind.TheVariants as K

-- there are fewer or more than the line has to have
pub miscounted : {A : Type 0} (k : ℕ) (xs : List (List ℕ)) (r : Result A AsmKind) → length xs ≢ k
    → Err K.Operand ≡ cond (length xs == k) r (Err K.Operand)
miscounted k xs r n = grind (arith, nat_tests, n)

pub none_held : (k : ℕ) (xs : List (List ℕ)) (r : Result Cell AsmKind) → length xs ≢ k
    → Err K.Operand ≡ held (cond (length xs == k) r (Err K.Operand))
none_held k xs r n = ap held (miscounted k xs r n)
