-- Words that are 0.
use Rattle.std.proofs.Common.{ℕ, inl, inr, List}
use Rattle.std.proofs.lemmas.Bool.{cases_lt}
use Rattle.pip_table.specs.NextWord.{AreZero}

-- words of 0 after words of 0
pub zeros_more : (ws : List ℕ) (j k end : ℕ) → AreZero ws j k → AreZero ws k end → AreZero ws j end
zeros_more ws j k end first rest i above below =
    elim (cases_lt i k) [ inl low ↦ first i above low | inr high ↦ rest i high below ]
