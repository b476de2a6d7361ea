-- When a source or a sink may say that it failed, and how its counts go.
use Rattle.std.specs.Prelude.{◌≡◌, ℕ, ◌+◌, ◌-◌, ◌^◌, ◌≤◌, ◌==◌, min, if◌then◌else◌, Bool, List, Result, OnOk, OnErr}
use Rattle.std.specs.Prelude.{is_err}
use Rattle.std.specs.List.{list_any}

-- one more, where a count stands still at 2^64 - 1
abbrev pub next_count : ℕ → ℕ
next_count count = min (count + 1) (2 ^ 64 - 1)

-- a count is one more than before, as far as it goes
abbrev pub RoseByOne : ℕ → ℕ → Type 0
RoseByOne before now = now ≡ next_count before

-- the count of faults has not fallen, it is one more where a call failed, and one that succeeded left it as it was
pub record HasCause {T E : Type 0} (before now : ℕ) (result : Result T E) : Type 0 where
  pub later : before ≤ now
  pub failed : OnErr result (RoseByOne before now)
  pub no_faults : OnOk result (now ≡ before)

-- the count of faults after a call: one more exactly where it failed
abbrev pub faults_after : {T E : Type 0} → Result T E → ℕ → ℕ
faults_after result before = if is_err result then next_count before else before

-- whether a call's number is in the list of those that fail
abbrev pub is_listed : List ℕ → ℕ → Bool
is_listed failing number = list_any (λ call. call == number) failing
