-- What a call of the kernel does and answers, by what the model's call says of a tree.
use Rattle.std.specs.Prelude.{◌≡◌, ◌≢◌, ℕ, Bool, true, false, length, Result, MatchResult}
use Rattle.pip_base.specs.Memory.{Memory}
use Rattle.pip_base.specs.declared.outcome.Status.{Status}
use Rattle.pip_base.specs.declared.outcome.Status.TheVariants as S
use Rattle.pip_model.specs.Answers.{Answer}
use Rattle.pip_model.specs.Partitions.{InEach, IsHeld}
use Rattle.pip_model.specs.Tree.{Tree}

-- the status of a call that was carried out
abbrev pub is_ok : Status → Bool
is_ok S.Ok = true
is_ok other = false

-- what a call that has a value answers: with the status Ok the value, or another status and no value
abbrev pub IsAnswer : Result ℕ Status → Answer → Type 0
IsAnswer r a = MatchResult r (λ v. (a.status ≡ S.Ok) × (a.value ≡ v)) (λ s. (a.status ≡ s) × (s ≢ S.Ok) × (a.value ≡ 0))

-- a call of the partition p answers this status and this value, and leaves the memory n where m was
pub record Does (call : Tree → Answer) (p : ℕ) (status : Status) (value : ℕ) (m n : Memory) : Type 0 where
  pub answer : InEach m p (λ t x. (status ≡ (call t).status) × (value ≡ (call t).value))
  pub tree : InEach m p (λ t x. IsHeld (call t).tree n)
  pub refused : status ≢ S.Ok → n ≡ m
  pub count : length n ≡ length m

-- a call that has a value answers it with the status Ok, or another status and no value
abbrev pub DoesWithValue : (Tree → Answer) → ℕ → Result ℕ Status → Memory → Memory → Type 0
DoesWithValue call p r m n = MatchResult r (λ v. Does call p S.Ok v m n) (λ s. (s ≢ S.Ok) × Does call p s 0 m n)
