-- What a callback is kept beside.
use Rattle.std.specs.Prelude.{◌≡◌, ℕ, ◌<◌, ◌^◌, Bool}
use Rattle.pip_base.specs.declared.types.Plan.{Plan}
use Rattle.pip_model.specs.Due.{is_due}

-- it may be asked at each step, and each answer that it may give there says whether the plan is due
abbrev pub AnswersDue : (ℕ → Type 0) → (ℕ → Bool → Type 0) → Plan → Type 0
AnswersDue may_ask answers plan = (t : ℕ) → t < 2 ^ 64 → may_ask t × ((r : Bool) → answers t r → r ≡ is_due plan t)
