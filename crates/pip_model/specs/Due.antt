-- When the line of a plan is raised.
use Rattle.std.specs.Prelude.{ℕ, ◌-◌, ◌%◌, ◌==◌, ◌&&◌, ◌||◌, nat_lt, not, Bool}
use Rattle.pip_base.specs.declared.types.Plan.{Plan}

-- at its first step; and later each time its period has passed, where that is not 0
abbrev pub is_due : Plan → ℕ → Bool
is_due plan t =
    t == plan.first || nat_lt plan.first t && (not (plan.period == 0) && (t - plan.first) % plan.period == 0)
