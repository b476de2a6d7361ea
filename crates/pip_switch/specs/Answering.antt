-- What a call that doesn't switch answers.
use Rattle.std.specs.Prelude.{ℕ, Bool, false}
use Rattle.pip_base.specs.declared.outcome.Status.TheVariants as S
use Rattle.pip_model.specs.Answers.{Answer, Five, accept, refuse}
use Rattle.pip_model.specs.Happens.{answer, takes_pages}
use Rattle.pip_model.specs.declared.call_name.CallName.{CallName}
use Rattle.pip_model.specs.declared.call_name.CallName.TheVariants.{Masks, OnMemory, Unknown, Yields}
use Rattle.pip_model.specs.Worlds.{World, with_masked}

-- by its name; yield is not asked for here
abbrev pub answer_named : CallName → World → ℕ → Five → Answer
answer_named (OnMemory c) w p a = answer c w p a
answer_named Yields w p a = refuse w.tree S.UnknownCall
answer_named (Masks b) w p a = accept 0 (with_masked p b w.tree)
answer_named Unknown w p a = refuse w.tree S.UnknownCall

-- whether it takes pages from a partition, where it is accepted with this value
abbrev pub takes_by_name : CallName → ℕ → Bool
takes_by_name (OnMemory c) value = takes_pages c value
takes_by_name Yields value = false
takes_by_name (Masks b) value = false
takes_by_name Unknown value = false
