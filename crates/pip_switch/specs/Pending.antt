-- Pending lines as the bits of a word, and the line that is taken.
use Rattle.std.specs.Prelude.{◌≡◌, ◌+◌, ◌^◌, ℕ, List, find, is_some, sum_by, Option, Some, None}
use Rattle.pip_base.specs.Memory.{Memory}
use Rattle.pip_base.specs.declared.outcome.Outcome.{Outcome}
use Rattle.pip_base.specs.declared.outcome.Outcome.TheVariants as O
use Rattle.pip_base.specs.declared.types.Ctx.{Ctx}
use Rattle.pip_model.specs.Handlers.{handler}
use Rattle.pip_model.specs.Layout.{LaysOut}
use Rattle.pip_model.specs.Sound.{AreLines, IsSound}
use Rattle.pip_model.specs.Tree.{Tree}
use Rattle.pip_model.specs.declared.processors.Occupant.{Occupant}

-- the word in which the bits of these lines are set
abbrev pub line_bits : List ℕ → ℕ
line_bits js = sum_by (λ j. 2 ^ j) js

-- the bits of rising lines below 16
pub record LineBits (bits : ℕ) : Type 0 where
  pub lines : List ℕ
  pub rise : AreLines 0 lines
  pub sum : bits ≡ line_bits lines

-- the bits of the lines that are pending, whatever tree the memory lays out
abbrev pub ArePending : Memory → ℕ → Type 0
ArePending m bits = (t : Tree) → IsSound t → LaysOut t m → bits ≡ line_bits t.root.pending

-- the lowest of these lines that the root handles, and where
abbrev pub Chosen : Tree → List ℕ → Option (ℕ × Ctx) → Type 0
Chosen t js None = find (λ j. is_some (handler t t.root.name (32 + j))) js ≡ None
Chosen t js (Some y) =
    (find (λ j. is_some (handler t t.root.name (32 + j))) js ≡ Some y.0)
    × (handler t t.root.name (32 + y.0) ≡ Some y.1)

-- what a poll answers where no line is taken
abbrev pub polled_outcome : Option Occupant → Outcome
polled_outcome None = O.Idle
polled_outcome (Some r) = O.Done
