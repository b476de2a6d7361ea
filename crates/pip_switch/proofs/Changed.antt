-- A context with another pc, or another register, is one.
use Rattle.std.proofs.Common.{◌≡◌, ℕ, zero, suc, List, [], ◌∷◌, refl, ◌∙◌, Option, Some, None}
use Rattle.std.specs.Prelude.{slice_set}
use Rattle.std.specs.List.{AllByRecursion}
use Rattle.std.proofs.Math.ListN.{length-set}
use Rattle.pip_base.specs.Memory.{Memory}
use Rattle.pip_model.specs.Sound.{IsContext, IsWord}
use Rattle.pip_model.specs.Worlds.{World, ctx_of, ctx_on, runs_on}
use Rattle.pip_model.specs.declared.processors.Occupant.{Occupant}
use Rattle.pip_model.proofs.Events.Soundness.{first_context}
use Rattle.pip_switch.specs.Standing.{StandsFor}

-- what runs has one, and so has an idle processor
context_there : (m : Memory) (cs : List (Option Occupant)) (w : World) → StandsFor m cs w → (cpu : ℕ)
    → IsContext (ctx_on w cpu)
context_there m cs w s cpu = go (runs_on w cpu) refl
  where
    go : (o : Option Occupant) → runs_on w cpu ≡ o → IsContext (ctx_of o)
    go None e = first_context
    go (Some r) e = s.sound.contexts cpu r e

words_set : (xs : List ℕ) (i v : ℕ) → IsWord v → AllByRecursion IsWord xs → AllByRecursion IsWord (slice_set xs i v)
words_set [] i v w h = tt
words_set (x ∷ xs) zero v w h = (w, h.1)
words_set (x ∷ xs) (suc i) v w h = (h.0, words_set xs i v w h.1)

module _ {m : Memory} {cs : List (Option Occupant)} (w : World) (s : StandsFor m cs w) (cpu pc : ℕ) where
  pub pc_set : IsWord pc → IsContext (record (ctx_on w cpu) { pc = pc })
  pc_set p = let k = context_there m cs w s cpu in record { pc = p; count = k.count; regs = k.regs }

  pub register_set : (a v : ℕ) → IsWord pc → IsWord v
      → IsContext (record { pc = pc; regs = slice_set (ctx_on w cpu).regs a v })
  register_set a v p word = let k = context_there m cs w s cpu in record {
    pc = p;
    count = length-set (ctx_on w cpu).regs a v ∙ k.count;
    regs = words_set (ctx_on w cpu).regs a v word k.regs;
  }
