-- A machine has a processor, so no boot line is in its grammar.
use Rattle.std.proofs.Common.{◌≡◌, ℕ, length, arith, subst}
use Rattle.std.proofs.Math.Logic.{∥∥₁_elim}
use Rattle.std.proofs.Props.{props}
use Rattle.pip_model.specs.Port.{StandsForSome}
use Rattle.pip_model.specs.Worlds.{IsSoundWorld, World}
use Rattle.pip_model.specs.declared.script.ScriptLine.{ScriptLine}
use Rattle.pip_model.specs.declared.script.ScriptLine.TheVariants.{Boot}
use Rattle.pip_script.specs.Proper.{IsProperEvent}

-- stands and count are what the machine stands for, and the number of its processors
module _ (stands : World → Type 0) (count : ℕ) (some : StandsForSome stands)
    (sound : (w : World) → stands w → IsSoundWorld w × (length w.cpus ≡ count)) where
  not_none : count ≡ 0 → ⊥
  not_none none = ∥∥₁_elim some (hlevel props) (λ (k : (w : World) × stands w). let s = sound k.0 k.1 in
      let few = s.0.at_least_one in let is = s.1 in absurd (omega (arith, few, is, none)))

  pub no_boot : (line : ScriptLine) (n c : ℕ) → line ≡ Boot n c → IsProperEvent count line → ⊥
  no_boot line n c is proper = not_none (subst (IsProperEvent count) is proper).0
