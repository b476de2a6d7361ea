-- What is chosen by tests has what each of the choices has.
use Rattle.std.proofs.Common.{◌≡◌, ◌&&◌, Bool, true, false, cond, refl, Option, None, Some}

-- what is there has this
abbrev pub AreWithin : {C : Type 0} → (C → Type 0) → Option C → Type 0
AreWithin has None = Unit {0}
AreWithin has (Some c) = has c

pub both : (a b : Bool) → (a && b) ≡ true → (a ≡ true) × (b ≡ true)
both true true e = (refl, refl)
both true false e = cc
both false b e = cc

module _ {C : Type 0} (has : C → Type 0) where
  pub first_or : (a : Bool) (v w : Option C) → AreWithin has v → AreWithin has w → AreWithin has (cond a v w)
  first_or true v w h i = h
  first_or false v w h i = i

  -- what a test lets through has it
  pub tested : (a : Bool) (v : Option C) → (a ≡ true → AreWithin has v) → AreWithin has (cond a v None)
  tested true v h = h refl
  tested false v h = tt
