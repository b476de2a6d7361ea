-- A machine at a moment of a search.
use Rattle.std.specs.Prelude.{◌≡◌, ℕ, List, [], length}
use Rattle.pip_model.specs.Acts.{text_of}
use Rattle.pip_model.specs.Worlds.{World}
use Rattle.pip_switch.specs.Standing.{StandsAs, State}
use Rattle.pip_every.specs.Menus.{Menu, Pick, menu_after, menu_label, pick_acts, pick_after}
use Rattle.pip_every.specs.Moments.{Moment, Scope, moment_after, choice_label}
use Rattle.pip_every.specs.declared.menus.May.{May}

-- the scope of a search with a machine: its processors, some lines, and the number of turns before they are raised
abbrev pub machine_scope : State → List ℕ → ℕ → Scope
machine_scope p lines from = record { cpus = length p.cpus; lines = lines; from = from }

-- and with a menu
abbrev pub machine_menu : State → List ℕ → ℕ → List May → Menu
machine_menu p lines from may = record { scope = machine_scope p lines from; may = may }

-- a machine stands for a world, but that it has caches of its own
abbrev pub IsAtWorld : State → World → Type 0
IsAtWorld p w = StandsAs p (record w { caches = p.caches })

-- a machine is at the world of a moment; by then this many turns were made, and this was shown
pub record IsMade (m : Moment) (shown : List ℕ) (p : State) (turns : ℕ) (label : List ℕ) : Type 0 where
  pub world : IsAtWorld p m.world
  pub turns_are : turns ≡ m.turns
  pub label_is : label ≡ shown

-- a choice of the search without a menu was made
abbrev pub HasChosen : Scope → Moment → ℕ → State → ℕ → List ℕ → Type 0
HasChosen g m choice p turns label = IsMade (moment_after g m choice) (choice_label g m choice) p turns label

-- and one with a menu, which is this
abbrev pub HasPicked : Menu → Moment → ℕ → Pick → State → ℕ → List ℕ → Type 0
HasPicked g m k p q turns label = IsMade (pick_after g m k p) (text_of (pick_acts g m k p)) q turns label

-- a choice leads from a moment to the same one, and shows nothing
abbrev pub ChangesNothing : Menu → Moment → ℕ → Type 0
ChangesNothing g m k = (menu_after g m k ≡ m) × (menu_label g m k ≡ [])
