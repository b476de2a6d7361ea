-- An access that its processor's cache can translate.
use Rattle.std.specs.Prelude.{◌≡◌, ◌+◌, ◌≤◌, ℕ, IsSome, List, Option, Some}
use Rattle.pip_base.specs.declared.outcome.Outcome.{Outcome}
use Rattle.pip_model.specs.Cache.{Places, cache_at, holding}
use Rattle.pip_model.specs.Local.{Succeeded}
use Rattle.pip_model.specs.Tree.{vpage}
use Rattle.pip_model.specs.declared.processors.Occupant.{Occupant}
use Rattle.pip_switch.specs.Occupied.{on_cpu}

-- what runs there accesses this address, and the cache holds its page
abbrev pub Hits : List Places → List (Option Occupant) → ℕ → (Occupant → ℕ) → Type 0
Hits ks cs cpu address =
    (r : Occupant) × (on_cpu cs cpu ≡ Some r) × IsSome (holding (cache_at ks cpu) r.name (vpage (address r)))

-- then an access that is answered reads one word at most, by the counter that it was given
abbrev pub HitReadsOne : List Places → List (Option Occupant) → ℕ → (Occupant → ℕ) → Outcome → ℕ → ℕ → Type 0
HitReadsOne ks cs cpu address answer before after = Hits ks cs cpu address → Succeeded answer → after ≤ before + 1
