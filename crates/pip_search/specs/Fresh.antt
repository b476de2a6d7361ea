-- The visit that was added last.
use Rattle.std.specs.Prelude.{ℕ, ◌<◌, List, length}
use Rattle.pip_search.specs.Keys.{Keyed, IsAtHand}

-- where a visit is fresh, these are the words of its key
abbrev pub AreFresh : List Keyed → ℕ → List ℕ → Type 0
AreFresh vs fresh words = 0 < fresh → (fresh < length vs) × IsAtHand vs fresh words
