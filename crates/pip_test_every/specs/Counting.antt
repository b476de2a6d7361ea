-- Two counters, each below a bound.
use Rattle.std.specs.Prelude.{◌≡◌, ℕ, ◌+◌, ◌%◌, ◌<◌, ◌==◌, ◌&&◌, if◌then◌else◌, List, [], ◌∷◌}
use Rattle.pip_search.specs.Systems.{Model}

-- one more, and 0 at the bound
abbrev pub counted_up : ℕ → ℕ → ℕ
counted_up n k = (k + 1) % n

-- choice 0 counts the first one up, and any other choice the second one
abbrev pub act_on : ℕ → ℕ × ℕ → ℕ → ℕ × ℕ
act_on n s c = if c == 0 then (counted_up n s.0, s.1) else (s.0, counted_up n s.1)

-- where a counter comes to 0 again a byte is shown, and another one where both come to their last number
abbrev pub shown_at : ℕ → ℕ → ℕ × ℕ → List ℕ
shown_at n k s = if k == 0 then 7 ∷ [] else if (s.0 + 1 == n) && (s.1 + 1 == n) then 9 ∷ [] else []

-- the key has both numbers, and they are below the bound
abbrev pub HasCounts : ℕ → List ℕ → ℕ × ℕ → Type 0
HasCounts n key s = (key ≡ s.0 ∷ s.1 ∷ []) × ((s.0 < n) × (s.1 < n))

-- the two counters as a system of states
abbrev pub counters : ℕ → Model
counters n = record {
  State = ℕ × ℕ;
  choices = 2;
  act = act_on n;
  label = λ s c. shown_at n (if c == 0 then counted_up n s.0 else counted_up n s.1) (act_on n s c);
  stands = HasCounts n;
}
