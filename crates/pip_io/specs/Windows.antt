-- What was read and not yet taken.
use Rattle.std.specs.Prelude.{◌≡◌, ℕ, ◌-◌, ◌≤◌, List, ◌++◌, length, take, drop, Option, Result, MatchResult}
use Rattle.std.specs.Io.KnownBytes.{Consumes, IsAtEnd, Keeps}
use Rattle.pip_io.specs.declared.window.Window.{Window}

-- its bytes
abbrev pub window_bytes : Window → List ℕ
window_bytes w = take (w.end - w.start) (drop w.start w.bytes)

-- that many bytes came after the others, none only at the end; and none where it failed
pub record ReadsMore (old new : List ℕ) (room : ℕ) (left left' : Option (List ℕ)) (count : ℕ) : Type 0 where
  pub more : List ℕ
  pub read : Consumes left left' more
  pub bytes : new ≡ old ++ more
  pub size : count ≡ length more
  pub few : count ≤ room
  pub ended : count ≡ 0 → IsAtEnd left'

-- a read gave more bytes after the others, or failed and kept the source
abbrev pub ReadsAhead : {E : Type 0} → Result ℕ E → List ℕ → List ℕ → ℕ → Option (List ℕ) → Option (List ℕ) → Type 0
ReadsAhead r old new room left left' = MatchResult r (ReadsMore old new room left left') (λ e. Keeps left left')
