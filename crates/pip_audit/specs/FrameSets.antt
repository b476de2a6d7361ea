-- Sets of frames, and pages that are put in one after the other.
use Rattle.std.specs.Prelude.{◌≡◌, ℕ, ◌==◌, ◌&&◌, ◌||◌, List, [], ◌∷◌, Bool, true, false, length, not, slice_index_or}
use Rattle.pip_audit.specs.declared.frame_set.FrameSet.{FrameSet}
use Rattle.pip_audit.specs.declared.frame_set.Sets.{Sets}

-- whether a frame is in a set
abbrev pub contains : FrameSet → ℕ → Bool
contains s f = slice_index_or s.has.items f false

-- a set of frames of a memory of n frames
abbrev pub IsSet : ℕ → FrameSet → Type 0
IsSet n s = length s.has.items ≡ n

-- sets that an audit of such a memory needs
pub record AreSets (n : ℕ) (s : Sets) : Type 0 where
  pub read : IsSet n s.read
  pub met : IsSet n s.met
  pub lent : IsSet n s.lent
  pub hidden : IsSet n s.hidden

-- whether none of these pages is among those that are in, nor among those before it
abbrev pub are_fresh : (ℕ → Bool) → List ℕ → Bool
are_fresh held [] = true
are_fresh held (g ∷ gs) = not (held g) && are_fresh (λ f. f == g || held f) gs

-- what is in, with these pages
abbrev pub with_all : (ℕ → Bool) → List ℕ → ℕ → Bool
with_all held [] f = held f
with_all held (g ∷ gs) f = with_all (λ h. h == g || held h) gs f
