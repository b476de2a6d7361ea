-- Words are written one after another.
use Rattle.std.proofs.Common.{◌≡◌, ℕ, ◌/◌, ◌%◌, ◌≤◌, Bool, true, List, [], ◌∷◌, length, drop, ap, ap₂}
use Rattle.std.proofs.Common.{◌∙◌, arith, get_or}
use Rattle.std.proofs.Math.Logic.{∥∥₁_elim}
use Rattle.std.specs.Coded.{coded_list, coded_ℕ}
use base.Stored.{Coded-set}
use Rattle.pip_base.specs.Memory.{Memory, put_word}
use Rattle.pip_switch.specs.Rewinding.{ArePlaces, rewritten}
use Rattle.pip_every.specs.Changes.{IsRewritten}
use Rattle.pip_every.specs.Tracks.{IsRewound}

-- a word at the head of a list was written, and the rest is left
pub written_next : (m k : Memory) (n : ℕ) (ws : List ℕ) (f : ℕ) → 2 ≤ length ws → f ≡ get_or ws 0 0 / 1024
    → k ≡ put_word m f (get_or ws 0 0 % 1024) (get_or ws 1 0) → ArePlaces n ws
    → (rewritten k (drop 2 ws) ≡ rewritten m ws) × ArePlaces n (drop 2 ws)
written_next m k n [] f long at is h = absurd (omega (arith, long))
written_next m k n (p ∷ []) f long at is h = absurd h
written_next m k n (p ∷ w ∷ ws) f long at is h =
    (ap (λ v. rewritten v ws) (is ∙ ap (λ j. put_word m j (p % 1024) w) at), h.1)

-- where they are as they were taken back, and by these words
pub is_rewound : (a first base m : Memory) (own words : List ℕ) → first ≡ a → ∥ IsRewritten first base own ∥₁ → m ≡ base
    → own ≡ words → m ≡ rewritten a words
is_rewound a first base m own words is kept at same =
    at ∙ (∥∥₁_elim kept (Coded-set (coded_list (coded_list coded_ℕ)) base (rewritten first own)) (λ h. h.is)
    ∙ ap₂ rewritten is same)

-- where nothing was written since, the frames are as they were taken back
pub was_rewound : (a first base m : Memory) (own words : List ℕ) (still : Bool) → first ≡ a
    → ∥ IsRewritten first base own ∥₁ → ∥ IsRewound base m still ∥₁ → still ≡ true → own ≡ words → m ≡ rewritten a words
was_rewound a first base m own words still is kept t on same =
    is_rewound a first base m own words is kept
    (∥∥₁_elim t (Coded-set (coded_list (coded_list coded_ℕ)) m base) (λ h. h on)) same
