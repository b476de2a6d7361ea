-- Plans whose lines rise.
use Rattle.std.specs.Prelude.{◌≡◌, refl, ℕ, ◌+◌, ◌≤◌, ◌<◌, List, ◌∷◌, ◌++◌, length, map}
use Rattle.std.specs.List.{AllByRecursion}
use Rattle.std.proofs.Common.{[], arith}
use Rattle.pip_base.specs.declared.types.Plan.{Plan}
use Rattle.pip_model.specs.Images.{Line}
use Rattle.pip_image.specs.Coming.{AreRising}

-- one more
pub rises : (least : ℕ) (ps : List Plan) (next : ℕ) (p : Plan) → AreRising least ps next → next ≤ p.line → p.line < 16
    → AreRising least (ps ++ p ∷ []) (p.line + 1)
rises least [] next p h above below = (rw h above, below, refl)
rises least (q ∷ ps) next p h above below = (h.0, h.1, rises (q.line + 1) ps next p h.2 above below)

pub lines_of_rising : (least : ℕ) (ps : List Plan) (next : ℕ) → AreRising least ps next
    → AllByRecursion (λ p. p.line < 16) ps
lines_of_rising least [] next h = tt
lines_of_rising least (p ∷ ps) next h = (h.1, lines_of_rising (p.line + 1) ps next h.2)

-- where a plan is left, these are fewer than all
line_count : (ps : List Plan) → length (map Line ps ++ []) ≡ length ps
line_count [] = refl
line_count (p ∷ ps) = omega (arith, line_count ps)

pub fewer_lines : (ps : List Plan) (left all : ℕ) → length ps + left ≡ all → 0 < left → length (map Line ps ++ []) < all
fewer_lines ps left all count some = omega (arith, line_count ps)
