-- No access reaches a hidden page.
use Rattle.std.proofs.Common.{◌≡◌, ℕ, ◌/◌, ◌%◌, ◌==◌, Bool, true, false, not, cond, refl, subst, Option, Some, None}
use Rattle.std.specs.Prelude.{bit_and}
use Rattle.pip_base.specs.declared.types.Access.{Access}
use Rattle.pip_base.specs.declared.types.Size.{Size}
use Rattle.pip_model.specs.Reach.{Alignment, Faulted, Hidden, Place, Right, is_misaligned, reach, right, reach_by_row}
use Rattle.pip_model.specs.Tree.{Row, Tree, hidden, node, row_at, vpage}

pub place_open : (t : Tree) (p va g i : ℕ) (a : Access) (z : Size) → reach t p va a z ≡ Place g i → hidden t g ≡ false
place_open t p va g i a z e = off (is_misaligned va z) (row_at (node t p).rows (vpage va)) e
  where
    at : (r : Row) (h f : Bool) → hidden t r.frame ≡ h → cond h (Faulted Hidden)
        (cond f (Faulted Right) (Place r.frame (va % 4096 / 4))) ≡ Place g i → hidden t g ≡ false
    at r true f k q = cc
    at r false true k q = cc
    at r false false k q = let u : r.frame ≡ g = cc in cc

    off : (b : Bool) (o : Option Row) → cond b (Faulted Alignment) (reach_by_row t va a o) ≡ Place g i
        → hidden t g ≡ false
    off true o q = cc
    off false None q = cc
    off false (Some r) q = at r (hidden t r.frame) (not (bit_and (right a) r.rights == right a)) refl q
