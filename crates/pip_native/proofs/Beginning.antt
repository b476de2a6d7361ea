-- There is room in a machine that begins.
use Rattle.std.proofs.Common.{◌≡◌, ℕ, zero, suc, ◌+◌, ◌≤◌, true, refl, sym, ap, subst, arith, Some}
use Rattle.pip_model.specs.Boot.{boot_tree_with}
use Rattle.pip_model.specs.Tree.{Row, free, is_free_row, node, row_at}
use Rattle.pip_model.specs.Worlds.{IsSoundWorld, boot_world_with, first_ctx}
use Rattle.pip_native.specs.Watching.{pages_taken}
use Rattle.pip_native.specs.Rooms.{HasRoomForChildren}
use Rattle.pip_native.proofs.Open.{row_page, row_top}
use Rattle.pip_native.proofs.Pools.{left_taken, page_at}

free_first : (words : ℕ → ℕ → ℕ) (f v : ℕ) (r : Row) → row_at (node (boot_tree_with words f) 1).rows v ≡ Some r
    → free (boot_tree_with words f) 1 v ≡ true
free_first words f v r e = ap (is_free_row (boot_tree_with words f) 1) e

pub room_first : (m f c : ℕ) (words : ℕ → ℕ → ℕ) → IsSoundWorld (boot_world_with words f c) → m ≤ 8
    → pages_taken m + 13 ≤ f → HasRoomForChildren m 0 (boot_world_with words f c)
room_first m f zero words s most d = let l = s.at_least_one in absurd (let z : ⊥ = omega arith in z)
room_first m f (suc c) words s most d = record {
  runner = record { name = 1; ctx = first_ctx };
  runs = refl;
  root = refl;
  frames = d;
  top = let (r, q, z) = row_top (boot_tree_with words f) s.tree in free_first words f 0xfffff r q;
  left = λ k l.
      let (r, q, z) = row_page (boot_tree_with words f) s.tree m k most d (left_taken m 0 k (omega arith) l) in
      subst (λ v. free (boot_tree_with words f) 1 v ≡ true) (sym (page_at k)) (free_first words f (1024 + k) r q);
}
