-- A child by its parent's row.
use Rattle.std.proofs.Common.{◌≡◌, ◌≢◌, ℕ, ◌*◌, ◌+◌, ◌/◌, ◌%◌, inl, inr, sym, ap, ◌∙◌, arith, Option, Some, None}
use Rattle.std.specs.Prelude.{option_map}
use Rattle.pip_model.specs.FullRows.{FullRow, full_rows, given_word, row_word}
use Rattle.pip_model.specs.declared.level.Level.TheVariants.{Shadow1}
use Rattle.pip_model.specs.Sound.{IsSound}
use Rattle.pip_model.specs.Tree.{Node, Tree, child_at, find_node}
use Rattle.pip_model.proofs.Frames.Laid.{filled, full_back}
use Rattle.pip_model.proofs.Trees.Lookup.{cases_option, found_name}
use Rattle.pip_model.proofs.Frames.ReadBack.{full-at}
use Rattle.pip_model.proofs.Frames.Shadows.{child_row, row_child}

module _ (t : Tree) (s : IsSound t) (p d : ℕ) (x : Node) (x_is : find_node t p ≡ Some x) (place : d % 4096 ≡ 0) where
  name_is : x.name ≡ p
  name_is = found_name t p x x_is

  -- a page that is given as a descriptor is a child's
  pub child_there : (r : FullRow) → Some r ≡ full_rows t x (d / 4096) → r.given % 4096 ≡ 1
      → Some r.frame ≡ option_map (λ (y : Node). y.name) (child_at t p d)
  child_there r is given_so =
      let (q, at, same) = full_back t x (d / 4096) r (sym is) in
      let given : given_word t p q.frame % 4096 ≡ 1 =
      ap (λ a. given_word t a q.frame % 4096) (sym name_is) ∙ (cc) in
      let (y, child, name) = row_child t s p d x q x_is place at given in
      ap (λ z. Some z.frame) same ∙ (ap Some (sym name) ∙ sym (rw child))

  -- any other isn't
  pub child_other : (r : FullRow) → Some r ≡ full_rows t x (d / 4096) → r.given % 4096 ≢ 1
      → None ≡ option_map (λ (y : Node). y.name) (child_at t p d)
  child_other r is given_so = elim (cases_option (child_at t p d)) [
    | inl none ↦ cc
    | inr y ↦
        let (q, at, frame, word) = child_row t s p d x y.0 x_is y.1 in
        let here : Some r ≡ Some (filled t x q) = is ∙ full-at t x (d / 4096) (Some q) at in
        let same : r ≡ filled t x q = cc in
        let given : r.given ≡ d / 4096 * 4096 + 1 =
        simp (same, name_is, frame, word) in
        absurd (given_so (omega arith))
  ]

  -- nor is there a child where there is no row
  pub child_none_there : None ≡ full_rows t x (d / 4096) → None ≡ option_map (λ (y : Node). y.name) (child_at t p d)
  child_none_there is = elim (cases_option (child_at t p d)) [
    | inl none ↦ cc
    | inr y ↦
        let (q, at, frame, word) = child_row t s p d x y.0 x_is y.1 in
        let bad : None ≡ Some (filled t x q) = is ∙ full-at t x (d / 4096) (Some q) at in
        cc
  ]

  -- as the words of the first shadow and of the MMU's table tell it
  pub child_by_word : (o : Option FullRow) → o ≡ full_rows t x (d / 4096) → (w : ℕ) → w ≡ row_word Shadow1 o
      → w % 4096 ≡ 1 → (q : Option ℕ) → q ≡ option_map (λ (r : FullRow). r.frame) o
      → q ≡ option_map (λ (y : Node). y.name) (child_at t p d)
  child_by_word None is w word one q page = absurd (omega arith)
  child_by_word (Some r) is w word one q page = cc (child_there r is (ap (λ k. k % 4096) (sym word) ∙ one))

  pub no_child_by_word : (o : Option FullRow) → o ≡ full_rows t x (d / 4096) → (w : ℕ) → w ≡ row_word Shadow1 o
      → w % 4096 ≢ 1 → None ≡ option_map (λ (y : Node). y.name) (child_at t p d)
  no_child_by_word None is w word other = child_none_there is
  no_child_by_word (Some r) is w word other = child_other r is (λ e. other (rw (word, e)))
