-- A page of configuration that comes back and is zeroed.
use Rattle.std.proofs.Common.{◌≡◌, ℕ, ◌+◌, ◌*◌, ◌<◌, ◌/◌, ◌%◌, cond, inl, inr, Bool, true, false, [], ◌∷◌, ◌++◌}
use Rattle.std.proofs.Common.{sym}
use Rattle.std.proofs.Common.{ap, ◌∙◌, subst, arith, length, refl, Some}
use Rattle.pip_base.specs.Memory.{Memory, word_at, zero_frame}
use Rattle.pip_model.specs.FullRows.{FullRow, row_word}
use Rattle.pip_model.specs.Lists.{In}
use Rattle.pip_model.specs.Midway.{tree_rows}
use Rattle.pip_model.specs.NodeIn.{IsFullRow}
use Rattle.pip_model.specs.declared.level.Level.TheVariants.{Mmu}
use Rattle.pip_model.specs.Tree.{Node, Tree, held_pages, hidden}
use Rattle.pip_model.proofs.Frames.Laid.{held_frame}
use Rattle.pip_model.proofs.Trees.Lookup.{other_found}
use Rattle.pip_space.specs.Levels.{table_frame_at}
use Rattle.pip_space.proofs.Tables.{page_inside, row_of_page}
use Rattle.pip_kern.specs.Taking.{CanTakePage, TakesPage, TakesPageIn, row_taken}
use Rattle.pip_kern.proofs.Marking.{marked_frame}
use Rattle.pip_birth.specs.Ending.{EndsPageIn}
use Rattle.pip_birth.specs.Ending.{CanEnd, EndsPage, HasCleared, HasConfiguration, IsConfiguration, IsEndingAt, without}
use Rattle.pip_birth.proofs.DeletePartition.Tree.{parent}
use Rattle.pip_birth.proofs.DeletePartition.Writes.Pages.{one_more, row_now, space, taking, x_new}
use Rattle.pip_birth.proofs.DeletePartition.Writes.Steps.{ending_cleared}

-- the page of a word
leaf_frame : (r : FullRow) → IsFullRow r → row_word Mmu (Some r) / 4096 ≡ r.frame
leaf_frame r p = go r.user
  where
    go : (b : Bool) → (r.frame * 4096 + 1 + cond b 2 0 + 4 * r.rights) / 4096 ≡ r.frame
    go true = omega arith
    go false = omega arith

module _ (t : Tree) (y : Node) (can : CanEnd t y) (m n : Memory) (leaves v : ℕ) (k : IsEndingAt t y m v n)
    (c : IsConfiguration t y leaves v) where
  abbrev x : Node
  x = (parent t y can).0

  page : table_frame_at Mmu x (v / 1024) ≡ Some leaves
  page =
      let both : Some c.parent ≡ Some x = sym c.found ∙ x_new t y can in
      let one : c.parent ≡ x = cc in
      rw (← one) c.page

  pub leaves_inside : leaves < length n
  unfolding page
  leaves_inside = page_inside n x _ (space t y can m n v k).node Mmu (v / 1024) leaves page

  pub frame_is : word_at n leaves (v % 1024) / 4096 ≡ c.row.frame
  unfolding page
  frame_is =
      let sp = space t y can m n v k in
      let now = row_now t y can m n v k v c.row c.at in
      let word = row_of_page n x _ sp Mmu v v leaves refl c.small page ∙ ap (row_word Mmu) now in
      ap (λ w. w / 4096) word ∙ (leaf_frame (row_taken k.back true c.row)
      (sp.packed v (row_taken k.back true c.row) now) ∙ marked_frame true (λ g. 0) k.back true c.row)

  pub frame_inside : c.row.frame < length n
  frame_inside =
      omega (arith, (held_frame t can.sound y.name c.row.frame y (other_found t can.sound y.name y can.found) c.held).1)

  pub can_take : CanTakePage n y.up v
  can_take = record {
    tree = without t y;
    rows = tree_rows t;
    taken = k.back;
    frame = c.row.frame;
    can = taking t y can v c.row c.at c.held;
    midway = k.ending.midway;
  }

  pub page_cleared : (b l : Memory) → TakesPage y.up v n b → (f : ℕ) → f ≡ c.row.frame → l ≡ zero_frame b f
      → IsEndingAt t y m (v + 1) l
  page_cleared b l says f is written =
      let g = c.row.frame in
      let cleared : HasCleared (without t y) (tree_rows t) y.up (k.back ++ g ∷ []) (g ∷ []) n l = record {
        between = b;
        taken = says (without t y) (tree_rows t) k.back g (taking t y can v c.row c.at c.held) k.ending.midway;
        zeroed = rw (written, is);
      } in
      one_more t y can m n l v c.row k c.at (ending_cleared t y can m n k.back k.ending l (g ∷ [])
      (λ f i. elim i [
        | inl e ↦ subst (λ z. In z (held_pages y) × (hidden t z ≡ true)) (sym e) (c.held, c.hidden)
        | inr none ↦ absurd none
      ]) cleared)

-- ---- as the code asks

pub leaves_there : (n : Memory) (parent_name leaves v : ℕ) → HasConfiguration n parent_name leaves v → leaves < length n
leaves_there n parent_name leaves v h = leaves_inside h.tree h.node h.can h.start n leaves v h.at h.next

pub config_can : (n : Memory) (parent_name leaves v : ℕ) → HasConfiguration n parent_name leaves v
    → CanTakePage n parent_name v
config_can n parent_name leaves v h =
    rw (← h.up) (can_take h.tree h.node h.can h.start n leaves v h.at h.next)

pub config_inside : (n b : Memory) (parent_name leaves v number w f : ℕ) → HasConfiguration n parent_name leaves v
    → number ≡ v → w ≡ word_at n leaves (number % 1024) → f ≡ w / 4096 → length b ≡ length n → f < length b
config_inside n b parent_name leaves v number w f h same word is count =
    let e = is ∙ (ap (λ k. k / 4096) word ∙ (ap (λ k. word_at n leaves (k % 1024) / 4096) same
    ∙ frame_is h.tree h.node h.can h.start n leaves v h.at h.next)) in
    let low = frame_inside h.tree h.node h.can h.start n leaves v h.at h.next in
    omega (arith, e, low, count)

pub config_ends : (n b l : Memory) (parent_name leaves v number w f : ℕ) → number ≡ v
    → w ≡ word_at n leaves (number % 1024) → f ≡ w / 4096 → TakesPage parent_name v n b → l ≡ zero_frame b f
    → EndsPage parent_name leaves v n l
config_ends n b l parent_name leaves v number w f same word is says written t y start can up c k =
    page_cleared t y can start n leaves v k c b l (rw up says) f
    (rw (is, word, same, frame_is t y can start n leaves v k c)) written

-- within a bound on the steps
pub config_in : (n : Memory) (parent_name leaves v before read after : ℕ) → read ≡ before + 1
    → TakesPageIn parent_name v n read after → EndsPageIn parent_name leaves v n before after
config_in n parent_name leaves v before read after is says t y start can up c k =
    let one = subst (λ p. TakesPageIn p v n read after) (sym up) says (without t y) (tree_rows t) k.back c.row.frame
    (taking t y can v c.row c.at c.held) k.ending.midway in
    omega (arith, is, one)
