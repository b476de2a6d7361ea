-- The rows of a node one after another, and the children among them.
use Rattle.std.proofs.Common.{◌≡◌, ◌≢◌, ℕ, ◌+◌, ◌*◌, ◌/◌, ◌%◌, ◌≤◌, ◌<◌, cond, inl, inr, List, [], ◌∷◌, map, refl, sym}
use Rattle.std.proofs.Common.{ap, ◌∙◌, subst, arith, Option, Some, None}
use Rattle.std.specs.Prelude.{filter_map}
use Rattle.std.specs.List.{cons_option}
use Rattle.std.proofs.lemmas.Bool.{cases_lt, le-leb, lt-leb}
use Rattle.pip_model.specs.Dump.{child_of_row}
use Rattle.pip_model.specs.FullRows.{FullRow, full_rows, given_word}
use Rattle.pip_model.specs.Lists.{In, Rising}
use Rattle.pip_model.specs.Midway.{find_other}
use Rattle.pip_model.specs.Sound.{IsSound, KeepsPagesApart}
use Rattle.pip_model.specs.Tree.{Node, Row, Tree, child_at, find_node, row_at, vpage}
use Rattle.pip_model.proofs.Trees.Children.{child_back}
use Rattle.pip_model.proofs.Frames.Laid.{filled, full_back}
use Rattle.pip_model.proofs.Trees.Lookup.{cases_option, found_in, found_name}
use Rattle.pip_model.proofs.OnLists.Members.{In-map, Rising-low}
use Rattle.pip_model.proofs.Frames.ReadBack.{full-at}
use Rattle.pip_model.proofs.Trees.RowLookup.{in_row, row_in}
use Rattle.pip_model.proofs.Frames.Shadows.{child_row, row_child}
use Rattle.pip_entry.specs.Sh1.{packed_sh1}
use Rattle.pip_entry.specs.declared.shadows.Sh1.{Sh1}
use Rattle.pip_entry.specs.declared.shadows.Sh1.TheVariants.{Free, Descriptor, Config, Lent}
use Rattle.pip_dump.specs.Walk.{IsNextChild, children_above, rows_above, vpage_after}

abbrev places : List Row → List ℕ
places rows = map (λ r. r.at) rows

keeps : (low : ℕ) (w : Row) (ws : List Row) → low ≤ w.at → rows_above low (w ∷ ws) ≡ w ∷ rows_above low ws
keeps low w ws h = ap (λ b. cond b (w ∷ rows_above low ws) (rows_above low ws)) (le-leb low w.at h)

drops : (low : ℕ) (w : Row) (ws : List Row) → w.at < low → rows_above low (w ∷ ws) ≡ rows_above low ws
drops low w ws h = ap (λ b. cond b (w ∷ rows_above low ws) (rows_above low ws)) (lt-leb low w.at h)

-- all rows stand above the first place
pub all_above : (low high : ℕ) (rows : List Row) → Rising high (places rows) → low ≤ high → rows_above low rows ≡ rows
all_above low high [] r h = refl
all_above low high (w ∷ ws) r h =
    let first = r.0 in
    keeps low w ws (omega arith) ∙ ap (λ l. w ∷ l) (all_above low (w.at + 1) ws r.1 (omega arith))

-- none does
pub none_above : (low : ℕ) (rows : List Row) → ((w : Row) → In w rows → low ≤ w.at → ⊥) → rows_above low rows ≡ []
none_above low [] h = refl
none_above low (w ∷ ws) h = elim (cases_lt w.at low) [
  | inl e ↦ drops low w ws e ∙ none_above low ws (λ z i. h z (inr i))
  | inr e ↦ absurd (h w (inl refl) e)
]

-- they are next, too, where none stands in between
same_above : (low high : ℕ) → low ≤ high → (rows : List Row) → ((w : Row) → In w rows → low ≤ w.at → w.at < high → ⊥)
    → rows_above low rows ≡ rows_above high rows
same_above low high order [] h = refl
same_above low high order (w ∷ ws) h =
    let rest = same_above low high order ws (λ z i. h z (inr i)) in
    elim (cases_lt w.at low) [
      | inl e ↦ drops low w ws e ∙ (rest ∙ sym (drops high w ws (omega (arith, e, order))))
      | inr e ↦ elim (cases_lt w.at high) [
        | inl k ↦ absurd (h w (inl refl) e k)
        | inr k ↦ keeps low w ws e ∙ (ap (λ l. w ∷ l) rest ∙ sym (keeps high w ws k))
      ]
    ]

-- the least of them is the first
pub next_above : (b low : ℕ) (rows : List Row) (q : Row) → Rising b (places rows) → In q rows → low ≤ q.at
    → ((w : Row) → In w rows → low ≤ w.at → q.at ≤ w.at) → rows_above low rows ≡ q ∷ rows_above (q.at + 1) rows
next_above b low [] q r i l least = absurd i
next_above b low (w ∷ ws) q r i l least = elim (cases_lt w.at low) [
  | inl e ↦ elim i [
    | inl same ↦ let at : q.at ≡ w.at = ap (λ z. z.at) same in absurd (omega arith)
    | inr j ↦ drops low w ws e ∙ (next_above (w.at + 1) low ws q r.1 j l (λ z k. least z (inr k))
        ∙ ap (λ l. q ∷ l) (sym (drops (q.at + 1) w ws (omega arith))))
  ]
  | inr e ↦ elim i [
    | inl same ↦
        keeps low w ws e
        ∙ (ap (λ l. w ∷ l) (all_above low (w.at + 1) ws r.1 (omega arith)
        ∙ sym (all_above (w.at + 1) (w.at + 1) ws r.1 (omega arith)))
        ∙ (ap (λ l. w ∷ l) (sym (drops (w.at + 1) w ws (omega arith)))
        ∙ ap (λ z. z ∷ rows_above (z.at + 1) (w ∷ ws)) (sym same)))
    | inr j ↦
        let first = least w (inl refl) e in
        let later : w.at + 1 ≤ q.at = Rising-low (w.at + 1) q.at (places ws) r.1 (In-map (λ z. z.at) q ws j) in
        absurd (omega arith)
  ]
]

module _ (t : Tree) (s : IsSound t) (p : ℕ) (x : Node) (found : find_node t p ≡ Some x) where
  apart : KeepsPagesApart x
  apart = s.pages_apart x (found_in t p x found)

  there : (w : Row) → In w x.rows → full_rows t x w.at ≡ Some (filled t x w)
  unfolding apart
  there w i = full-at t x w.at (Some w) (in_row x apart w i)

  -- where the memory has no further row, the node has none
  pub last_row : (low : ℕ) → ((v : ℕ) → low ≤ v → full_rows t x v ≡ None) → rows_above low x.rows ≡ []
  unfolding there
  last_row low none =
      none_above low x.rows (λ w i h. let bad : Some (filled t x w) ≡ None = sym (there w i) ∙ none w.at h in cc)

  -- and its first is the node's
  pub next_one : (low v : ℕ) (r : FullRow) → low ≤ v → full_rows t x v ≡ Some r
      → ((u : ℕ) → low ≤ u → u < v → full_rows t x u ≡ None) → (q : Row) × (q.at ≡ v) × (row_at x.rows v ≡ Some q)
      × (r ≡ filled t x q) × (rows_above low x.rows ≡ q ∷ rows_above (v + 1) x.rows)
  unfolding apart there
  next_one low v r h is none =
      let (q, at, same) = full_back t x v r is in
      let (i, place) = row_in x v q at in
      let least : (w : Row) → In w x.rows → low ≤ w.at → q.at ≤ w.at = λ w j k. elim (cases_lt w.at q.at) [
        | inl e ↦ let bad : Some (filled t x w) ≡ None = sym (there w j) ∙ none w.at k (omega arith) in cc
        | inr e ↦ e
      ] in (
        q,
        place,
        at,
        same,
        next_above 0 low x.rows q apart.places i (omega arith) least ∙ ap (λ k. q ∷ rows_above (k + 1) x.rows) place,
      )

  -- vpages at which the memory has no row are passed
  pub passed : (low high : ℕ) → low ≤ high → ((v : ℕ) → low ≤ v → v < high → full_rows t x v ≡ None)
      → rows_above low x.rows ≡ rows_above high x.rows
  unfolding there
  passed low high order none = same_above low high order x.rows
      (λ w i above below. let bad : Some (filled t x w) ≡ None = sym (there w i) ∙ none w.at above below in cc)

  pub all_rows : rows_above 0 x.rows ≡ x.rows
  unfolding apart
  all_rows = all_above 0 0 x.rows apart.places (omega arith)

  -- ---- children

  -- the first row is that of a child's descriptor, or of another page
  pub child_here : (low v : ℕ) (r : FullRow) → low ≤ v → full_rows t x v ≡ Some r
      → ((u : ℕ) → low ≤ u → u < v → full_rows t x u ≡ None) → r.given % 4096 ≡ 1 → IsNextChild t x low (Some r.frame)
  child_here low v r h is none kind =
      let (q, place, at, same, rows) = next_one low v r h is none in
      let name : x.name ≡ p = found_name t p x found in
      let here : vpage (4096 * v) ≡ v = omega arith in
      let given : given_word t p q.frame % 4096 ≡ 1 =
      ap (λ a. given_word t a q.frame % 4096) (sym name) ∙ (ap (λ z. z.given % 4096) (sym same) ∙ kind) in
      let (y, child, called) =
      row_child t s p (4096 * v) x q found (omega arith) (ap (row_at x.rows) here ∙ at) given in
      let (other, up, born) = child_back t s p (4096 * v) y child in
      let there : child_of_row t x q ≡ Some y =
      ap (λ a. child_at t a (4096 * q.at)) name ∙ (ap (λ a. child_at t p (4096 * a)) place ∙ child) in
      let back : v + 1 ≡ vpage_after y = omega (arith, born) in (
        y,
        subst (λ a. find_other t a ≡ Some y) (called ∙ sym (ap (λ z. z.frame) same)) other,
        up ∙ sym name,
        ap (filter_map (child_of_row t x)) rows
            ∙ (ap (λ o. cons_option o (children_above t x (v + 1))) there ∙ ap (λ k. y ∷ children_above t x k) back),
      )

  pub child_past : (low v : ℕ) (r : FullRow) → low ≤ v → full_rows t x v ≡ Some r → ((u : ℕ) → low ≤ u → u < v
      → full_rows t x u ≡ None) → r.given % 4096 ≢ 1 → children_above t x (v + 1) ≡ children_above t x low
  child_past low v r h is none kind =
      let (q, place, at, same, rows) = next_one low v r h is none in
      let name : x.name ≡ p = found_name t p x found in
      let none_there : child_of_row t x q ≡ None = elim (cases_option (child_of_row t x q)) [
        | inl e ↦ e
        | inr y ↦
            let child : child_at t p (4096 * v) ≡ Some y.0 = ap (λ a. child_at t p (4096 * a)) (sym place)
            ∙ (ap (λ a. child_at t a (4096 * q.at)) (sym name) ∙ y.1) in
            let (w, there, frame, word) = child_row t s p (4096 * v) x y.0 found child in
            let here : vpage (4096 * v) ≡ v = omega arith in
            let both : Some w ≡ Some q = sym there ∙ (ap (row_at x.rows) here ∙ at) in
            let one : w ≡ q = cc in
            let given : r.given ≡ 4096 * v / 4096 * 4096 + 1 =
            ap (λ z. z.given) same ∙ (ap (λ a. given_word t a q.frame) name
            ∙ (ap (λ z. given_word t p z.frame) (sym one) ∙ (ap (given_word t p) frame ∙ word))) in
            absurd (kind (omega (arith, given)))
      ] in
      sym (ap (filter_map (child_of_row t x)) rows ∙ ap (λ o. cons_option o (children_above t x (v + 1))) none_there)

  pub child_none : (low : ℕ) → ((v : ℕ) → low ≤ v → full_rows t x v ≡ None) → IsNextChild t x low None
  child_none low none = ap (filter_map (child_of_row t x)) (last_row low none)

-- vpages that have the same children above them have the same next one
pub next_same : (t : Tree) (x : Node) (a b : ℕ) (o : Option ℕ) → children_above t x a ≡ children_above t x b
    → IsNextChild t x a o → IsNextChild t x b o
next_same t x a b None e h = sym e ∙ h
next_same t x a b (Some c) e (y, f, up, h) = (y, f, up, sym e ∙ h)
