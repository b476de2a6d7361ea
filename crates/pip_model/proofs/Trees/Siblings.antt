-- The children of a node in the order of its rows: all of them and no others, by rising birthplaces.
use Rattle.std.proofs.Common.{◌≡◌, ℕ, ◌+◌, ◌*◌, ◌≤◌, ◌==◌, inl, inr, List, [], ◌∷◌, map, refl, sym, ap, ◌∙◌, subst}
use Rattle.std.proofs.Common.{eqb-true, arith, Option, Some}
use Rattle.std.specs.Prelude.{filter_map}
use Rattle.std.specs.List.{cons_option}
use Rattle.pip_model.specs.Dump.{MeetsChildren, child_of_row, children_by_rows}
use Rattle.pip_model.specs.Lists.{In, Rising}
use Rattle.pip_model.specs.Midway.{find_other}
use Rattle.pip_model.specs.Sound.{IsSound}
use Rattle.pip_model.specs.Tree.{Node, Row, Tree, child_at, find_node, nodes, vpage}
use Rattle.pip_model.proofs.Trees.Children.{child_back, child_is, in_children}
use Rattle.pip_model.proofs.Frames.Laid.{born_place}
use Rattle.pip_model.proofs.Trees.Lookup.{cases_option, found_name, in_found, in_other}
use Rattle.pip_model.proofs.OnLists.Members.{In-filter_from}
use Rattle.pip_model.proofs.Trees.RowLookup.{row_in}
use Rattle.pip_model.proofs.Frames.Shadows.{born_row}

-- ---- lists

in_filter_map : (h : Row → Option Node) (r : Row) (y : Node) (rows : List Row) → In r rows → h r ≡ Some y
    → In y (filter_map h rows)
in_filter_map h r y [] i e = absurd i
in_filter_map h r y (q ∷ qs) (inl same) e =
    rw (← same, e) (inl refl)
in_filter_map h r y (q ∷ qs) (inr i) e = elim (cases_option (h q)) [
  | inl none ↦ rw none (in_filter_map h r y qs i e)
  | inr z ↦ rw z.1 (inr (in_filter_map h r y qs i e))
]

-- a child among those of rows is in one of them
pub child_in_rows : (t : Tree) (x c : Node) (rows : List Row) → In c (filter_map (child_of_row t x) rows)
    → (r : Row) × In r rows × (child_of_row t x r ≡ Some c)
child_in_rows t x c [] i = absurd i
child_in_rows t x c (r ∷ rs) i = elim (cases_option (child_of_row t x r)) [
  | inl none ↦ let (q, j, k) =
      child_in_rows t x c rs (rw none at i) in
      (q, inr j, k)
  | inr y ↦ elim (rw y.1 at i) [
    | inl e ↦ (r, inl refl, rw (y.1, ← e))
    | inr h ↦ let (q, j, k) = child_in_rows t x c rs h in (q, inr j, k)
  ]
]

-- a bound from below may be less
rising_from : (low high : ℕ) (xs : List ℕ) → low ≤ high → Rising high xs → Rising low xs
rising_from low high [] h r = tt
rising_from low high (x ∷ xs) h r = let k = r.0 in (omega arith, r.1)

module _ (t : Tree) (s : IsSound t) where
  pub row_child_is : (x c : Node) (r : Row) → child_of_row t x r ≡ Some c
      → (find_other t c.name ≡ Some c) × (c.up ≡ x.name) × (c.born ≡ 4096 * r.at)
  row_child_is x c r e = child_back t s x.name (4096 * r.at) c e

  pub by_rows : (x c : Node) → In c (children_by_rows t x) → (find_other t c.name ≡ Some c) × (c.up ≡ x.name)
  unfolding row_child_is
  by_rows x c i =
      let (r, j, e) = child_in_rows t x c x.rows i in
      let (f, up, born) = row_child_is x c r e in
      (f, up)

  -- a child is in a row of its parent
  pub in_its_row : (b : ℕ) (x y : Node) → find_other t b ≡ Some y → find_node t y.up ≡ Some x
      → In y (children_by_rows t x)
  in_its_row b x y other found =
      let (r, at, page) = born_row t s b x y other found in
      let (i, place) = row_in x (vpage y.born) r at in
      let even = (born_place t s b y other).0 in
      let there : 4096 * r.at ≡ y.born = omega arith in
      let name : x.name ≡ y.up = found_name t y.up x found in
      in_filter_map (child_of_row t x) r y x.rows i (cc (child_is t s y.up b x y found other refl))

  rises : (x : Node) (low : ℕ) (rows : List Row) → Rising low (map (λ r. r.at) rows)
      → Rising (4096 * low) (map (λ (y : Node). y.born) (filter_map (child_of_row t x) rows))
  unfolding row_child_is
  rises x low [] rising = tt
  rises x low (r ∷ rs) rising =
      let first = rising.0 in
      let rest = rises x (r.at + 1) rs rising.1 in
      elim (cases_option (child_of_row t x r)) [
        | inl none ↦
            rw none (rising_from (4096 * low) (4096 * (r.at + 1))
            (map (λ (y : Node). y.born) (filter_map (child_of_row t x) rs)) (omega (arith, first)) rest)
        | inr y ↦
            let born = (row_child_is x y.0 r y.1).2 in
            rw y.1 (
              omega (arith, born, first),
              rising_from (y.0.born + 1) (4096 * (r.at + 1))
                  (map (λ (y : Node). y.born) (filter_map (child_of_row t x) rs)) (omega (arith, born)) rest,
            )
      ]

  pub meets_children : (x : Node) → In x (nodes t) → MeetsChildren t x
  unfolding by_rows in_its_row rises
  meets_children x i = record {
    rising = rises x 0 x.rows (s.pages_apart x i).places;
    all = λ y j.
        let k = In-filter_from (λ z. z.up == x.name) y t.others j in
        let up : y.up ≡ x.name = eqb-true y.up x.name k.1 in
        in_its_row y.name x y (in_other t s y k.0) (cc (in_found t s x i));
    no_others = λ y j. let (f, up) = by_rows x y j in in_children t x.name y.name y f up;
  }
