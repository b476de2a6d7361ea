-- Totals, partition by partition.
use Rattle.std.proofs.Common.{◌≡◌, ℕ, ◌+◌, ◌*◌, ◌≤◌, List, [], ◌∷◌, length, refl, sym, ap, ◌∙◌, subst, arith, Option}
use Rattle.std.proofs.Common.{Some, None}
use Rattle.std.specs.Prelude.{sum_by}
use Rattle.pip_model.specs.Dump.{hidden_of, parts_of, rows_of, nodes_depth_first}
use Rattle.pip_model.specs.Sound.{IsSound}
use Rattle.pip_model.specs.Tree.{Node, Tree, config, find_node}
use Rattle.pip_model.proofs.Trees.Walks.{walk_short}
use Rattle.pip_dump.specs.Walk.{IsAt, IsCounted, IsNextPlace}
use Rattle.pip_dump.specs.declared.place.WalkPlace.{WalkPlace}
use Rattle.pip_dump.proofs.Tales.{first_next}
use Rattle.pip_dump.proofs.Whole.{pages_most, rows_most, sum_cons, walk_long, walk_sum}

abbrev row_count : Node → ℕ
row_count x = length x.rows

abbrev page_count : Node → ℕ
page_count x = length (config x)

module _ (t : Tree) (s : IsSound t) where
  pub counted_first : (p : WalkPlace) → p.part ≡ 1 → p.depth ≡ 0 → IsCounted t (Some p) 0 0 0
  counted_first p one root = record {
    rest = nodes_depth_first t;
    place = first_next t s p one root;
    parts_are = omega arith;
    rows_are = omega arith;
    hidden_are = omega arith;
  }

  -- a partition more
  pub counted_more : (p : WalkPlace) (next : Option WalkPlace) (parts rows hidden r g : ℕ)
      → IsCounted t (Some p) parts rows hidden
      → ((y : Node) → find_node t p.part ≡ Some y → r ≡ row_count y)
      → ((y : Node) → find_node t p.part ≡ Some y → g ≡ page_count y)
      → ((rest : List Node) → IsAt t p.part p.depth 0 rest → IsNextPlace t rest next)
      → IsCounted t next (parts + 1) (rows + r) (hidden + g)
  counted_more p next parts rows hidden r g h row page goes =
      let (y, further, rest, found, place) = h.place in
      let long = ap (λ (l : List Node). length l) rest in
      let row_sum = ap (sum_by row_count) rest ∙ sum_cons row_count y further in
      let page_sum = ap (sum_by page_count) rest ∙ sum_cons page_count y further in
      let row_is = row y found in
      let page_is = page y found in
      let a = h.parts_are in
      let b = h.rows_are in
      let d = h.hidden_are in
      record {
        rest = further;
        place = goes further place;
        parts_are = omega (arith, long, a);
        rows_are = omega (arith, row_sum, row_is, b);
        hidden_are = omega (arith, page_sum, page_is, d);
      }

  -- it fits
  pub counted_fits : (p : WalkPlace) (parts rows hidden : ℕ) → IsCounted t (Some p) parts rows hidden
      → ((r : ℕ) → ((y : Node) → find_node t p.part ≡ Some y → r ≡ row_count y) → rows + r ≤ 4096 * 4096)
      × ((g : ℕ) → ((y : Node) → find_node t p.part ≡ Some y → g ≡ page_count y) → hidden + g ≤ 4096 * 4096)
  counted_fits p parts rows hidden h =
      let (y, further, rest, found, place) = h.place in
      let row_sum = ap (sum_by row_count) rest ∙ sum_cons row_count y further in
      let page_sum = ap (sum_by page_count) rest ∙ sum_cons page_count y further in
      let b = h.rows_are in
      let d = h.hidden_are in
      let row_most = rows_most t s in
      let page_most = pages_most t s in (
        λ r row. let row_is = row y found in omega (arith, row_sum, row_is, b, row_most),
        λ g page. let page_is = page y found in omega (arith, page_sum, page_is, d, page_most),
      )

  -- all are counted where none is left
  over : (next : Option WalkPlace) (parts rows hidden : ℕ) (h : IsCounted t next parts rows hidden) → h.rest ≡ []
      → (parts ≡ parts_of t) × (rows ≡ rows_of t) × (hidden ≡ hidden_of t)
  over next parts rows hidden h none =
      let a = h.parts_are in
      let b = h.rows_are in
      let d = h.hidden_are in
      let long = ap (λ (l : List Node). length l) none in
      let row_sum = ap (sum_by row_count) none in
      let page_sum = ap (sum_by page_count) none in
      let all = walk_long t s in
      let row_all = walk_sum t s row_count in
      let page_all = walk_sum t s page_count in
      (omega (arith, a, long, all), omega (arith, b, row_sum, row_all), omega (arith, d, page_sum, page_all))

  pub counted_all : (parts rows hidden : ℕ) (h : IsCounted t None parts rows hidden)
      → (parts ≡ parts_of t) × (rows ≡ rows_of t) × (hidden ≡ hidden_of t)
  unfolding over
  counted_all parts rows hidden h = over None parts rows hidden h h.place

  pub counted_end : (next : Option WalkPlace) (parts rows hidden seen : ℕ) → IsCounted t next parts rows hidden
      → parts ≡ seen → t.frames ≤ seen → (parts ≡ parts_of t) × (rows ≡ rows_of t) × (hidden ≡ hidden_of t)
  unfolding over
  counted_end next parts rows hidden seen h same full =
      let a = h.parts_are in
      let short = walk_short t s in
      over next parts rows hidden h (none h.rest (omega (arith, a, short, same, full)))
    where
      none : (rest : List Node) → length rest ≤ 0 → rest ≡ []
      none [] e = refl
      none (y ∷ ys) e = absurd (omega (arith, e))

-- where the walk stands
pub counted_place : (t : Tree) (p : WalkPlace) (parts rows hidden : ℕ) → IsCounted t (Some p) parts rows hidden
    → (rest : List Node) × IsAt t p.part p.depth 0 rest
counted_place t p parts rows hidden h = let (y, further, rest, found, place) = h.place in (further, place)

-- and so, said otherwise
pub counted_same : (t : Tree) (a b : Option WalkPlace) (parts rows hidden parts2 rows2 hidden2 : ℕ) → b ≡ a
    → parts2 ≡ parts
    → rows2 ≡ rows → hidden2 ≡ hidden → IsCounted t a parts rows hidden → IsCounted t b parts2 rows2 hidden2
counted_same t a b parts rows hidden parts2 rows2 hidden2 e p r h k =
    subst (λ o. IsCounted t o parts2 rows2 hidden2) (sym e) (subst (λ q. IsCounted t a q rows2 hidden2) (sym p)
    (subst (λ q. IsCounted t a parts q hidden2) (sym r) (subst (λ q. IsCounted t a parts rows q) (sym h) k)))
