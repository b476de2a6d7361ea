-- Part 4 of soundness, by the set of the pages of the rows of the parent.
use Rattle.std.proofs.Common.{◌≡◌, ℕ, ◌+◌, ◌^◌, ◌<◌, ◌%◌, ◌==◌, Option, Some, None, ◌&&◌, ◌||◌, inl, inr}
use Rattle.std.proofs.Common.{List, [], ◌∷◌, ◌++◌, drop, map, length, refl, sym, ap, ap₂, ◌∙◌, subst, arith}
use Rattle.std.proofs.Common.{Bool, true, false, eq-eqb, eqb-true, ne_eqb}
use Rattle.std.specs.Prelude.{option_map, slice_index_or}
use Rattle.std.specs.List.{list_all}
use Rattle.std.proofs.lemmas.Bool.{cases_eq}
use Rattle.std.proofs.lemmas.List.{drop_more}
use Rattle.pip_base.specs.declared.types.Pair.{Pair}
use Rattle.pip_base.specs.Memory.{Memory, word_at}
use Rattle.pip_model.specs.Lists.{In, has}
use Rattle.pip_model.specs.Parts.{is_lent_by, is_named_by_base, is_page}
use Rattle.pip_model.specs.ReadOff.{node_read, row_read}
use Rattle.pip_model.specs.Tree.{Node, Row, config, page_at, pairs, row_at, row_pages, vpage}
use Rattle.pip_model.proofs.Audit.Over.{gather_at}
use Rattle.pip_model.proofs.OnLists.Members.{In-map, in_has}
use Rattle.pip_model.proofs.Trees.Free.{row_found}
use Rattle.pip_audit.specs.FrameSets.{with_all}
use Rattle.pip_audit.specs.Judging.{is_placed}
use Rattle.pip_audit.specs.Givens.{no_pair}
use Rattle.pip_audit.specs.Tables.{tables_in}
use Rattle.pip_audit.proofs.EachNode.{both, not_first}
use Rattle.pip_audit.proofs.PartLaws.{row_stands, rows_are}

same_back : (x y : ℕ) → (x == y) ≡ (y == x)
same_back x y = elim (cases_eq x y) [
  | inl q ↦ eq-eqb x y q ∙ sym (eq-eqb y x (sym q))
  | inr ne ↦ ne_eqb x y ne ∙ sym (ne_eqb y x (λ q. ne (sym q)))
]

pub with_has : (a : ℕ → Bool) (gs : List ℕ) (f : ℕ) → with_all a gs f ≡ (has gs f || a f)
with_has a [] f = refl
with_has a (g ∷ gs) f =
    with_has (λ h. h == g || a h) gs f
    ∙ ap (λ b. has gs f || (b || a f)) (same_back f g)
    ∙ de (has gs f) (g == f) (a f)
  where
    de : (p q r : Bool) → (p || (q || r)) ≡ ((q || p) || r)
    de true true r = refl
    de true false r = refl
    de false true r = refl
    de false false r = refl

-- what is put in the empty set
pub has_of : (a : ℕ → Bool) (gs : List ℕ) (f : ℕ) (z : Bool) → ((g : ℕ) → a g ≡ false) → z ≡ with_all a gs f
    → z ≡ has gs f
has_of a gs f z none e = e ∙ with_has a gs f ∙ ap (λ b. has gs f || b) (none f) ∙ or_false (has gs f)
  where
    or_false : (b : Bool) → (b || false) ≡ b
    or_false true = refl
    or_false false = refl

pub all_mapped : (p : ℕ → Bool) (rs : List Row)
    → list_all p (map (λ (r : Row). r.frame) rs) ≡ list_all (λ (r : Row). p r.frame) rs
all_mapped p [] = refl
all_mapped p (r ∷ rs) = ap (λ b. p r.frame && b) (all_mapped p rs)

-- ---- a page of configuration

pub page_at_is : (m : Memory) (f v : ℕ) (o : Option Row) → v < 2 ^ 20 → row_read m (tables_in m f) v ≡ o
    → page_at (node_read m f) v ≡ option_map (λ (r : Row). r.frame) o
page_at_is m f v o small e =
    ap (λ rs. option_map (λ (r : Row). r.frame) (row_at rs v)) (rows_are m f)
    ∙ ap (option_map (λ (r : Row). r.frame)) (gather_at (row_read m (tables_in m f)) (row_stands m (tables_in m f)) 0
    (2 ^ 20) v (omega arith) (omega (arith, small)) ∙ e)

pub lent_at : (m : Memory) (f va frame : ℕ) (o : Option Row) (z : Bool) → va % 4096 ≡ 0 → va < 2 ^ 32
    → row_read m (tables_in m f) (vpage va) ≡ o → z ≡ is_page (option_map (λ (r : Row). r.frame) o) frame
    → z ≡ (va % 4096 == 0 && is_page (page_at (node_read m f) (vpage va)) frame)
lent_at m f va frame o z at small e q =
    q
    ∙ ap (λ p. is_page p frame) (sym (page_at_is m f (vpage va) o (omega (arith, small)) e))
    ∙ ap (λ b. b && is_page (page_at (node_read m f) (vpage va)) frame) (sym (eq-eqb (va % 4096) 0 at))

-- one page after the other
module _ (p : Pair → Bool) (ps : List Pair) (k : ℕ) where
  module _ (g : Pair) (h : k < length ps) (is : slice_index_or ps k no_pair ≡ g) where
    next : drop k ps ≡ g ∷ drop (k + 1) ps
    next = drop_more ps k no_pair h ∙ ap (λ x. x ∷ drop (k + 1) ps) is

    pub pairs_more : p g ≡ true → list_all p (drop k ps) ≡ list_all p (drop (k + 1) ps)
    pairs_more e = ap (list_all p) next ∙ ap (λ b. b && list_all p (drop (k + 1) ps)) e

    pub pairs_less : p g ≡ false → list_all p (drop k ps) ≡ false
    pairs_less e = ap (list_all p) next ∙ not_first (list_all p (drop (k + 1) ps)) e

-- ---- names

pub name_told : (m : Memory) (f : ℕ) → (word_at m f 1 == f) ≡ is_named_by_base (node_read m f)
unfolding node_read
name_told m f =
    same_back (word_at m f 1) f
    ∙ sym (with_true (f == word_at m f 1))
    ∙ sym (ap (λ b. f == word_at m f 1 && b) (eq-eqb (word_at m f 0) (word_at m f 0) refl))
  where
    with_true : (b : Bool) → (b && true) ≡ b
    with_true true = refl
    with_true false = refl

-- ---- all that a child holds

placed_page : (o : Option ℕ) (g : ℕ) → is_page o g ≡ true → o ≡ Some g
placed_page None g e = cc
placed_page (Some f) g e = ap Some (eqb-true f g e)

second : (a : Bool) {b : Bool} → (a && b) ≡ true → b ≡ true
second true e = e
second false e = cc

-- what stands at an address is in a row
placed_in : (y : Node) (g : Pair) → is_placed y g ≡ true → has (row_pages y) g.frame ≡ true
placed_in y g e =
    let r =
    row_found y (vpage g.va) g.frame (placed_page (page_at y (vpage g.va)) g.frame (second (g.va % 4096 == 0) e)) in
    in_has g.frame (row_pages y) (subst (λ f. In f (row_pages y)) r.3 (In-map (λ (s : Row). s.frame) r.0 y.rows r.1))

all_placed : (y : Node) (ps : List Pair) → list_all (is_placed y) ps ≡ true
    → list_all (has (row_pages y)) (map (λ (g : Pair). g.frame) ps) ≡ true
all_placed y [] e = refl
all_placed y (g ∷ gs) e = both (placed_in y g (front (is_placed y g) (list_all (is_placed y) gs) e))
    (all_placed y gs (second (is_placed y g) e))
  where
    front : (a b : Bool) → (a && b) ≡ true → a ≡ true
    front true b e = refl
    front false b e = cc

all_same : (p q : ℕ → Bool) (gs : List ℕ) → ((g : ℕ) → p g ≡ q g) → list_all p gs ≡ list_all q gs
all_same p q [] e = refl
all_same p q (g ∷ gs) e = ap₂ (λ a b. a && b) (e g) (all_same p q gs e)

all_append : (p : ℕ → Bool) (xs ys : List ℕ) → list_all p (xs ++ ys) ≡ (list_all p xs && list_all p ys)
all_append p [] ys = refl
all_append p (x ∷ xs) ys = ap (λ b. p x && b) (all_append p xs ys) ∙ assoc (p x) (list_all p xs) (list_all p ys)
  where
    assoc : (a b c : Bool) → (a && (b && c)) ≡ ((a && b) && c)
    assoc true b c = refl
    assoc false b c = refl

pub lent_is : (y x : Node) (marked : ℕ → Bool) → ((f : ℕ) → marked f ≡ has (row_pages y) f)
    → (list_all (is_placed y) (pairs x) && list_all marked (row_pages x)) ≡ is_lent_by y x
lent_is y x marked e =
    let rows : ℕ → Bool = λ g. has (row_pages y) g in
    ap (λ b. list_all (is_placed y) (pairs x) && b) (all_same marked rows (row_pages x) e)
    ∙ turn (list_all (is_placed y) (pairs x)) (list_all rows (config x)) (list_all rows (row_pages x))
    (all_placed y (pairs x))
    ∙ ap (λ b. b && list_all (is_placed y) (pairs x)) (sym (all_append rows (config x) (row_pages x)))
  where
    turn : (a c b : Bool) → (a ≡ true → c ≡ true) → (a && b) ≡ ((c && b) && a)
    turn true true true h = refl
    turn true true false h = refl
    turn true false b h = never (h refl)
      where
        never : false ≡ true → (true && b) ≡ ((false && b) && true)
        never q = cc
    turn false true true h = refl
    turn false true false h = refl
    turn false false b h = refl
