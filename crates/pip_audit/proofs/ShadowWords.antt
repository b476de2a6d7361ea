-- The words of shadows, page by page.
use Rattle.std.proofs.Common.{◌≡◌, ◌≢◌, ℕ, zero, suc, ◌+◌, ◌-◌, ◌<◌, ◌≤◌, ◌==◌, ◌&&◌, ◌||◌, inl, inr}
use Rattle.std.proofs.Common.{List, [], ◌∷◌, ◌++◌, refl, sym, ap, ap₂, ◌∙◌, subst, arith}
use Rattle.std.proofs.Common.{Some, Bool, true, false, cond, eq-eqb, ne_eqb}
use Rattle.std.specs.Prelude.{if◌then◌else◌, find, filter, option_map, slice_index}
use Rattle.std.proofs.lemmas.Bool.{cases_eq}
use Rattle.pip_base.specs.Memory.{Memory, word_at}
use Rattle.pip_base.specs.Words.{as_configuration, as_descriptor, as_lent, shadow1_word}
use Rattle.pip_model.specs.FullRows.{given_by, given_word, place_word}
use Rattle.pip_model.specs.Lists.{In, has}
use Rattle.pip_model.specs.ReadOff.{node_read}
use Rattle.pip_model.specs.Tree.{Node, Row, config, holds, row_pages, vpage}
use Rattle.pip_audit.specs.declared.auditor.Auditor.{Auditor}
use Rattle.pip_audit.specs.Families.{up_at}
use Rattle.pip_audit.specs.FrameWords.{word_held}
use Rattle.pip_audit.specs.Given.{GivesAll, given_over, held_or, held_over, held_with, word_as}
use Rattle.pip_audit.specs.Reading.{AreNames}
use Rattle.pip_audit.proofs.EachNode.{name_is, node_at, nodes_are, up_is}
use Rattle.pip_audit.proofs.Walks.{names_count}

same : {A : Type 0} (b : Bool) (x : A) → (if b then x else x) ≡ x
same true x = refl
same false x = refl

-- ---- the words of a list of pages, one page after the other

pub over_next : (word old new : ℕ → ℕ) (xs rest : List ℕ) (f w : ℕ) → xs ≡ f ∷ rest → w ≡ word f
    → ((g : ℕ) → new g ≡ held_with f w old g) → (g : ℕ) → held_over word rest new g ≡ held_over word xs old g
over_next word old new xs rest f w is e n g = elim (cases_eq g f) [
  | inl q ↦
      ap (λ z. if has rest g then word g
      else z) (n g ∙ ap (λ b. if b then w else old g) (eq-eqb g f q) ∙ e ∙ ap word (sym q))
      ∙ same (has rest g) (word g)
      ∙ sym (ap (λ ys. held_over word ys old g) is
      ∙ ap (λ b. if b || has rest g then word g else old g) (eq-eqb f g (sym q)))
  | inr ne ↦
      ap (λ z. if has rest g then word g else z) (n g ∙ ap (λ b. if b then w else old g) (ne_eqb g f ne))
      ∙ sym (ap (λ ys. held_over word ys old g) is
      ∙ ap (λ b. if b || has rest g then word g else old g) (ne_eqb f g (λ q. ne (sym q))))
]

born_is : (m : Memory) (f : ℕ) → (node_read m f).born ≡ word_at m f 0
unfolding node_read
born_is m f = refl

pub word_is : (m : Memory) (f kind frame born w : ℕ) → born ≡ word_at m f 0 → w
    ≡ shadow1_word (if f == frame then as_descriptor else kind) (vpage born) → w ≡ word_as kind (node_read m f) frame
word_is m f kind frame born w b e =
    e
    ∙ ap₂ (λ n a. shadow1_word (if n == frame then as_descriptor else kind) (vpage a)) (sym (name_is m f))
    (b ∙ sym (born_is m f))

-- ---- all that a child holds

has_append : (xs ys : List ℕ) (g : ℕ) → has (xs ++ ys) g ≡ (has xs g || has ys g)
has_append [] ys g = refl
has_append (x ∷ xs) ys g = ap (λ b. x == g || b) (has_append xs ys g) ∙ assoc (x == g) (has xs g) (has ys g)
  where
    assoc : (p q r : Bool) → (p || (q || r)) ≡ ((p || q) || r)
    assoc true q r = refl
    assoc false q r = refl

pub not_given : (parent : ℕ) (x : Node) (held : ℕ → ℕ) (g : ℕ) → x.up ≢ parent → held g ≡ given_over parent x held g
not_given parent x held g ne =
    sym (ap (λ b. if b && holds x g then given_by (Some x) g else held g) (ne_eqb x.up parent ne))

pub all_given : (parent : ℕ) (x : Node) (held rows pages : ℕ → ℕ) → x.up ≡ parent
    → ((g : ℕ) → rows g ≡ held_over (word_as as_lent x) (row_pages x) held g)
    → ((g : ℕ) → pages g ≡ held_over (word_as as_configuration x) (config x) rows g)
    → (g : ℕ) → pages g ≡ given_over parent x held g
all_given parent x held rows pages up r p g =
    p g
    ∙ ap (λ z. if has (config x) g then word_as as_configuration x g else z) (r g)
    ∙ go (has (config x) g) (has (row_pages x) g) (x.name == g)
    ∙ ap (λ b. if b then given_by (Some x) g else held g) (sym (has_append (config x) (row_pages x) g))
    ∙ ap (λ b. if b && holds x g then given_by (Some x) g else held g) (sym (eq-eqb x.up parent up))
  where
    go : (c r n : Bool)
        → (if c then shadow1_word (if n then as_descriptor else as_configuration) (vpage x.born)
        else (if r then shadow1_word (if n then as_descriptor else as_lent) (vpage x.born) else held g))
        ≡ (if c || r then shadow1_word (if n then as_descriptor
        else (if c then as_configuration else as_lent)) (vpage x.born) else held g)
    go true r n = refl
    go false true n = refl
    go false false n = refl

-- ---- one child after the other

-- what is held is what those of the nodes so far that are children of a parent are given
abbrev pub GivenSoFar : Memory → List ℕ → ℕ → ℕ → (ℕ → ℕ) → Type 0
GivenSoFar m names parent count held = (xs : List Node) → AreNames names count xs
    → ((x : Node) → In x xs → x ≡ node_read m x.name) → (g : ℕ)
    → held g ≡ given_by (find (λ x. holds x g) (filter (λ (x : Node). x.up == parent) xs)) g

pub none_given : (m : Memory) (names : List ℕ) (parent : ℕ) (held : ℕ → ℕ) → ((g : ℕ) → held g ≡ 0)
    → GivenSoFar m names parent 1 held
none_given m names parent held h [] n is g = h g
none_given m names parent held h (x ∷ xs) n is g =
    let more = n.1 in
    let below = names_count names n.0 xs n.3 in
    absurd (omega (arith, more, below))

pub more_given : (m : Memory) (names : List ℕ) (parent count : ℕ) (held new : ℕ → ℕ) → 1 ≤ count
    → GivenSoFar m names parent count held
    → ((g : ℕ) → new g ≡ given_over parent (node_at m names count) held g) → GivenSoFar m names parent (count + 1) new
more_given m names parent count held new some so_far e [] n is g = let one = n.0 in absurd (omega (arith, one, some))
more_given m names parent count held new some so_far e (x ∷ xs) n is g =
    let more = n.1 in
    let rest : n.0 ≡ count = omega (arith, more) in
    let there : node_at m names count ≡ x =
    ap (λ k. node_at m names k) (sym rest) ∙ ap (node_read m) n.2 ∙ sym (is x (inl refl)) in
    e g
    ∙ ap (λ y. given_over parent y held g) there
    ∙ ap (λ z. if x.up == parent && holds x g then given_by (Some x) g
    else z) (so_far xs (subst_names rest n.3) (λ y i. is y (inr i)) g)
    ∙ go (x.up == parent) (holds x g) refl (filter (λ (y : Node). y.up == parent) xs)
  where
    subst_names : {k : ℕ} → k ≡ count → AreNames names k xs → AreNames names count xs
    subst_names q a = subst (λ j. AreNames names j xs) q a

    go : (c h : Bool) → holds x g ≡ h → (ys : List Node)
        → (if c && h then given_by (Some x) g else given_by (find (λ y. holds y g) ys) g)
        ≡ given_by (find (λ y. holds y g) (if c then x ∷ ys else ys)) g
    go true true q ys = sym (ap (λ b. given_by (cond b (Some x) (find (λ y. holds y g) ys)) g) q)
    go true false q ys = sym (ap (λ b. given_by (cond b (Some x) (find (λ y. holds y g) ys)) g) q)
    go false h q ys = refl

-- nodes that aren't children are passed
pass_strangers : (m : Memory) (names : List ℕ) (parent x n : ℕ) (held : ℕ → ℕ) → 1 ≤ x
    → ((j : ℕ) → x ≤ j → j < x + n → up_at m names j ≢ parent) → GivenSoFar m names parent x held
    → GivenSoFar m names parent (x + n) held
pass_strangers m names parent x zero held one none s = let same : x ≡ x + 0 = omega arith in
    subst (λ k. GivenSoFar m names parent k held) same s
pass_strangers m names parent x (suc n) held one none s =
    let same : x + n + 1 ≡ x + suc n = omega arith in
    subst (λ k. GivenSoFar m names parent k held) same (more_given m names parent (x + n) held held (omega (arith, one))
    (pass_strangers m names parent x n held one (λ j lo hi. none j lo (omega (arith, hi))) s) (λ g.
    not_given parent (node_at m names (x + n)) held g
    (λ q. none (x + n) (omega arith) (omega arith) (sym (up_is m (slice_index names (x + n))) ∙ q))))

pub pass_given : (m : Memory) (names : List ℕ) (parent x y : ℕ) (held : ℕ → ℕ) → 1 ≤ x → x ≤ y
    → ((j : ℕ) → x ≤ j → j < y → up_at m names j ≢ parent) → GivenSoFar m names parent x held
    → GivenSoFar m names parent y held
pass_given m names parent x y held one below none s =
    let same : x + (y - x) ≡ y = omega (arith, below) in
    rw same at (pass_strangers m names parent x (y - x) held one (λ j lo hi. none j lo (omega (arith, hi, below))) s)

pub given_all : (m : Memory) (a b : Auditor) (y count parent : ℕ) → count ≡ a.count
    → parent ≡ slice_index a.names.items y → GivenSoFar m a.names.items parent count (word_held b.words.given)
    → GivesAll m y a b
unfolding given_word
given_all m a b y count parent c p so_far = λ r g.
    so_far r.others (subst (λ k. AreNames a.names.items k r.others) (sym c) r.has_read.names)
    (nodes_are m a r.others r.has_read) g
    ∙ ap (λ q. given_by (find (λ x. holds x g) (filter (λ (x : Node). x.up == q) r.others)) g) p

-- ---- where a node has a page first

abbrev pub first_word : List Row → ℕ → ℕ
first_word rows g = place_word (option_map (λ (r : Row). r.at) (find (λ (r : Row). r.frame == g) rows))

-- what is held, or where that is none, what the rows from here on say
abbrev pub placed : List Row → (ℕ → ℕ) → ℕ → ℕ
placed rows held g = held_or (first_word rows g) (held g)
