-- Tests of each node that was read, by its place among the names.
use Rattle.std.proofs.Common.{◌≡◌, ◌≢◌, ℕ, zero, suc, ◌+◌, ◌*◌, ◌/◌, ◌%◌, ◌^◌, ◌<◌, ◌≤◌, ◌==◌, ◌&&◌, ◌||◌, inl, inr}
use Rattle.std.proofs.Common.{List, [], ◌∷◌, length, refl, sym, ap, ap₂, ◌∙◌, subst, arith, Some, None, Bool, true}
use Rattle.std.proofs.Common.{false, not, cond, eq-eqb, ne_eqb, eqb-true}
use Rattle.std.specs.Prelude.{slice_index, slice_index_or}
use Rattle.std.specs.List.{list_all}
use Rattle.std.proofs.lemmas.Bool.{cases_eq}
use Rattle.std.proofs.Math.Nat.{div-add-mod, div-div-eq-div-mul}
use Rattle.pip_base.specs.Memory.{Memory, word_at}
use Rattle.pip_model.specs.Lists.{In, has}
use Rattle.pip_model.specs.Parts.{has_no_lines, is_rooted}
use Rattle.pip_model.specs.ReadOff.{lines_read, node_read, node_stop}
use Rattle.pip_model.specs.Tree.{Node, names_of}
use Rattle.pip_audit.specs.declared.auditor.Auditor.{Auditor}
use Rattle.pip_audit.specs.Judging.{IsReadLater, TellsEach}
use Rattle.pip_audit.specs.Reading.{AreNames, HasRead}
use Rattle.pip_audit.proofs.Walks.{names_count}

-- node k
abbrev pub node_at : Memory → List ℕ → ℕ → Node
node_at m names k = node_read m (slice_index names k)

pub both : {a b : Bool} → a ≡ true → b ≡ true → (a && b) ≡ true
both {a = a} {b = b} p q = ap₂ (λ x y. x && y) p q

pub not_first : {a : Bool} (b : Bool) → a ≡ false → (a && b) ≡ false
not_first b p = ap (λ x. x && b) p

pub not_second : (a : Bool) {b : Bool} → b ≡ false → (a && b) ≡ false
not_second a {b = b} q = ap (λ y. a && y) q ∙ never a
  where
    never : (a : Bool) → (a && false) ≡ false
    never true = refl
    never false = refl

pub root_name : (names : List ℕ) (count : ℕ) (others : List Node) → AreNames names count others
    → slice_index names 0 ≡ 1
root_name names count [] h = h.1
root_name names count (x ∷ xs) h = root_name names h.0 xs h.3

module _ (m : Memory) (names : List ℕ) (p : Node → Bool) where
  pub others_true : (count : ℕ) (others : List Node) → AreNames names count others → ((x : Node) → In x others → x
      ≡ node_read m x.name) → ((k : ℕ) → 1 ≤ k → k < count → p (node_at m names k) ≡ true) → list_all p others ≡ true
  others_true count [] h is t = refl
  others_true count (x ∷ xs) h is t =
      let more = h.1 in
      let below = names_count names h.0 xs h.3 in
      both
      (ap p (is x (inl refl) ∙ ap (node_read m) (sym h.2)) ∙ t h.0 (omega (arith, below)) (omega (arith, more)))
      (others_true h.0 xs h.3 (λ y i. is y (inr i)) (λ k lo hi. t k lo (omega (arith, hi, more))))

  pub others_false : (count : ℕ) (others : List Node) → AreNames names count others → ((x : Node) → In x others → x
      ≡ node_read m x.name) → (k : ℕ) → 1 ≤ k → k < count → p (node_at m names k) ≡ false → list_all p others ≡ false
  others_false count [] h is k lo hi f = let one = h.0 in absurd (omega (arith, lo, hi, one))
  others_false count (x ∷ xs) h is k lo hi f =
      let more = h.1 in
      elim (cases_eq k h.0) [
        | inl q ↦ not_first (list_all p xs)
            (ap p (is x (inl refl) ∙ ap (node_read m) (sym h.2 ∙ ap (slice_index names) (sym q))) ∙ f)
        | inr ne ↦ not_second (p x) (others_false h.0 xs h.3 (λ y i. is y (inr i)) k lo (omega (arith, hi, more, ne)) f)
      ]

-- ---- the lines of a word

pub double : (w r s x : ℕ) → 2 * x + r ≡ w → x + s ≡ w / 2 → r ≡ 2 * s + w % 2
double w r s x a b = omega (arith, a, b)

pub halves : (w q : ℕ) → w % (2 * q) ≡ 2 * (w / 2 % q) + w % 2
halves w q =
    let a : 2 * q * (w / (2 * q)) + w % (2 * q) ≡ w = div-add-mod w (2 * q) in
    let b : q * (w / 2 / q) + w / 2 % q ≡ w / 2 = div-add-mod (w / 2) q in
    let c : w / 2 / q ≡ w / (2 * q) = div-div-eq-div-mul w 2 q in
    double w (w % (2 * q)) (w / 2 % q) (q * (w / (2 * q)))
    (ap (λ k. k + w % (2 * q)) (assoc q (w / (2 * q))) ∙ a)
    (ap (λ k. q * k + w / 2 % q) (sym c) ∙ b)
  where
    assoc : (x y : ℕ) → 2 * (x * y) ≡ 2 * x * y
    assoc x y = grind arith

pub power : (k : ℕ) → 2 ^ suc k ≡ 2 * 2 ^ k
power k = grind arith

lines_none : (k low w : ℕ) → w % 2 ^ k ≡ 0 → length (lines_read k low w) ≡ 0
unfolding lines_read
lines_none zero low w e = refl
lines_none (suc k) low w e =
    let h : w % 2 ^ suc k ≡ 2 * (w / 2 % 2 ^ k) + w % 2 = ap (λ n. w % n) (power k) ∙ halves w (2 ^ k) in
    let even : w % 2 ≢ 1 = λ q. absurd (omega (arith, e, h, q)) in
    ap (λ b.
    length (cond b (low ∷ lines_read k (low + 1) (w / 2)) (lines_read k (low + 1) (w / 2)))) (ne_eqb (w % 2) 1 even)
    ∙ lines_none k (low + 1) (w / 2) (omega (arith, e, h))

lines_some : (k low w : ℕ) → length (lines_read k low w) ≡ 0 → w % 2 ^ k ≡ 0
unfolding lines_read
lines_some zero low w e = one w
  where
    one : (v : ℕ) → v % 1 ≡ 0
    one v = omega arith
lines_some (suc k) low w e = elim (cases_eq (w % 2) 1) [
  | inl q ↦ absurd (long (sym (ap (λ b. length (cond b
      (low ∷ lines_read k (low + 1) (w / 2)) (lines_read k (low + 1) (w / 2)))) (eq-eqb (w % 2) 1 q)) ∙ e))
  | inr ne ↦
      let h : w % 2 ^ suc k ≡ 2 * (w / 2 % 2 ^ k) + w % 2 = ap (λ n. w % n) (power k) ∙ halves w (2 ^ k) in
      let r = lines_some k (low + 1) (w / 2) (sym (ap (λ b. length (cond b
      (low ∷ lines_read k (low + 1) (w / 2)) (lines_read k (low + 1) (w / 2)))) (ne_eqb (w % 2) 1 ne)) ∙ e) in
      omega (arith, h, r, ne)
]
  where
    long : {n : ℕ} → suc n ≡ 0 → ⊥
    long q = absurd (omega (arith, q))

no_lines : (m : Memory) (f : ℕ) → word_at m f 15 % 65536 ≡ 0 → has_no_lines (node_read m f) ≡ true
unfolding node_read
no_lines m f e = eq-eqb (length (lines_read 16 0 (word_at m f 15))) 0 (lines_none 16 0 (word_at m f 15) e)

some_lines : (m : Memory) (f : ℕ) → word_at m f 15 % 65536 ≢ 0 → has_no_lines (node_read m f) ≡ false
unfolding node_read
some_lines m f ne = ne_eqb (length (lines_read 16 0 (word_at m f 15))) 0 (λ q. ne (lines_some 16 0 (word_at m f 15) q))

-- whether a node has lines, by its word of them
pub lines_told : (m : Memory) (f : ℕ) → (word_at m f 15 % 65536 == 0) ≡ has_no_lines (node_read m f)
lines_told m f = elim (cases_eq (word_at m f 15 % 65536) 0) [
  | inl e ↦ eq-eqb (word_at m f 15 % 65536) 0 e ∙ sym (no_lines m f e)
  | inr ne ↦ ne_eqb (word_at m f 15 % 65536) 0 ne ∙ sym (some_lines m f ne)
]

-- ---- a test of each node

pub nodes_are : (m : Memory) (a : Auditor) (others : List Node) → HasRead m a others → (x : Node) → In x others
    → x ≡ node_read m x.name
nodes_are m a others h x i = (h.nodes x i).2

pub count_some : (m : Memory) (a : Auditor) (others : List Node) → HasRead m a others → 0 < a.count
count_some m a others h = let n = names_count a.names.items a.count others h.names in omega (arith, n)

module _ (m : Memory) (a : Auditor) (others : List Node) (h : HasRead m a others) (p : Node → Bool) where
  -- but the root
  pub others_told : (z : Bool) → TellsEach (λ k b. b ≡ p (node_at m a.names.items k)) 1 a.count z
      → list_all p others ≡ z
  others_told true t = others_true m a.names.items p a.count others h.names (nodes_are m a others h)
      (λ k lo hi. sym (t k lo hi))
  others_told false t = others_false m a.names.items p a.count others h.names (nodes_are m a others h) t.0 t.1 t.2
      (sym t.3)

  -- and with it
  pub nodes_told : (z : Bool) → TellsEach (λ k b. b ≡ p (node_at m a.names.items k)) 0 a.count z
      → list_all p (node_read m 1 ∷ others) ≡ z
  nodes_told true t = both (root ∙ sym (t 0 (omega arith) (count_some m a others h)))
      (others_told true (λ k lo hi. t k (omega arith) hi))
    where
      root : p (node_read m 1) ≡ p (node_at m a.names.items 0)
      root = ap (λ f. p (node_read m f)) (sym (root_name a.names.items a.count others h.names))
  nodes_told false t = elim (cases_eq t.0 0) [
    | inl q ↦ not_first (list_all p others)
        (ap (λ f. p (node_read m f)) (sym (root_name a.names.items a.count others h.names)
        ∙ ap (slice_index a.names.items) (sym q)) ∙ sym t.3)
    | inr ne ↦ not_second (p (node_read m 1)) (others_told false (t.0, omega (arith, ne), t.2, t.3))
  ]

-- ---- the names

pub name_inside : (m : Memory) (a : Auditor) (others : List Node) → 16 ≤ length m → HasRead m a others → (k : ℕ)
    → k < a.count → slice_index a.names.items k < length m
name_inside m a others least h k hi = go a.count others h.names (λ x i. (h.nodes x i).0) hi
  where
    go : (count : ℕ) (xs : List Node) → AreNames a.names.items count xs → ((x : Node) → In x xs → x.name < length m)
        → k < count → slice_index a.names.items k < length m
    go count [] n is l =
        let one = n.0 in
        let z : k ≡ 0 = omega (arith, one, l) in
        let name = ap (slice_index a.names.items) z ∙ n.1 in
        omega (arith, name, least)
    go count (x ∷ xs) n is l =
        let more = n.1 in
        elim (cases_eq k n.0) [
          | inl q ↦ subst (λ f. f < length m) (sym (ap (slice_index a.names.items) q ∙ n.2)) (is x (inl refl))
          | inr ne ↦ go n.0 xs n.3 (λ y i. is y (inr i)) (omega (arith, l, more, ne))
        ]

-- ---- part 1

pub name_is : (m : Memory) (f : ℕ) → (node_read m f).name ≡ f
unfolding node_read
name_is m f = refl

pub up_is : (m : Memory) (f : ℕ) → (node_read m f).up ≡ word_at m f 11
unfolding node_read
up_is m f = refl

module _ (m : Memory) (names : List ℕ) where
  abbrev pub known : List Node → ℕ → Bool
  known xs f = has (names_of (node_read m 1 ∷ xs)) f

  pub known_at : (count : ℕ) (xs : List Node) → AreNames names count xs → (f : ℕ) → known xs f ≡ true
      → (k : ℕ) × (k < count) × (slice_index names k ≡ f)
  known_at count [] h f e =
      let one = h.0 in (
        0,
        omega (arith, one),
        h.1 ∙ sym (name_is m 1) ∙ eqb-true (node_read m 1).name f (only ((node_read m 1).name == f) e),
      )
    where
      only : (b : Bool) → (b || false) ≡ true → b ≡ true
      only true q = refl
      only false q = cc
  known_at count (x ∷ xs) h f e = elim (cases_eq x.name f) [
    | inl q ↦ let more = h.1 in (h.0, omega (arith, more), h.2 ∙ q)
    | inr ne ↦
        let more = h.1 in
        let r = known_at h.0 xs h.3 f
        (past ((node_read m 1).name == f) (x.name == f) (has (names_of xs) f) (ne_eqb x.name f ne) e) in
        let less = r.1 in
        (r.0, omega (arith, less, more), r.2)
  ]
    where
      past : (a b c : Bool) → b ≡ false → (a || (b || c)) ≡ true → (a || c) ≡ true
      past true b c q e = refl
      past false true c q e = cc
      past false false c q e = e

  at_known : (count : ℕ) (xs : List Node) → AreNames names count xs → (f k : ℕ) → k < count → slice_index names k ≡ f
      → known xs f ≡ true
  at_known count [] h f k l e =
      let one = h.0 in
      let z : k ≡ 0 = omega (arith, one, l) in
      first ((node_read m 1).name
      == f) (eq-eqb (node_read m 1).name f (name_is m 1 ∙ sym h.1 ∙ ap (slice_index names) (sym z) ∙ e))
    where
      first : (b : Bool) → b ≡ true → (b || false) ≡ true
      first true q = refl
      first false q = cc
  at_known count (x ∷ xs) h f k l e = elim (cases_eq k h.0) [
    | inl q ↦ here ((node_read m 1).name == f) (x.name == f) (has (names_of xs) f)
        (eq-eqb x.name f (sym h.2 ∙ ap (slice_index names) (sym q) ∙ e))
    | inr ne ↦ let more = h.1 in later ((node_read m 1).name == f) (x.name == f) (has (names_of xs) f)
        (at_known h.0 xs h.3 f k (omega (arith, l, more, ne)) e)
  ]
    where
      here : (a b c : Bool) → b ≡ true → (a || (b || c)) ≡ true
      here true b c q = refl
      here false true c q = refl
      here false false c q = cc

      later : (a b c : Bool) → (a || c) ≡ true → (a || (b || c)) ≡ true
      later true b c q = refl
      later false true c q = refl
      later false false c q = q

  not_known : (count : ℕ) (xs : List Node) → AreNames names count xs → (f : ℕ)
      → ((k : ℕ) → k < count → slice_index names k ≢ f) → known xs f ≡ false
  not_known count xs h f none = go (known xs f) refl
    where
      go : (b : Bool) → known xs f ≡ b → known xs f ≡ false
      go true q = let r = known_at count xs h f q in absurd (none r.0 r.1 r.2)
      go false q = q

  module _ (end : ℕ) (apart : (j k : ℕ) → j < k → k < end → slice_index names j ≢ slice_index names k) where
    rooted : (count : ℕ) (xs : List Node) → count ≤ end → AreNames names count xs
        → ((x : Node) → In x xs → x ≡ node_read m x.name)
        → ((k : ℕ) → 1 ≤ k → k < count → (j : ℕ) × (j < k) × (slice_index names j ≡ word_at m (slice_index names k) 11))
        → word_at m 1 11 ≡ 1 → is_rooted (node_read m 1) xs ≡ true
    rooted count [] most h is later top =
        eq-eqb (node_read m 1).up (node_read m 1).name (up_is m 1 ∙ top ∙ sym (name_is m 1))
    rooted count (x ∷ xs) most h is later top =
        let more = h.1 in
        let below = names_count names h.0 xs h.3 in
        let b = later h.0 (omega (arith, below)) (omega (arith, more)) in
        let up : x.up ≡ word_at m (slice_index names h.0) 11 =
        ap (λ (y : Node). y.up) (is x (inl refl)) ∙ up_is m x.name ∙ ap (λ f. word_at m f 11) (sym h.2) in
        both (ap not (not_known h.0 xs h.3 x.name (λ k l q. apart k h.0 l (omega (arith, more, most)) (q ∙ sym h.2))))
        (both (at_known h.0 xs h.3 x.up b.0 b.1 (b.2 ∙ sym up))
        (rooted h.0 xs (omega (arith, more, most)) h.3 (λ y i. is y (inr i))
        (λ k lo hi. later k lo (omega (arith, hi, more))) top))

  pub unrooted_top : (count : ℕ) (xs : List Node) → AreNames names count xs → word_at m 1 11 ≢ 1
      → is_rooted (node_read m 1) xs ≡ false
  unrooted_top count [] h top =
      ne_eqb (node_read m 1).up (node_read m 1).name (λ q. top (sym (up_is m 1) ∙ q ∙ name_is m 1))
  unrooted_top count (x ∷ xs) h top =
      not_second (not (known xs x.name)) (not_second (known xs x.up) (unrooted_top h.0 xs h.3 top))

  unrooted : (count : ℕ) (xs : List Node) → AreNames names count xs → ((x : Node) → In x xs → x ≡ node_read m x.name)
      → (k : ℕ) → 1 ≤ k → k < count → ((j : ℕ) → j < k → slice_index names j ≢ word_at m (slice_index names k) 11)
      → is_rooted (node_read m 1) xs ≡ false
  unrooted count [] h is k lo hi none = let one = h.0 in absurd (omega (arith, lo, hi, one))
  unrooted count (x ∷ xs) h is k lo hi none =
      let more = h.1 in
      elim (cases_eq k h.0) [
        | inl q ↦
            let up : x.up ≡ word_at m (slice_index names k) 11 = ap (λ (y : Node). y.up) (is x (inl refl))
            ∙ up_is m x.name ∙ ap (λ f. word_at m f 11) (sym h.2 ∙ ap (slice_index names) (sym q)) in
            not_second (not (known xs x.name)) (not_first (is_rooted (node_read m 1) xs)
            (not_known h.0 xs h.3 x.up (λ j l e. none j (omega (arith, l, q)) (e ∙ up))))
        | inr ne ↦ not_second (not (known xs x.name)) (not_second (known xs x.up)
            (unrooted h.0 xs h.3 (λ y i. is y (inr i)) k lo (omega (arith, hi, more, ne)) none))
      ]

pub apart_names : (m : Memory) (a : Auditor) (others : List Node) → HasRead m a others → (j k : ℕ) → j < k → k < a.count
    → slice_index a.names.items j ≢ slice_index a.names.items k
apart_names m a others h j k l hi = λ q.
    let x : Some j ≡ Some k = sym (h.order.back j (omega (arith, l, hi)))
    ∙ ap (λ f. slice_index_or a.order.items f None) q ∙ h.order.back k hi in
    let y : j ≡ k = same x in
    absurd (omega (arith, l, y))
  where
    same : {i k : ℕ} → Some i ≡ Some k → i ≡ k
    same q = cc

pub is_later : (m : Memory) (a : Auditor) (others : List Node) → HasRead m a others
    → ((k : ℕ) → 1 ≤ k → k < a.count → IsReadLater m a.names.items k true) → word_at m 1 11 ≡ 1
    → is_rooted (node_read m 1) others ≡ true
is_later m a others h = rooted m a.names.items a.count (apart_names m a others h) a.count others (omega arith) h.names
    (nodes_are m a others h)

pub is_early : (m : Memory) (a : Auditor) (others : List Node) → HasRead m a others → (k : ℕ) → 1 ≤ k → k < a.count
    → IsReadLater m a.names.items k false → is_rooted (node_read m 1) others ≡ false
is_early m a others h = unrooted m a.names.items a.count others h.names (nodes_are m a others h)

-- ---- what is known of the node at a place

pub node_there : (m : Memory) (a : Auditor) (others : List Node) → HasRead m a others → (k : ℕ) → k < a.count
    → node_stop m (slice_index a.names.items k) ≡ None
node_there m a others h k hi = go a.count others h.names (λ x i. (h.nodes x i).1) hi
  where
    go : (count : ℕ) (xs : List Node) → AreNames a.names.items count xs → ((x : Node) → In x xs
        → node_stop m x.name ≡ None) → k < count → node_stop m (slice_index a.names.items k) ≡ None
    go count [] n is l =
        let one = n.0 in
        let z : k ≡ 0 = omega (arith, one, l) in
        ap (λ j. node_stop m (slice_index a.names.items j)) z ∙ ap (node_stop m) n.1 ∙ h.root
    go count (x ∷ xs) n is l =
        let more = n.1 in
        elim (cases_eq k n.0) [
          | inl q ↦ ap (λ j. node_stop m (slice_index a.names.items j)) q ∙ ap (node_stop m) n.2 ∙ is x (inl refl)
          | inr ne ↦ go n.0 xs n.3 (λ y i. is y (inr i)) (omega (arith, l, more, ne))
        ]

pub name_fits : (m : Memory) (a : Auditor) (others : List Node) → HasRead m a others → (k : ℕ) → k < a.count
    → k < length a.names.items
name_fits m a others h k hi = let fits = h.fits in omega (arith, fits, hi)
