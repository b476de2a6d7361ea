-- Words that are written over a memory, each of which follows its place, and taken back.
use Rattle.std.proofs.Common.{◌≡◌, ℕ, zero, suc, ◌+◌, ◌*◌, ◌/◌, ◌%◌, ◌-◌, ◌<◌, ◌≤◌, List, [], ◌∷◌, ◌++◌, length, drop}
use Rattle.std.proofs.Common.{refl, sym, ap, ap₂, subst, ◌∙◌, arith, get_or, inl, inr}
use Rattle.std.proofs.Math.ListN.{set}
use Rattle.std.proofs.lemmas.Bool.{cases_eq}
use Rattle.std.proofs.lemmas.List.{get_or-set_other, get_or-set_same}
use Rattle.std.proofs.Math.Logic.{∥∥₁_elim, ∥∥₁_map}
use Rattle.std.proofs.Math.Nat.{ℕ_set}
use Rattle.std.specs.Coded.{coded_list, coded_ℕ}
use base.Stored.{Coded-set}
use Rattle.std.proofs.Props.{props}
use Rattle.pip_base.specs.Memory.{IsMemory, Memory, put_word, word_at}
use Rattle.pip_base.proofs.Memory.{IsMemory-put, length-put_word, word_at-put_frame, word_at-put_index}
use Rattle.pip_base.proofs.Memory.{word_at-put_same}
use Rattle.pip_switch.specs.Rewinding.{ArePlaces, rewritten}
use Rattle.pip_every.specs.Changes.{AreOther, IsRewritten, changes_at, changes_from, word_at_place}
use Rattle.pip_every.proofs.From.{from_join, from_none}
use Rattle.pip_every.proofs.Mixed.{one_change}

set_twice : {A : Type 0} (xs : List A) (i : ℕ) (x y : A) → set (set xs i x) i y ≡ set xs i y
set_twice [] i x y = refl
set_twice (z ∷ xs) zero x y = refl
set_twice (z ∷ xs) (suc i) x y = ap (λ v. z ∷ v) (set_twice xs i x y)

set_own : {A : Type 0} (xs : List A) (i : ℕ) (d : A) → set xs i (get_or xs i d) ≡ xs
set_own [] i d = refl
set_own (z ∷ xs) zero d = refl
set_own (z ∷ xs) (suc i) d = ap (λ v. z ∷ v) (set_own xs i d)

set_apart : {A : Type 0} (xs : List A) (i j : ℕ) (x y : A) → (i ≡ j → ⊥)
    → set (set xs i x) j y ≡ set (set xs j y) i x
set_apart [] i j x y other = refl
set_apart (z ∷ xs) zero zero x y other = absurd (other refl)
set_apart (z ∷ xs) zero (suc j) x y other = refl
set_apart (z ∷ xs) (suc i) zero x y other = refl
set_apart (z ∷ xs) (suc i) (suc j) x y other = ap (λ v. z ∷ v) (set_apart xs i j x y (λ e. other (ap suc e)))

put_twice : (m : Memory) (f i w v : ℕ) → f < length m → put_word (put_word m f i w) f i v ≡ put_word m f i v
unfolding put_word
put_twice m f i w v fi =
    let xs = get_or m f [] in
    ap (λ u. set (set m f (set xs i w)) f (set u i v)) (get_or-set_same m f (set xs i w) [] fi)
    ∙ (set_twice m f (set xs i w) (set (set xs i w) i v) ∙ ap (set m f) (set_twice xs i w v))

put_own : (m : Memory) (f i : ℕ) → put_word m f i (word_at m f i) ≡ m
unfolding put_word word_at
put_own m f i = ap (set m f) (set_own (get_or m f []) i 0) ∙ set_own m f []

put_apart : (m : Memory) (f i g j w v : ℕ) → f < length m → (f ≡ g → i ≡ j → ⊥)
    → put_word (put_word m f i w) g j v ≡ put_word (put_word m g j v) f i w
unfolding put_word
put_apart m f i g j w v fi other = elim (cases_eq g f) [
  | inl e ↦
      let xs = get_or m f [] in
      let apart : i ≡ j → ⊥ = λ same. other (sym e) same in
      rw e (ap (λ u. set (set m f (set xs i w)) f (set u j v)) (get_or-set_same m f (set xs i w) [] fi)
      ∙ (set_twice m f (set xs i w) (set (set xs i w) j v)
      ∙ (ap (set m f) (set_apart xs i j w v apart)
      ∙ (sym (set_twice m f (set xs j v) (set (set xs j v) i w))
      ∙ ap (λ u. set (set m f (set xs j v)) f (set u i w)) (sym (get_or-set_same m f (set xs j v) [] fi))))))
  | inr ne ↦
      let fg : f ≡ g → ⊥ = λ e. ne (sym e) in
      ap (λ u. set (set m f (set (get_or m f []) i w)) g (set u j v))
      (get_or-set_other m f g (set (get_or m f []) i w) [] ne)
      ∙ (set_apart m f g (set (get_or m f []) i w) (set (get_or m g []) j v) fg
      ∙ ap (λ u. set (set m g (set (get_or m g []) j v)) f (set u i w))
      (sym (get_or-set_other m g f (set (get_or m g []) j v) [] fg)))
]

-- a word at a place
abbrev put_at : Memory → ℕ → ℕ → Memory
put_at m p w = put_word m (p / 1024) (p % 1024) w

put_at_apart : (m : Memory) (p q w v : ℕ) → p < 1024 * length m → p < q
    → put_at (put_at m p w) q v ≡ put_at (put_at m q v) p w
put_at_apart m p q w v pi lt = put_apart m (p / 1024) (p % 1024) (q / 1024) (q % 1024) w v (omega (arith, pi))
    (λ e d. omega (arith, e, d, lt))

put_at_length : (m : Memory) (p w : ℕ) → length (put_at m p w) ≡ length m
put_at_length m p w = length-put_word m (p / 1024) (p % 1024) w

-- places that rise from one on rise from a lower one on
pub other_from : (a : Memory) (p q : ℕ) (ws : List ℕ) → p ≤ q → AreOther a q ws → AreOther a p ws
other_from a p q [] le h = h
other_from a p q (x ∷ []) le h = h
other_from a p q (x ∷ y ∷ ws) le h = (omega (arith, le, h.0), h.1)

-- a write before others is undone after them
undone : (a m : Memory) (p w v : ℕ) (ws : List ℕ) → p < 1024 * length m → AreOther a (suc p) ws
    → put_at (rewritten (put_at m p w) ws) p v ≡ rewritten (put_at m p v) ws
undone a m p w v [] pi other = put_twice m (p / 1024) (p % 1024) w v (omega (arith, pi))
undone a m p w v (q ∷ []) pi other = absurd other
undone a m p w v (q ∷ u ∷ ws) pi other =
    let lt : p < q = omega (arith, other.0) in
    let long : length (put_at m q u) ≡ length m = put_at_length m q u in
    ap (λ k. put_at (rewritten k ws) p v) (put_at_apart m p q w u pi lt)
    ∙ (undone a (put_at m q u) p w v ws (omega (arith, pi, long))
    (other_from a (suc p) (suc q) ws (omega (arith, lt)) other.1.1)
    ∙ ap (λ k. rewritten k ws) (sym (put_at_apart m p q v u pi lt)))

-- the first of such words is taken back, and the rest is left
pub taken_next : (a m k : Memory) (ws : List ℕ) (f : ℕ) → 2 ≤ length ws → IsRewritten a m ws → f ≡ get_or ws 0 0 / 1024
    → k ≡ put_word m f (get_or ws 0 0 % 1024) (word_at a f (get_or ws 0 0 % 1024)) → IsRewritten a k (drop 2 ws)
taken_next a m k [] f long h at is = absurd (omega (arith, long))
taken_next a m k (p ∷ []) f long h at is = absurd h.places
taken_next a m k (p ∷ w ∷ ws) f long h at is =
    let own : put_at a p (word_at a (p / 1024) (p % 1024)) ≡ a = put_own a (p / 1024) (p % 1024) in
    record {
      is = is ∙ (ap (λ v. put_word m v (p % 1024) (word_at a v (p % 1024))) at
          ∙ (ap (λ v. put_at v p (word_at a (p / 1024) (p % 1024))) h.is
          ∙ (undone a a p w (word_at a (p / 1024) (p % 1024)) ws h.places.0 h.other.1.1
          ∙ ap (λ v. rewritten v ws) own)));
      places = h.places.1;
      other = other_from a 0 (suc p) ws (omega arith) h.other.1.1;
    }

-- no words are left
pub taken_all : (a m : Memory) (ws : List ℕ) → (2 ≤ length ws → ⊥) → IsRewritten a m ws → m ≡ a
taken_all a m [] short h = h.is
taken_all a m (p ∷ []) short h = absurd h.places
taken_all a m (p ∷ w ∷ ws) short h = absurd (short (omega arith))

word_at_other : (m : Memory) (p q w : ℕ) → IsMemory m → p < 1024 * length m → (q ≡ p → ⊥)
    → word_at_place (put_at m p w) q ≡ word_at_place m q
word_at_other m p q w shape pi other = elim (cases_eq (q / 1024) (p / 1024)) [
  | inl e ↦ word_at-put_index m (p / 1024) (p % 1024) w (q / 1024) (q % 1024) shape (omega (arith, pi)) (omega arith)
      (λ d. other (omega (arith, e, d)))
  | inr n ↦ word_at-put_frame m (p / 1024) (p % 1024) w (q / 1024) (q % 1024) shape (omega (arith, pi)) (omega arith) n
]

put_at_shape : (m : Memory) (p w : ℕ) → IsMemory m → p < 1024 * length m → IsMemory (put_at m p w)
put_at_shape m p w shape pi = IsMemory-put m (p / 1024) (p % 1024) w shape (omega (arith, pi))

-- words before those that are written stay
stays_before : (a m : Memory) (p q n : ℕ) (ws : List ℕ) → IsMemory m → n ≡ length m → ArePlaces n ws
    → AreOther a p ws → q < p → word_at_place (rewritten m ws) q ≡ word_at_place m q
stays_before a m p q n [] shape count places other lt = refl
stays_before a m p q n (x ∷ []) shape count places other lt = refl
stays_before a m p q n (x ∷ w ∷ ws) shape count places other lt =
    let pi : x < 1024 * length m = omega (arith, places.0, count) in
    let qx : q < suc x = omega (arith, lt, other.0) in
    let ne : q ≡ x → ⊥ = λ e. omega (arith, e, lt, other.0) in
    stays_before a (put_at m x w) (suc x) q n ws (put_at_shape m x w shape pi) (count ∙ sym (put_at_length m x w))
    places.1 other.1.1 qx ∙ word_at_other m x q w shape pi ne

next : (a r : Memory) (x n : ℕ) → changes_from a r x (suc n) ≡ changes_at a r x ++ changes_from a r (suc x) n
unfolding changes_from
next a r x n = refl

-- such words are the changes that they make
changes_are : (a m : Memory) (p n : ℕ) (ws : List ℕ) → IsMemory m → length m ≡ length a → ArePlaces (length a) ws
    → AreOther a p ws → p + n ≡ 1024 * length a
    → ((q : ℕ) → p ≤ q → q < p + n → word_at_place m q ≡ word_at_place a q)
    → changes_from a (rewritten m ws) p n ≡ ws
changes_are a m p n [] shape count places other end same = from_none a m p n same
changes_are a m p n (x ∷ []) shape count places other end same = absurd places
changes_are a m p n (x ∷ w ∷ ws) shape count places other end same =
    let pi : x < 1024 * length m = omega (arith, places.0, count) in
    let low : p ≤ x = other.0 in
    let k : Memory = put_at m x w in
    let r : Memory = rewritten k ws in
    let k_shape : IsMemory k = put_at_shape m x w shape pi in
    let k_count : length k ≡ length a = put_at_length m x w ∙ count in
    let before : (q : ℕ) → q < suc x → word_at_place r q ≡ word_at_place k q = λ q lt.
    stays_before a k (suc x) q (length a) ws k_shape (sym k_count) places.1 other.1.1 lt in
    let here : word_at_place r x ≡ w = before x (omega arith)
    ∙ word_at-put_same m (x / 1024) (x % 1024) w shape (omega (arith, pi)) (omega arith) in
    let rest : ℕ = 1024 * length a - suc x in
    let none : changes_from a r p (x - p) ≡ [] = from_none a r p (x - p) (λ q from to.
    let lt : q < x = omega (arith, to, low) in
    before q (omega (arith, lt)) ∙ (word_at_other m x q w shape pi (λ e. omega (arith, e, lt))
    ∙ same q from (omega (arith, lt, places.0, end)))) in
    let one : changes_at a r x ≡ x ∷ w ∷ [] = one_change a r x (λ e. other.1.0 (sym here ∙ e))
    ∙ ap (λ v. x ∷ v ∷ []) here in
    let more : changes_from a r (suc x) rest ≡ ws = changes_are a k (suc x) rest ws k_shape k_count places.1 other.1.1
    (omega (arith, places.0)) (λ q from to.
    word_at_other m x q w shape pi (λ e. omega (arith, e, from))
    ∙ same q (omega (arith, from, low)) (omega (arith, to, places.0, end))) in
    from_join a r p (x - p) (suc rest) n x (omega (arith, end, low, places.0)) (omega (arith, low))
    ∙ (ap (λ v. v ++ changes_from a r x (suc rest)) none ∙ (next a r x rest ∙ ap₂ (λ u v. u ++ v) one more))

-- the words that are kept are the changes
pub kept_changes : (a m : Memory) (ws : List ℕ) → IsMemory a → IsRewritten a m ws
    → ws ≡ changes_from a m 0 (1024 * length a)
kept_changes a m ws shape h =
    sym (changes_are a a 0 (1024 * length a) ws shape refl h.places h.other (omega arith) (λ q from to. refl))
    ∙ ap (λ v. changes_from a v 0 (1024 * length a)) (sym h.is)

rewritten_length : (m : Memory) (ws : List ℕ) → length (rewritten m ws) ≡ length m
rewritten_length m [] = refl
rewritten_length m (p ∷ []) = refl
rewritten_length m (p ∷ w ∷ ws) = rewritten_length (put_at m p w) ws ∙ put_at_length m p w

-- there are as many frames
pub kept_count : (a m : Memory) (ws : List ℕ) → ∥ IsRewritten a m ws ∥₁ → length m ≡ length a
kept_count a m ws h = ∥∥₁_elim h (ℕ_set (length m) (length a)) (λ k. ap length k.is ∙ rewritten_length a ws)

first_place : (n : ℕ) (ws : List ℕ) → 2 ≤ length ws → ArePlaces n ws → get_or ws 0 0 < 1024 * n
first_place n [] long h = absurd (omega (arith, long))
first_place n (p ∷ []) long h = absurd h
first_place n (p ∷ w ∷ ws) long h = h.0

-- the first place is in a frame
pub kept_first : (a m : Memory) (ws : List ℕ) → ∥ IsRewritten a m ws ∥₁ → 2 ≤ length ws → get_or ws 0 0 < 1024 * length
    a
kept_first a m ws h long = ∥∥₁_elim h (hlevel props) (λ k. first_place (length a) ws long k.places)

-- the first of the words is taken back
pub kept_next : (a m k : Memory) (ws : List ℕ) (f i w : ℕ) → 2 ≤ length ws → ∥ IsRewritten a m ws ∥₁
    → f ≡ get_or ws 0 0 / 1024 → i ≡ get_or ws 0 0 % 1024 → w ≡ word_at a f i → k ≡ put_word m f i w
    → ∥ IsRewritten a k (drop 2 ws) ∥₁
kept_next a m k ws f i w long h at index word is = ∥∥₁_map h (λ t. taken_next a m k ws f long t at
    (is ∙ (ap (put_word m f i) word ∙ ap (λ j. put_word m f j (word_at a f j)) index)))

-- all of them were
pub kept_none : (a m : Memory) (ws : List ℕ) → (2 ≤ length ws → ⊥) → ∥ IsRewritten a m ws ∥₁ → m ≡ a
kept_none a m ws short h = ∥∥₁_elim h (Coded-set (coded_list (coded_list coded_ℕ)) m a) (λ t. taken_all a m ws short t)

-- the words that are kept are the changes, also of memory that is the same
pub kept_words : (a first b : Memory) (ws : List ℕ) → first ≡ a → ∥ IsRewritten first b ws ∥₁ → IsMemory a
    → ws ≡ changes_from a b 0 (1024 * length a)
kept_words a first b ws is h shape =
    ∥∥₁_elim h (Coded-set (coded_list coded_ℕ) ws (changes_from a b 0 (1024 * length a)))
    (λ t. kept_changes a b ws shape (subst (λ v. IsRewritten v b ws) is t))

-- after a word that is another, the others follow
pub other_next : (a : Memory) (n least after p : ℕ) (ws : List ℕ) → 2 ≤ length ws → ArePlaces n ws
    → p ≡ get_or ws 0 0 → after ≡ p + 1 → least ≤ p → (word_at_place a p ≡ get_or ws 1 0 → ⊥)
    → (AreOther a after (drop 2 ws) → AreOther a least ws) × ArePlaces n (drop 2 ws)
other_next a n least after p [] long places at next low other = absurd (omega (arith, long))
other_next a n least after p (q ∷ []) long places at next low other = absurd places
other_next a n least after p (q ∷ w ∷ ws) long places at next low other =
    let same : after ≡ suc q = omega (arith, at, next) in (
      λ h. (
        omega (arith, at, low),
        (
          (λ e. other (ap (word_at_place a) at ∙ sym e)),
          subst (λ v. AreOther a v ws) same h,
        ),
      ),
      places.1,
    )
