-- Laws of the words on lists.
use Rattle.std.proofs.Common.{◌≡◌, ℕ, ◌+◌, ◌≤◌, ◌⊎◌, inl, inr, Bool, true, false, cond, ◌==◌, List, [], ◌∷◌, ◌++◌, map}
use Rattle.std.proofs.Common.{refl, sym, ap, ◌∙◌, subst, arith, eqb-true, eq-eqb, ne_eqb, append_assoc, Some, None}
use Rattle.std.specs.Prelude.{filter, find, flat_map}
use Rattle.std.specs.List.{list_any}
use Rattle.std.proofs.lemmas.Bool.{cases_Bool, cases_lt}
use Rattle.pip_model.specs.Lists.{Distinct, In, Rising, has, repeats}

pub In-append_left : {A : Type 0} (x : A) (xs ys : List A) → In x xs → In x (xs ++ ys)
In-append_left x (y ∷ xs) ys (inl e) = inl e
In-append_left x (y ∷ xs) ys (inr i) = inr (In-append_left x xs ys i)
In-append_left x [] ys i = absurd i

pub In-append_right : {A : Type 0} (x : A) (xs ys : List A) → In x ys → In x (xs ++ ys)
In-append_right x [] ys i = i
In-append_right x (y ∷ xs) ys i = inr (In-append_right x xs ys i)

pub In-append_cases : {A : Type 0} (x : A) (xs ys : List A) → In x (xs ++ ys) → In x xs ⊎ In x ys
In-append_cases x [] ys i = inr i
In-append_cases x (y ∷ xs) ys (inl e) = inl (inl e)
In-append_cases x (y ∷ xs) ys (inr i) = elim (In-append_cases x xs ys i) [ inl j ↦ inl (inr j) | inr j ↦ inr j ]

pub In-map : {A B : Type 0} (f : A → B) (x : A) (xs : List A) → In x xs → In (f x) (map f xs)
In-map f x (y ∷ xs) (inl e) = inl (rw e)
In-map f x (y ∷ xs) (inr i) = inr (In-map f x xs i)
In-map f x [] i = absurd i

pub In-map_from : {A B : Type 0} (f : A → B) (z : B) (xs : List A) → In z (map f xs) → (x : A) × In x xs × (z ≡ f x)
In-map_from f z (y ∷ xs) (inl e) = (y, inl refl, e)
In-map_from f z (y ∷ xs) (inr i) = let (x, j, e) = In-map_from f z xs i in (x, inr j, e)
In-map_from f z [] i = absurd i

pub In-filter : {A : Type 0} (p : A → Bool) (x : A) (xs : List A) → In x xs → p x ≡ true → In x (filter p xs)
In-filter p x [] i h = i
In-filter p x (y ∷ xs) (inl e) h = let k : p y ≡ true = rw (← e, h) in
    rw k (inl e)
In-filter p x (y ∷ xs) (inr i) h = elim (p y) as (λ b. In x (cond b (y ∷ filter p xs) (filter p xs)))
    [ true ↦ inr (In-filter p x xs i h) | false ↦ In-filter p x xs i h ]

pub In-filter_from : {A : Type 0} (p : A → Bool) (x : A) (xs : List A) → In x (filter p xs) → In x xs × (p x ≡ true)
In-filter_from p x [] i = absurd i
In-filter_from p x (y ∷ xs) i = go (p y) refl (In-filter_from p x xs) i
  where
    go : (b : Bool) → p y ≡ b → (In x (filter p xs) → In x xs × (p x ≡ true))
        → In x (cond b (y ∷ filter p xs) (filter p xs)) → In x (y ∷ xs) × (p x ≡ true)
    go true e ih (inl h) = (inl h, rw (h, e))
    go true e ih (inr j) = let r = ih j in (inr r.0, r.1)
    go false e ih j = let r = ih j in (inr r.0, r.1)

pub find_in : {A : Type 0} (p : A → Bool) (x : A) (xs : List A) → find p xs ≡ Some x → In x xs × (p x ≡ true)
find_in p x [] e = cc
find_in p x (y ∷ xs) e = grind (arith, find_in p x xs)

pub find_none : {A : Type 0} (p : A → Bool) (x : A) (xs : List A) → find p xs ≡ None → In x xs → p x ≡ false
find_none p x [] e i = absurd i
find_none p x (y ∷ xs) e i = grind (arith, find_none p x xs)

pub any_from : {A : Type 0} (p : A → Bool) (xs : List A) → list_any p xs ≡ true → (x : A) × In x xs × (p x ≡ true)
any_from p [] e = cc
any_from p (y ∷ xs) e = grind (arith, any_from p xs)

pub any_none : {A : Type 0} (p : A → Bool) (x : A) (xs : List A) → list_any p xs ≡ false → In x xs → p x ≡ false
any_none p x [] e i = absurd i
any_none p x (y ∷ xs) e i = grind (arith, any_none p x xs)

pub any_some : {A : Type 0} (p : A → Bool) (x : A) (xs : List A) → In x xs → p x ≡ true → list_any p xs ≡ true
any_some p x [] i h = absurd i
any_some p x (y ∷ xs) i h = grind (arith, any_some p x xs)

pub has_in : (x : ℕ) (xs : List ℕ) → has xs x ≡ true → In x xs
has_in x [] e = cc
has_in x (y ∷ xs) e = grind (arith, has_in x xs, eqb-true)

pub in_has : (x : ℕ) (xs : List ℕ) → In x xs → has xs x ≡ true
in_has x [] i = absurd i
in_has x (y ∷ xs) i = grind (arith, in_has x xs, eq-eqb)

-- one member at each key
pub same_at_key : {A : Type 0} (f : A → ℕ) (x y : A) (xs : List A) → Distinct (map f xs) → In x xs → In y xs → f x ≡ f y
    → x ≡ y
same_at_key f x y [] d i j e = absurd i
same_at_key f x y (z ∷ xs) d (inl i) (inl j) e = cc
same_at_key f x y (z ∷ xs) d (inl i) (inr j) e =
    absurd (d.0 (rw (← i, e) (In-map f y xs j)))
same_at_key f x y (z ∷ xs) d (inr i) (inl j) e =
    absurd (d.0 (rw (← j, ← e) (In-map f x xs i)))
same_at_key f x y (z ∷ xs) d (inr i) (inr j) e = same_at_key f x y xs d.1 i j e

pub Distinct-apart : (g : ℕ) (xs ys : List ℕ) → Distinct (xs ++ ys) → In g xs → In g ys → ⊥
Distinct-apart g [] ys d i j = i
Distinct-apart g (x ∷ xs) ys d (inl e) j = d.0 (In-append_right x xs ys (rw (← e) j))
Distinct-apart g (x ∷ xs) ys d (inr i) j = Distinct-apart g xs ys d.1 i j

pub Distinct-left : (xs ys : List ℕ) → Distinct (xs ++ ys) → Distinct xs
Distinct-left [] ys d = tt
Distinct-left (x ∷ xs) ys d = ((λ i. d.0 (In-append_left x xs ys i)), Distinct-left xs ys d.1)

pub Distinct-right : (xs ys : List ℕ) → Distinct (xs ++ ys) → Distinct ys
Distinct-right [] ys d = d
Distinct-right (x ∷ xs) ys d = Distinct-right xs ys d.1

-- a list without repetition, under a function that distinguishes its members
pub Distinct-map : (f : ℕ → ℕ) (xs : List ℕ) → repeats xs ≡ false → ((x y : ℕ) → In x xs → In y xs → f x ≡ f y → x ≡ y)
    → Distinct (map f xs)
Distinct-map f [] e h = tt
Distinct-map f (x ∷ xs) e h = (
  (λ i. let (y, j, q) = In-map_from f (f x) xs i in
      let k : x ≡ y = h x y (inl refl) (inr j) q in
      let m : has xs x ≡ true = in_has x xs (rw k j) in
      grind (arith, m, e)),
  Distinct-map f xs (grind (arith, e)) (λ a b i j. h a b (inr i) (inr j)),
)

pub In-map_filter : {A : Type 0} (f : A → ℕ) (p : A → Bool) (g : ℕ) (xs : List A) → In g (map f (filter p xs))
    → In g (map f xs)
In-map_filter f p g xs i = let (x, j, e) = In-map_from f g (filter p xs) i in
    rw e (In-map f x xs (In-filter_from p x xs j).0)

pub Distinct-filter : {A : Type 0} (f : A → ℕ) (p : A → Bool) (xs : List A) → Distinct (map f xs)
    → Distinct (map f (filter p xs))
Distinct-filter f p [] d = tt
Distinct-filter f p (x ∷ xs) d = elim (p x) as (λ b. Distinct (map f (cond b (x ∷ filter p xs) (filter p xs)))) [
  | true ↦ ((λ i. d.0 (In-map_filter f p (f x) xs i)), Distinct-filter f p xs d.1)
  | false ↦ Distinct-filter f p xs d.1
]

pub Distinct-after_filter : {A : Type 0} (f : A → ℕ) (p : A → Bool) (ys : List ℕ) (xs : List A)
    → Distinct (ys ++ map f xs) → Distinct (ys ++ map f (filter p xs))
Distinct-after_filter f p [] xs d = Distinct-filter f p xs d
Distinct-after_filter f p (y ∷ ys) xs d = (
  (λ i. elim (In-append_cases y ys (map f (filter p xs)) i) [
    | inl j ↦ d.0 (In-append_left y ys (map f xs) j)
    | inr j ↦
        d.0 (In-append_right y ys (map f xs) (In-map_filter f p y xs j))
  ]),
  Distinct-after_filter f p ys xs d.1,
)

pub In-flat_from : {A : Type 0} (f : A → List ℕ) (g : ℕ) (xs : List A) → In g (flat_map f xs)
    → (x : A) × In x xs × In g (f x)
In-flat_from f g [] i = absurd i
In-flat_from f g (x ∷ xs) i = elim (In-append_cases g (f x) (flat_map f xs) i) [
  | inl j ↦ (x, inl refl, j)
  | inr j ↦ let (y, k, h) = In-flat_from f g xs j in (y, inr k, h)
]

pub In-flat : {A : Type 0} (f : A → List ℕ) (g : ℕ) (x : A) (xs : List A) → In x xs → In g (f x) → In g (flat_map f xs)
In-flat f g x [] i h = absurd i
In-flat f g x (y ∷ xs) (inl e) h = In-append_left g (f y) (flat_map f xs) (rw (← e) h)
In-flat f g x (y ∷ xs) (inr i) h = In-append_right g (f y) (flat_map f xs) (In-flat f g x xs i h)

-- how often a number is in a list: each law on order or repetition of a list is arithmetic on these
abbrev pub count : ℕ → List ℕ → ℕ
count g [] = 0
count g (x ∷ xs) = cond (x == g) 1 0 + count g xs

pub count-append : (g : ℕ) (xs ys : List ℕ) → count g (xs ++ ys) ≡ count g xs + count g ys
count-append g [] ys = omega arith
count-append g (x ∷ xs) ys = omega (arith, count-append g xs ys)

pub count-in : (g : ℕ) (xs : List ℕ) → In g xs → 1 ≤ count g xs
count-in g [] i = absurd i
count-in g (x ∷ xs) (inl e) = let k : (x == g) ≡ true = eq-eqb x g (sym e) in
    rw k (omega arith)
count-in g (x ∷ xs) (inr i) = omega (arith, count-in g xs i)

pub in-count : (g : ℕ) (xs : List ℕ) → 1 ≤ count g xs → In g xs
in-count g [] h = absurd (omega arith)
in-count g (x ∷ xs) h = grind (arith, in-count g xs, eqb-true)

pub no_count : (g : ℕ) (xs : List ℕ) → (In g xs → ⊥) → count g xs ≡ 0
no_count g xs n = elim (cases_lt 0 (count g xs)) [ inl h ↦ absurd (n (in-count g xs h)) | inr h ↦ omega arith ]

pub count-distinct : (xs : List ℕ) → ((g : ℕ) → count g xs ≤ 1) → Distinct xs
count-distinct [] h = tt
count-distinct (x ∷ xs) h = (
  (λ i. let n = count-in x xs i in
      let k : (x == x) ≡ true = eq-eqb x x refl in
      let m : cond true 1 0 + count x xs ≤ 1 = rw k at (h x) in
      absurd (omega arith)),
  count-distinct xs (λ g. omega (arith, h g)),
)

pub distinct-count : (xs : List ℕ) → Distinct xs → (g : ℕ) → count g xs ≤ 1
distinct-count [] d g = omega arith
distinct-count (x ∷ xs) d g = elim (cases_Bool (x == g)) [
  | inl e ↦
      let n : count g xs ≡ 0 = no_count g xs (λ i. d.0 (rw (eqb-true x g e) i)) in
      rw e (omega (arith, n))
  | inr e ↦ let h = distinct-count xs d.1 g in rw e (omega (arith, h))
]

-- members that one key distinguishes are distinguished by another that agrees with it
pub Distinct-by : {A : Type 0} (f h : A → ℕ) (xs : List A) → Distinct (map f xs)
    → ((x y : A) → In x xs → In y xs → h x ≡ h y → f x ≡ f y) → Distinct (map h xs)
Distinct-by f h [] d k = tt
Distinct-by f h (x ∷ xs) d k = (
  (λ i. let (y, j, e) = In-map_from h (h x) xs i in
      d.0 (rw (k x y (inl refl) (inr j) e) (In-map f y xs j))),
  Distinct-by f h xs d.1 (λ a b i j. k a b (inr i) (inr j)),
)

pub map_append : {A B : Type 0} (f : A → B) (xs ys : List A) → map f (xs ++ ys) ≡ map f xs ++ map f ys
map_append f [] ys = refl
map_append f (x ∷ xs) ys = rw (map_append f xs ys)

-- a member is found by its key, where keys differ
pub find_member : {A : Type 0} (f : A → ℕ) (x : A) (xs : List A) → Distinct (map f xs) → In x xs
    → find (λ y. f y == f x) xs ≡ Some x
find_member f x [] d i = absurd i
find_member f x (y ∷ xs) d (inl e) = let k : (f y == f x) ≡ true = eq-eqb (f y) (f x) (rw (← e)) in
    rw (k, ← e)
find_member f x (y ∷ xs) d (inr i) =
    let n : (f y == f x) ≡ false =
    ne_eqb (f y) (f x) (λ e. d.0 (rw e (In-map f x xs i))) in
    rw (n, find_member f x xs d.1 i)

pub flat_append : {A B : Type 0} (f : A → List B) (xs ys : List A)
    → flat_map f (xs ++ ys) ≡ flat_map f xs ++ flat_map f ys
flat_append f [] ys = refl
flat_append f (x ∷ xs) ys =
    rw (flat_append f xs ys, ← append_assoc (f x) (flat_map f xs) (flat_map f ys))

-- members that rise
pub Rising-low : (low x : ℕ) (xs : List ℕ) → Rising low xs → In x xs → low ≤ x
Rising-low low x [] r i = absurd i
Rising-low low x (y ∷ xs) r (inl e) = let h = r.0 in rw e h
Rising-low low x (y ∷ xs) r (inr i) = omega (arith, Rising-low (y + 1) x xs r.1 i)

pub Rising-distinct : (low : ℕ) (xs : List ℕ) → Rising low xs → Distinct xs
Rising-distinct low [] r = tt
Rising-distinct low (x ∷ xs) r =
    ((λ i. absurd (omega (arith, Rising-low (x + 1) x xs r.1 i))), Rising-distinct (x + 1) xs r.1)

pub Rising-less : (low less : ℕ) (xs : List ℕ) → less ≤ low → Rising low xs → Rising less xs
Rising-less low less [] h r = tt
Rising-less low less (x ∷ xs) h r = let k = r.0 in (omega arith, r.1)

pub Rising-filter : {A : Type 0} (low : ℕ) (f : A → ℕ) (p : A → Bool) (xs : List A) → Rising low (map f xs)
    → Rising low (map f (filter p xs))
Rising-filter low f p [] r = tt
Rising-filter low f p (x ∷ xs) r = elim (p x) as (λ b. Rising low (map f (cond b (x ∷ filter p xs) (filter p xs)))) [
  | true ↦ (r.0, Rising-filter (f x + 1) f p xs r.1)
  | false ↦ let k = r.0 in
      Rising-less (f x + 1) low (map f (filter p xs)) (omega arith) (Rising-filter (f x + 1) f p xs r.1)
]

pub Distinct-insert : (g : ℕ) (xs ys : List ℕ) → Distinct (xs ++ ys) → (In g (xs ++ ys) → ⊥) → Distinct (xs ++ g ∷ ys)
Distinct-insert g [] ys d n = (n, d)
Distinct-insert g (x ∷ xs) ys d n = (
  (λ i. elim (In-append_cases x xs (g ∷ ys) i) [
    | inl j ↦ d.0 (In-append_left x xs ys j)
    | inr j ↦ elim j [ inl e ↦ n (inl (sym e)) | inr k ↦ d.0 (In-append_right x xs ys k) ]
  ]),
  Distinct-insert g xs ys d.1 (λ i. n (inr i)),
)
