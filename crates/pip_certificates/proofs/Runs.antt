-- What lines that could be merged, one after another, do.
use Rattle.std.specs.Prelude.{◌≡◌, refl, ℕ, suc, ◌+◌, ◌<◌, ◌≤◌, ◌==◌, ◌||◌, ◌⊎◌, Bool, true, false, List, [], ◌∷◌}
use Rattle.std.specs.Prelude.{Option, Some, None, Ok, max}
use Rattle.std.specs.List.{AllByRecursion, Contains, sum_by}
use Rattle.std.specs.Cmp.Lexicographic.{slice_cmp}
use Rattle.std.specs.Ordering.{nat_cmp}
use Rattle.std.specs.Str.{bytes_eq}
use Rattle.std.specs.declared.cmp.Ordering.TheVariants.{Less, Equal}
use Rattle.std.proofs.Common.{inl, inr, ap, sym, subst, ◌∙◌, arith, cond}
use Rattle.std.proofs.lemmas.Bool.{cases_lt, eqb-true}
use Rattle.std.proofs.lemmas.Cmp.{nat_list_cmp_total, tied_itself}
use Rattle.std.proofs.lemmas.List.Sums.{sum_by-cons}
use Rattle.std.proofs.lemmas.Slice.Eq.{bytes_eq-Decides}
use Rattle.pip_certificates.specs.Entries.{Asks, Entry, Own, Shows, Tells}
use Rattle.pip_certificates.specs.Merges.{MergedKeys, MergedParts, MergedShown, Merging, merge_entry}
use Rattle.pip_certificates.specs.declared.parts.lines.PartNumbers.{PartNumbers}
use Rattle.pip_certificates.proofs.Steps.{OwnStep, ask_step, label_step, merge_all, on_ok, own_step, part_step}

-- ---- what is counted

-- one for each key of a part
abbrev pub is_own : Option Entry → ℕ
is_own (Some (Own k d)) = 1
is_own o = 0

-- one for each time that a part has this key
abbrev pub has_key : List ℕ → Option Entry → ℕ
has_key key (Some (Own k d)) = cond (bytes_eq k key) 1 0
has_key key o = 0

-- a line for a key with this depth or less
pub record HasOwn (os : List (Option Entry)) (key : List ℕ) (depth : ℕ) : Type 0 where
  pub own : ℕ
  pub there : Contains os (Some (Own key own))
  pub soon : own ≤ depth

pub first_is : {X : Type 0} (x : X) (xs : List X) → Contains (x ∷ xs) x
first_is x xs = (0, omega arith, refl)

pub later_is : {X : Type 0} (x y : X) (xs : List X) → Contains xs x → Contains (y ∷ xs) x
later_is x y xs c = let low = c.1 in (suc c.0, omega (arith, low), c.2)

has_later : (os : List (Option Entry)) (o : Option Entry) (key : List ℕ) (depth : ℕ) → HasOwn os key depth
    → HasOwn (o ∷ os) key depth
has_later os o key depth h = record {
  own = h.own;
  there = later_is (Some (Own key h.own)) o os h.there;
  soon = h.soon;
}

-- ---- what a step leaves

-- the last key, its depth and the counts
pub record Same (m n : Merging) : Type 0 where
  pub key : n.keys.key ≡ m.keys.key
  pub depth : n.keys.depth ≡ m.keys.depth
  pub states : n.keys.states ≡ m.keys.states
  pub deepest : n.keys.deepest ≡ m.keys.deepest

-- one line leaves the keys, unless it is one of a key of a part
abbrev pub IsOther : Merging → Option Entry → Merging → Type 0
IsOther m (Some (Own k d)) n = Unit {0}
IsOther m o n = Same m n

same_keys : (m n : Merging) → n.keys ≡ m.keys → Same m n
same_keys m n e = record {
  key = ap (λ (x : MergedKeys). x.key) e;
  depth = ap (λ (x : MergedKeys). x.depth) e;
  states = ap (λ (x : MergedKeys). x.states) e;
  deepest = ap (λ (x : MergedKeys). x.deepest) e;
}

pub other_step : (o : Option Entry) (m n : Merging) → merge_entry m o ≡ Ok n → IsOther m o n
other_step None m n e = absurd cc
other_step (Some (Own k d)) m n e = tt
other_step (Some (Asks k d)) m n e =
    let s = ask_step m n k d e in
    record { key = s.key; depth = s.depth; states = s.states; deepest = s.deepest }
other_step (Some (Shows t)) m n e = same_keys m n (label_step m n t e).keys
other_step (Some (Tells a k)) m n e = same_keys m n (part_step m n a k e).keys

-- ---- no key comes twice

-- a key doesn't come, or after the last one so far
abbrev pub ComesAfter : Merging → List (Option Entry) → List ℕ → Type 0
ComesAfter m os key = (sum_by (has_key key) os ≡ 0) ⊎ (slice_cmp nat_cmp m.keys.key key ≡ Less)

-- it comes once, and if there are keys so far, after them
pub record ComesOnce (m : Merging) (os : List (Option Entry)) (key : List ℕ) : Type 0 where
  pub once : sum_by (has_key key) os ≤ 1
  pub after : 0 < m.keys.states → ComesAfter m os key

not_before_itself : (xs : List ℕ) → slice_cmp nat_cmp xs xs ≡ Less → ⊥
not_before_itself xs less =
    let tied : slice_cmp nat_cmp xs xs ≡ Equal = tied_itself nat_list_cmp_total xs in
    let bad : Equal ≡ Less = sym tied ∙ less in
    cc

-- a line that is of no key
passes : (o : Option Entry) (os : List (Option Entry)) (m n : Merging) (key : List ℕ) → has_key key o ≡ 0 → Same m n
    → ComesOnce n os key → ComesOnce m (o ∷ os) key
passes o os m n key none same h =
    let sum = sum_by-cons (has_key key) o os in
    let total : sum_by (has_key key) (o ∷ os) ≡ sum_by (has_key key) os = omega (arith, sum, none) in
    record {
      once = let a = h.once in omega (arith, a, total);
      after = λ some. elim (h.after (subst (λ k. 0 < k) (sym same.states) some)) [
        | inl zero ↦ inl (total ∙ zero)
        | inr less ↦ inr (subst (λ k. slice_cmp nat_cmp k key ≡ Less) same.key less)
      ];
    }

-- and one of a key
comes : (os : List (Option Entry)) (m n : Merging) (k key : List ℕ) (d : ℕ) → OwnStep m k d n → ComesOnce n os key
    → ComesOnce m (Some (Own k d) ∷ os) key
comes os m n k key d s h =
    elim (bytes_eq k key) as (λ b. bytes_eq k key ≡ b → ComesOnce m (Some (Own k d) ∷ os) key) [
      | true ↦ λ e. this e
      | false ↦ λ e. that e
    ] refl
  where
    some : 0 < n.keys.states
    some = let a = s.states in omega (arith, a)

    follows : slice_cmp nat_cmp k key ≡ Less → 0 < m.keys.states → slice_cmp nat_cmp m.keys.key key ≡ Less
    follows less some = elim s.after [
      | inl none ↦ absurd (omega (arith, none, some))
      | inr before ↦ nat_list_cmp_total.trans m.keys.key k key before less
    ]

    this : bytes_eq k key ≡ true → ComesOnce m (Some (Own k d) ∷ os) key
    this e =
        let same : k ≡ key = (bytes_eq-Decides k key).0 e in
        let sum = sum_by-cons (has_key key) (Some (Own k d)) os in
        let one : has_key key (Some (Own k d)) ≡ 1 = ap (λ b. cond b 1 0) e in
        let none : sum_by (has_key key) os ≡ 0 = elim (h.after some) [
          | inl zero ↦ zero
          | inr less ↦ absurd (not_before_itself key (subst (λ x. slice_cmp nat_cmp x key ≡ Less) (s.key ∙ same) less))
        ] in
        record {
          once = omega (arith, sum, one, none);
          after = λ there. inr (elim s.after [
            | inl zero ↦ absurd (omega (arith, zero, there))
            | inr before ↦ subst (λ x. slice_cmp nat_cmp m.keys.key x ≡ Less) same before
          ]);
        }

    that : bytes_eq k key ≡ false → ComesOnce m (Some (Own k d) ∷ os) key
    that e =
        let sum = sum_by-cons (has_key key) (Some (Own k d)) os in
        let zero : has_key key (Some (Own k d)) ≡ 0 = ap (λ b. cond b 1 0) e in
        let total : sum_by (has_key key) (Some (Own k d) ∷ os) ≡ sum_by (has_key key) os = omega (arith, sum, zero) in
        record {
          once = let a = h.once in omega (arith, a, total);
          after = λ there. elim (h.after some) [
            | inl none ↦ inl (total ∙ none)
            | inr less ↦ inr (follows (subst (λ x. slice_cmp nat_cmp x key ≡ Less) s.key less) there)
          ];
        }

pub none_twice : (os : List (Option Entry)) (m g : Merging) (key : List ℕ) → merge_all m os ≡ Ok g → ComesOnce m os key
none_twice [] m g key h = record { once = omega arith; after = λ some. inl refl }
none_twice (o ∷ os) m g key h =
    let w = on_ok (merge_entry m o) (λ n. merge_all n os) g h in
    go o w.0 w.1.0 (none_twice os w.0 g key w.1.1)
  where
    go : (o : Option Entry) (n : Merging) → merge_entry m o ≡ Ok n → ComesOnce n os key → ComesOnce m (o ∷ os) key
    go None n e r = absurd cc
    go (Some (Own k d)) n e r = comes os m n k key d (own_step m n k d e) r
    go (Some (Asks k d)) n e r = passes (Some (Asks k d)) os m n key refl (other_step (Some (Asks k d)) m n e) r
    go (Some (Shows t)) n e r = passes (Some (Shows t)) os m n key refl (other_step (Some (Shows t)) m n e) r
    go (Some (Tells a k)) n e r =
        passes (Some (Tells a k)) os m n key refl (other_step (Some (Tells a k)) m n e) r

-- ---- what is asked is there

-- a key that is asked is among these, or is the last one so far
abbrev pub IsThere : Merging → List (Option Entry) → Option Entry → Type 0
IsThere m os (Some (Asks k d)) = HasOwn os k d ⊎ ((0 < m.keys.states) × ((m.keys.key ≡ k) × (m.keys.depth ≤ d)))
IsThere m os o = Unit {0}

-- what was there after a line is there before it
there_before : (o x : Option Entry) (os : List (Option Entry)) (m n : Merging) → merge_entry m o ≡ Ok n
    → IsThere n os x → IsThere m (o ∷ os) x
there_before o None os m n e h = tt
there_before o (Some (Own k d)) os m n e h = tt
there_before o (Some (Shows t)) os m n e h = tt
there_before o (Some (Tells a k)) os m n e h = tt
there_before o (Some (Asks k d)) os m n e h = elim h [
  | inl has ↦ inl (has_later os o k d has)
  | inr last ↦ go o e last
]
  where
    still : (o : Option Entry) → Same m n → (0 < n.keys.states) × ((n.keys.key ≡ k) × (n.keys.depth ≤ d))
        → IsThere m (o ∷ os) (Some (Asks k d))
    still o same last = inr (
      subst (λ c. 0 < c) same.states last.0,
      (sym same.key ∙ last.1.0, subst (λ c. c ≤ d) same.depth last.1.1),
    )

    go : (o : Option Entry) → merge_entry m o ≡ Ok n → (0 < n.keys.states) × ((n.keys.key ≡ k) × (n.keys.depth ≤ d))
        → IsThere m (o ∷ os) (Some (Asks k d))
    go None e last = absurd cc
    go (Some (Own j c)) e last =
        let s = own_step m n j c e in
        let same : j ≡ k = sym s.key ∙ last.1.0 in
        inl (record {
          own = c;
          there = subst (λ x. Contains (Some (Own j c) ∷ os) (Some (Own x c))) same (first_is (Some (Own j c)) os);
          soon = subst (λ x. x ≤ d) s.depth last.1.1;
        })
    go (Some (Asks j c)) e last = still (Some (Asks j c)) (other_step (Some (Asks j c)) m n e) last
    go (Some (Shows t)) e last = still (Some (Shows t)) (other_step (Some (Shows t)) m n e) last
    go (Some (Tells a j)) e last = still (Some (Tells a j)) (other_step (Some (Tells a j)) m n e) last

all_there : (xs os : List (Option Entry)) (o : Option Entry) (m n : Merging) → merge_entry m o ≡ Ok n
    → AllByRecursion (IsThere n os) xs → AllByRecursion (IsThere m (o ∷ os)) xs
all_there [] os o m n e h = tt
all_there (x ∷ xs) os o m n e h = (there_before o x os m n e h.0, all_there xs os o m n e h.1)

pub asked_there : (os : List (Option Entry)) (m g : Merging) → merge_all m os ≡ Ok g
    → AllByRecursion (IsThere m os) os
asked_there [] m g h = tt
asked_there (o ∷ os) m g h =
    let w = on_ok (merge_entry m o) (λ n. merge_all n os) g h in
    (first o w.0 w.1.0, all_there os os o m w.0 w.1.0 (asked_there os w.0 g w.1.1))
  where
    first : (o : Option Entry) (n : Merging) → merge_entry m o ≡ Ok n → IsThere m (o ∷ os) o
    first None n e = tt
    first (Some (Own k d)) n e = tt
    first (Some (Shows t)) n e = tt
    first (Some (Tells a k)) n e = tt
    first (Some (Asks k d)) n e = let s = ask_step m n k d e in inr (s.some, (s.same, s.soon))

-- ---- how deep the keys are

-- a key is no deeper
abbrev pub IsWithin : ℕ → Option Entry → Type 0
IsWithin deepest (Some (Own k d)) = d ≤ deepest
IsWithin deepest o = Unit {0}

-- none of these is deeper, and the greatest depth is one of theirs, or was reached before
pub record AreDeep (m : Merging) (os : List (Option Entry)) (g : Merging) : Type 0 where
  pub more : m.keys.deepest ≤ g.keys.deepest
  pub within : AllByRecursion (IsWithin g.keys.deepest) os
  pub one : (g.keys.deepest ≡ m.keys.deepest) ⊎ ((k : List ℕ) × Contains os (Some (Own k g.keys.deepest)))

deep_step : (o : Option Entry) (os : List (Option Entry)) (m n g : Merging) → merge_entry m o ≡ Ok n → AreDeep n os g
    → AreDeep m (o ∷ os) g
deep_step o os m n g e h = go o e
  where
    still : (o : Option Entry) → Same m n → IsWithin g.keys.deepest o → AreDeep m (o ∷ os) g
    still o same low = record {
      more = subst (λ c. c ≤ g.keys.deepest) same.deepest h.more;
      within = (low, h.within);
      one = elim h.one [
        | inl is ↦ inl (is ∙ same.deepest)
        | inr has ↦ inr (has.0, later_is (Some (Own has.0 g.keys.deepest)) o os has.1)
      ];
    }

    go : (o : Option Entry) → merge_entry m o ≡ Ok n → AreDeep m (o ∷ os) g
    go None e = absurd cc
    go (Some (Asks k d)) e = still (Some (Asks k d)) (other_step (Some (Asks k d)) m n e) tt
    go (Some (Shows t)) e = still (Some (Shows t)) (other_step (Some (Shows t)) m n e) tt
    go (Some (Tells a k)) e = still (Some (Tells a k)) (other_step (Some (Tells a k)) m n e) tt
    go (Some (Own k d)) e =
        let s = own_step m n k d e in
        let is = s.deepest in
        let most = h.more in
        record {
          more = omega (arith, is, most);
          within = (omega (arith, is, most), h.within);
          one = elim h.one [
            | inl same ↦ either k d (same ∙ is)
            | inr has ↦ inr (has.0, later_is (Some (Own has.0 g.keys.deepest)) (Some (Own k d)) os has.1)
          ];
        }
      where
        either : (k : List ℕ) (d : ℕ) → g.keys.deepest ≡ max m.keys.deepest d
            → (g.keys.deepest ≡ m.keys.deepest)
            ⊎ ((j : List ℕ) × Contains (Some (Own k d) ∷ os) (Some (Own j g.keys.deepest)))
        either k d is = elim (cases_lt m.keys.deepest d) [
          | inl less ↦
              let same : g.keys.deepest ≡ d = omega (arith, is, less) in
              inr (
                k,
                subst (λ c. Contains (Some (Own k d) ∷ os) (Some (Own k c))) (sym same)
                    (first_is (Some (Own k d)) os),
              )
          | inr more ↦ inl (omega (arith, is, more))
        ]

pub deep : (os : List (Option Entry)) (m g : Merging) → merge_all m os ≡ Ok g → AreDeep m os g
deep [] m g h =
    let same : m ≡ g = cc in
    let is : m.keys.deepest ≡ g.keys.deepest = ap (λ (x : Merging). x.keys.deepest) same in
    record { more = omega (arith, is); within = tt; one = inl (sym is) }
deep (o ∷ os) m g h =
    let w = on_ok (merge_entry m o) (λ n. merge_all n os) g h in deep_step o os m w.0 g w.1.0 (deep os w.0 g w.1.1)

-- ---- labels

-- a label is one of these
abbrev pub IsTold : List (List ℕ) → Option Entry → Type 0
IsTold labels (Some (Shows t)) = Contains labels t
IsTold labels o = Unit {0}

-- those of these lines are told, and those before them
pub record AreTold (m : Merging) (os : List (Option Entry)) (g : Merging) : Type 0 where
  pub keeps : (t : List ℕ) → Contains m.labels t → Contains g.labels t
  pub all : AllByRecursion (IsTold g.labels) os

labels_keep : (o : Option Entry) (m n : Merging) → merge_entry m o ≡ Ok n → (t : List ℕ) → Contains m.labels t
    → Contains n.labels t
labels_keep None m n e t c = absurd cc
labels_keep (Some (Own k d)) m n e t c = subst (λ ls. Contains ls t) (sym (own_step m n k d e).labels) c
labels_keep (Some (Asks k d)) m n e t c = subst (λ ls. Contains ls t) (sym (ask_step m n k d e).labels) c
labels_keep (Some (Shows x)) m n e t c = (label_step m n x e).keeps t c
labels_keep (Some (Tells a k)) m n e t c = subst (λ ls. Contains ls t) (sym (part_step m n a k e).labels) c

pub told : (os : List (Option Entry)) (m g : Merging) → merge_all m os ≡ Ok g → AreTold m os g
told [] m g h =
    let same : m ≡ g = cc in
    record { keeps = λ t c. subst (λ (x : Merging). Contains x.labels t) same c; all = tt }
told (o ∷ os) m g h =
    let w = on_ok (merge_entry m o) (λ n. merge_all n os) g h in
    let rest = told os w.0 g w.1.1 in
    record {
      keeps = λ t c. rest.keeps t (labels_keep o m w.0 w.1.0 t c);
      all = (first o w.0 w.1.0 rest, rest.all);
    }
  where
    first : (o : Option Entry) (n : Merging) → merge_entry m o ≡ Ok n → AreTold n os g → IsTold g.labels o
    first None n e r = tt
    first (Some (Own k d)) n e r = tt
    first (Some (Asks k d)) n e r = tt
    first (Some (Tells a k)) n e r = tt
    first (Some (Shows t)) n e r = r.keeps t (label_step m n t e).has

-- ---- how parts begin

-- a part begins with the first key
pub record Begins (os : List (Option Entry)) : Type 0 where
  pub about : List ℕ
  pub numbers : PartNumbers
  pub first : numbers.way ≡ 0
  pub there : Contains os (Some (Tells about numbers))

begins_later : (o : Option Entry) (os : List (Option Entry)) → Begins os → Begins (o ∷ os)
begins_later o os h = record {
  about = h.about;
  numbers = h.numbers;
  first = h.first;
  there = later_is (Some (Tells h.about h.numbers)) o os h.there;
}

or_either : (a b : Bool) → (a || b) ≡ true → (a ≡ true) ⊎ (b ≡ true)
or_either true b h = inl refl
or_either false b h = inr h

begins_step : (o : Option Entry) (os : List (Option Entry)) (m n : Merging) → merge_entry m o ≡ Ok n
    → (n.parts.begins ≡ true) ⊎ Begins os → (m.parts.begins ≡ true) ⊎ Begins (o ∷ os)
begins_step o os m n e h = elim h [
  | inl so ↦ go o e so
  | inr later ↦ inr (begins_later o os later)
]
  where
    go : (o : Option Entry) → merge_entry m o ≡ Ok n → n.parts.begins ≡ true
        → (m.parts.begins ≡ true) ⊎ Begins (o ∷ os)
    go None e so = absurd cc
    go (Some (Own k d)) e so = inl (ap (λ (x : MergedParts). x.begins) (sym (own_step m n k d e).parts) ∙ so)
    go (Some (Asks k d)) e so = inl (ap (λ (x : MergedParts). x.begins) (sym (ask_step m n k d e).parts) ∙ so)
    go (Some (Shows t)) e so = inl (ap (λ (x : MergedParts). x.begins) (sym (label_step m n t e).parts) ∙ so)
    go (Some (Tells a k)) e so =
        elim (or_either m.parts.begins (k.way == 0) (sym (part_step m n a k e).begins ∙ so)) [
          | inl was ↦ inl was
          | inr now ↦ inr (record {
            about = a;
            numbers = k;
            first = eqb-true k.way 0 now;
            there = first_is (Some (Tells a k)) os;
          })
        ]

pub begin : (os : List (Option Entry)) (m g : Merging) → merge_all m os ≡ Ok g → g.parts.begins ≡ true
    → (m.parts.begins ≡ true) ⊎ Begins os
begin [] m g h so = let same : m ≡ g = cc in inl (ap (λ (x : Merging). x.parts.begins) same ∙ so)
begin (o ∷ os) m g h so =
    let w = on_ok (merge_entry m o) (λ n. merge_all n os) g h in
    begins_step o os m w.0 w.1.0 (begin os w.0 g w.1.1 so)

-- ---- what parts are of

-- a part is of this
abbrev pub IsOf : List ℕ → Option Entry → Type 0
IsOf about (Some (Tells a k)) = a ≡ about
IsOf about o = Unit {0}

-- all parts are of one thing, as those before, if there are any
pub record AreOf (m : Merging) (os : List (Option Entry)) (g : Merging) : Type 0 where
  pub some : 0 < m.parts.count → g.parts.about ≡ m.parts.about
  pub all : AllByRecursion (IsOf g.parts.about) os

of_same : (o : Option Entry) (os : List (Option Entry)) (m n g : Merging) → n.parts ≡ m.parts
    → IsOf g.parts.about o → AreOf n os g → AreOf m (o ∷ os) g
of_same o os m n g same is h = record {
  some = λ some. h.some (subst (λ c. 0 < c) (ap (λ (x : MergedParts). x.count) (sym same)) some)
      ∙ ap (λ (x : MergedParts). x.about) same;
  all = (is, h.all);
}

of_step : (o : Option Entry) (os : List (Option Entry)) (m n g : Merging) → merge_entry m o ≡ Ok n → AreOf n os g
    → AreOf m (o ∷ os) g
of_step None os m n g e h = absurd cc
of_step (Some (Own k d)) os m n g e h = of_same (Some (Own k d)) os m n g (own_step m n k d e).parts tt h
of_step (Some (Asks k d)) os m n g e h = of_same (Some (Asks k d)) os m n g (ask_step m n k d e).parts tt h
of_step (Some (Shows t)) os m n g e h = of_same (Some (Shows t)) os m n g (label_step m n t e).parts tt h
of_step (Some (Tells a k)) os m n g e h =
    let s = part_step m n a k e in
    let more = s.count in
    let now : g.parts.about ≡ a = h.some (omega (arith, more)) ∙ s.about_is in
    record {
      some = λ some. elim s.alike [
        | inl none ↦ absurd (omega (arith, none, some))
        | inr is ↦ now ∙ sym is
      ];
      all = (sym now, h.all);
    }

pub about_of : (os : List (Option Entry)) (m g : Merging) → merge_all m os ≡ Ok g → AreOf m os g
about_of [] m g h = record {
  some = λ some. let same : m ≡ g = cc in ap (λ (x : Merging). x.parts.about) (sym same);
  all = tt;
}
about_of (o ∷ os) m g h =
    let w = on_ok (merge_entry m o) (λ n. merge_all n os) g h in of_step o os m w.0 g w.1.0 (about_of os w.0 g w.1.1)

-- ---- all that is counted

-- one for each line that asks
abbrev pub is_asks : Option Entry → ℕ
is_asks (Some (Asks k d)) = 1
is_asks o = 0

-- one for each line of a label
abbrev pub is_label : Option Entry → ℕ
is_label (Some (Shows t)) = 1
is_label o = 0

-- one for each line that says nothing
abbrev pub is_none : Option Entry → ℕ
is_none None = 1
is_none o = 0

-- one for each line of a part
abbrev pub is_part : Option Entry → ℕ
is_part (Some (Tells a k)) = 1
is_part o = 0

-- how many keys a line says that its part has, how many it asks, and how many labels it has
abbrev pub says_keys : Option Entry → ℕ
says_keys (Some (Tells a k)) = k.keys
says_keys o = 0

abbrev pub says_asked : Option Entry → ℕ
says_asked (Some (Tells a k)) = k.asked
says_asked o = 0

abbrev pub says_labels : Option Entry → ℕ
says_labels (Some (Tells a k)) = k.labels
says_labels o = 0

-- the counts after some lines, by those before them
pub record AreCounts (m : Merging) (os : List (Option Entry)) (g : Merging) : Type 0 where
  pub states : g.keys.states ≡ m.keys.states + sum_by is_own os
  pub asked : g.keys.asked ≡ m.keys.asked + sum_by is_asks os
  pub shown : g.shown.count ≡ m.shown.count + sum_by is_label os
  pub keys : g.parts.keys ≡ m.parts.keys + sum_by says_keys os
  pub asks : g.parts.asked ≡ m.parts.asked + sum_by says_asked os
  pub labels : g.parts.labels ≡ m.parts.labels + sum_by says_labels os

-- and after one
pub record CountStep (m : Merging) (o : Option Entry) (n : Merging) : Type 0 where
  pub states : n.keys.states ≡ m.keys.states + is_own o
  pub asked : n.keys.asked ≡ m.keys.asked + is_asks o
  pub shown : n.shown.count ≡ m.shown.count + is_label o
  pub keys : n.parts.keys ≡ m.parts.keys + says_keys o
  pub asks : n.parts.asked ≡ m.parts.asked + says_asked o
  pub labels : n.parts.labels ≡ m.parts.labels + says_labels o

count_step : (o : Option Entry) (m n : Merging) → merge_entry m o ≡ Ok n → CountStep m o n
count_step None m n e = absurd cc
count_step (Some (Own k d)) m n e =
    let s = own_step m n k d e in
    let p = s.parts in
    let h = s.shown in
    record {
      states = s.states;
      asked = s.asked ∙ omega arith;
      shown = ap (λ (x : MergedShown). x.count) h ∙ omega arith;
      keys = ap (λ (x : MergedParts). x.keys) p ∙ omega arith;
      asks = ap (λ (x : MergedParts). x.asked) p ∙ omega arith;
      labels = ap (λ (x : MergedParts). x.labels) p ∙ omega arith;
    }
count_step (Some (Asks k d)) m n e =
    let s = ask_step m n k d e in
    let p = s.parts in
    let h = s.shown in
    record {
      states = s.states ∙ omega arith;
      asked = s.asked;
      shown = ap (λ (x : MergedShown). x.count) h ∙ omega arith;
      keys = ap (λ (x : MergedParts). x.keys) p ∙ omega arith;
      asks = ap (λ (x : MergedParts). x.asked) p ∙ omega arith;
      labels = ap (λ (x : MergedParts). x.labels) p ∙ omega arith;
    }
count_step (Some (Shows t)) m n e =
    let s = label_step m n t e in
    let p = s.parts in
    let k = s.keys in
    record {
      states = ap (λ (x : MergedKeys). x.states) k ∙ omega arith;
      asked = ap (λ (x : MergedKeys). x.asked) k ∙ omega arith;
      shown = s.count;
      keys = ap (λ (x : MergedParts). x.keys) p ∙ omega arith;
      asks = ap (λ (x : MergedParts). x.asked) p ∙ omega arith;
      labels = ap (λ (x : MergedParts). x.labels) p ∙ omega arith;
    }
count_step (Some (Tells a k)) m n e =
    let s = part_step m n a k e in
    let h = s.shown in
    let o = s.keys in
    record {
      states = ap (λ (x : MergedKeys). x.states) o ∙ omega arith;
      asked = ap (λ (x : MergedKeys). x.asked) o ∙ omega arith;
      shown = ap (λ (x : MergedShown). x.count) h ∙ omega arith;
      keys = s.own;
      asks = s.asked;
      labels = s.told;
    }

pub counts : (os : List (Option Entry)) (m g : Merging) → merge_all m os ≡ Ok g → AreCounts m os g
counts [] m g h =
    let same : m ≡ g = cc in record {
      states = ap (λ (x : Merging). x.keys.states) (sym same) ∙ omega arith;
      asked = ap (λ (x : Merging). x.keys.asked) (sym same) ∙ omega arith;
      shown = ap (λ (x : Merging). x.shown.count) (sym same) ∙ omega arith;
      keys = ap (λ (x : Merging). x.parts.keys) (sym same) ∙ omega arith;
      asks = ap (λ (x : Merging). x.parts.asked) (sym same) ∙ omega arith;
      labels = ap (λ (x : Merging). x.parts.labels) (sym same) ∙ omega arith;
    }
counts (o ∷ os) m g h =
    let w = on_ok (merge_entry m o) (λ n. merge_all n os) g h in
    let r = counts os w.0 g w.1.1 in
    let s = count_step o m w.0 w.1.0 in
    record {
      states = let a = r.states in let b = s.states in omega (arith, a, b, sum_by-cons is_own o os);
      asked = let a = r.asked in let b = s.asked in omega (arith, a, b, sum_by-cons is_asks o os);
      shown = let a = r.shown in let b = s.shown in omega (arith, a, b, sum_by-cons is_label o os);
      keys = let a = r.keys in let b = s.keys in omega (arith, a, b, sum_by-cons says_keys o os);
      asks = let a = r.asks in let b = s.asks in omega (arith, a, b, sum_by-cons says_asked o os);
      labels = let a = r.labels in let b = s.labels in omega (arith, a, b, sum_by-cons says_labels o os);
    }

-- each line says something
pub record SaysSomething (o : Option Entry) : Type 0 where
  pub entry : Entry
  pub is : o ≡ Some entry

pub each_says : (os : List (Option Entry)) (m g : Merging) → merge_all m os ≡ Ok g → AllByRecursion SaysSomething os
each_says [] m g h = tt
each_says (None ∷ os) m g h = absurd cc
each_says (Some x ∷ os) m g h =
    let w = on_ok (merge_entry m (Some x)) (λ n. merge_all n os) g h in
    (record { entry = x; is = refl }, each_says os w.0 g w.1.1)
