-- Lines that could be merged say what their parts say.
use Rattle.std.specs.Prelude.{◌≡◌, refl, ℕ, zero, suc, ◌+◌, ◌^◌, ◌<◌, ◌≤◌, true, List, []}
use Rattle.std.specs.Prelude.{◌∷◌, ◌++◌, length, map, flat_map, Option, Some, Ok, slice_get}
use Rattle.std.specs.List.{AllByRecursion, Contains, sum_by}
use Rattle.std.specs.List.Sorted.{IsPermutation}
use Rattle.std.proofs.Common.{inl, inr, ap, sym, ◌∙◌, arith}
use Rattle.std.proofs.lemmas.Bool.{and_parts, cases_order}
use Rattle.std.proofs.lemmas.List.{length-map, map-append}
use Rattle.std.proofs.lemmas.List.Elements.{All-from_recursion, Contains-append_cases, Contains-append_left}
use Rattle.std.proofs.lemmas.List.Elements.{Contains-append_right}
use Rattle.std.proofs.lemmas.List.Sorted.{Contains-permutation, IsPermutation-map, IsPermutation-sym}
use Rattle.std.proofs.lemmas.List.Sorted.{sum_by-IsPermutation}
use Rattle.std.proofs.lemmas.List.Sums.{sum_by-append, sum_by-cons}
use Rattle.std.proofs.lemmas.Slice.Eq.{bytes_eq-Decides}
use Rattle.pip_search.specs.Certificates.{AreMerged, HasStop, IsDeepest, IsInSome, Portion, Stop, all_keys, all_stops}
use Rattle.pip_search.specs.Naming.{AreDistinct}
use Rattle.pip_search.specs.Systems.{Model}
use Rattle.pip_search.proofs.Certified.{certificates_count_all, certificates_say_all, get_either, in_all}
use Rattle.pip_search.proofs.Picking.{at_map, map_at}
use Rattle.pip_every.specs.Texts.{inner}
use Rattle.pip_certificates.specs.Entries.{Asks, Entry, Own, Shows, Tells, entry_line, begun_entry, key_digits}
use Rattle.pip_certificates.specs.MergeLaw.{AreChecked, IsSmallPart, LinesOfPartsMerge, ToldPart, lines_of_part}
use Rattle.pip_certificates.specs.MergeLaw.{told_numbers}
use Rattle.pip_certificates.specs.Sums.{label_sum, sum_after, sum_and}
use Rattle.pip_certificates.specs.declared.parts.lines.PartNumbers.{PartNumbers}
use Rattle.pip_certificates.specs.Merges.{Merging, is_whole, merge_lines, no_merging}
use Rattle.pip_certificates.proofs.EntryLines.{asks_back, digits_are, own_back, same_digits, shows_back}
use Rattle.pip_certificates.proofs.EntryLines.{tells_back}
use Rattle.pip_certificates.proofs.Runs.{IsOf, IsThere, IsTold, IsWithin, about_of}
use Rattle.pip_certificates.proofs.Runs.{asked_there, begin, counts, deep, has_key, is_own}
use Rattle.pip_certificates.proofs.Runs.{none_twice, told}
use Rattle.pip_certificates.proofs.Steps.{merge_all, said_merge}

-- ---- lists

module _ {X : Type 0} where
  -- an element is at some place
  at_place : (xs : List X) (x : X) → Contains xs x → (i : ℕ) × (slice_get xs i ≡ Some x)
  at_place [] x c = absurd (omega arith)
  at_place (y ∷ xs) x (zero, low, is) = (0, cc)
  at_place (y ∷ xs) x (suc k, low, is) = let (j, at) = at_place xs x (k, omega arith, is) in (suc j, at)

  -- and what is at a place is an element
  from_place : (xs : List X) (i : ℕ) (x : X) → slice_get xs i ≡ Some x → Contains xs x
  from_place [] i x e = absurd cc
  from_place (y ∷ xs) zero x e = (0, omega arith, cc)
  from_place (y ∷ xs) (suc i) x e = let (j, low, is) = from_place xs i x e in (suc j, omega arith, is)

  -- what holds of each holds of one
  of_each : (P : X → Type 0) (xs : List X) (x : X) → AllByRecursion P xs → Contains xs x → P x
  of_each P xs x all (k, low, is) = rw is at (All-from_recursion P xs all k x low)

  -- two places of which a count takes each are counted twice
  one_counts : (f : X → ℕ) (xs : List X) (i : ℕ) (x : X) → slice_get xs i ≡ Some x → f x ≤ sum_by f xs
  one_counts f [] i x e = absurd cc
  one_counts f (y ∷ xs) zero x e = grind (arith, sum_by-cons f y xs)
  one_counts f (y ∷ xs) (suc i) x e = omega (arith, sum_by-cons f y xs, one_counts f xs i x e)

  two_count : (f : X → ℕ) (xs : List X) (i j : ℕ) (x y : X) → i < j → slice_get xs i ≡ Some x → slice_get xs j ≡ Some y
      → f x + f y ≤ sum_by f xs
  two_count f [] i j x y low e d = absurd cc
  two_count f (z ∷ xs) i zero x y low e d = absurd (omega arith)
  two_count f (z ∷ xs) zero (suc j) x y low e d = grind (arith, sum_by-cons f z xs, one_counts f xs j y d)
  two_count f (z ∷ xs) (suc i) (suc j) x y low e d =
      omega (arith, sum_by-cons f z xs, two_count f xs i j x y (omega arith) e d)

module _ {X Y : Type 0} (f : X → Y) where
  pub sum_mapped : (g : Y → ℕ) (xs : List X) → sum_by g (map f xs) ≡ sum_by (λ x. g (f x)) xs
  sum_mapped g [] = refl
  sum_mapped g (x ∷ xs) =
      omega (arith, sum_by-cons g (f x) (map f xs), sum_mapped g xs, sum_by-cons (λ x. g (f x)) x xs)

pub sum_ones : {X : Type 0} (xs : List X) → sum_by (λ x. 1) xs ≡ length xs
sum_ones [] = refl
sum_ones {X = X} (x ∷ xs) = omega (arith, sum_by-cons {X = X} (λ x. 1) x xs, sum_ones xs)

-- ---- what the lines of parts say

abbrev pub said_own : Stop → Option Entry
said_own x = Some (Own (key_digits x.key) x.depth)

abbrev pub said_asks : Stop → Option Entry
said_asks x = Some (Asks (key_digits x.key) x.depth)

abbrev pub said_label : List ℕ → Option Entry
said_label label = Some (Shows (inner label))

abbrev pub said_part : ToldPart → Option Entry
said_part t = Some (Tells t.about (told_numbers t))

abbrev pub said_of : ToldPart → List (Option Entry)
said_of t = map said_own t.portion.keys
    ++ (map said_asks t.portion.asked ++ (map said_label t.portion.labels ++ said_part t ∷ []))

abbrev pub said_all : List ToldPart → List (Option Entry)
said_all [] = []
said_all (t ∷ ts) = said_of t ++ said_all ts

abbrev portions : List ToldPart → List Portion
portions ts = map (λ t. t.portion) ts

back : {X : Type 0} (f : X → List ℕ) (g : X → Option Entry) (xs : List X)
    → ((j : ℕ) (x : X) → slice_get xs j ≡ Some x → begun_entry (f x) ≡ g x) → map begun_entry (map f xs) ≡ map g xs
back f g [] h = refl
back f g (x ∷ xs) h = cc (h 0 x refl, back f g xs (λ j y e. h (suc j) y e))

small_sum : (ls : List (List ℕ)) (sum : ℕ) → sum < 2 ^ 32 → sum_after sum ls < 2 ^ 32
small_sum [] sum h = h
small_sum (l ∷ ls) sum h = small_sum ls (sum_and sum (label_sum l)) (omega arith)

-- the lines of a part say what they are written for
part_back : (t : ToldPart) → IsSmallPart t → map begun_entry (lines_of_part t) ≡ said_of t
part_back t small = simp (
  map-append,
  back (λ x. entry_line (Own (key_digits x.key) x.depth)) said_own t.portion.keys
      (λ j x e. own_back (key_digits x.key) x.depth (digits_are x.key) (small.keys j x e).depth),
  back (λ x. entry_line (Asks (key_digits x.key) x.depth)) said_asks t.portion.asked
      (λ j x e. asks_back (key_digits x.key) x.depth (digits_are x.key) (small.asked j x e).depth),
  back (λ label. entry_line (Shows (inner label))) said_label t.portion.labels (λ j l e. shows_back (inner l)),
  tells_back t.about (told_numbers t) (
    small.way,
    (
      small.count,
      (
        small.asks,
        (
          small.labels,
          (small_sum (map inner t.portion.labels) 0 (omega arith), tt),
        ),
      ),
    ),
  ),
)

pub all_back : (ts : List ToldPart) → ((j : ℕ) (t : ToldPart) → slice_get ts j ≡ Some t → IsSmallPart t)
    → map begun_entry (flat_map lines_of_part ts) ≡ said_all ts
all_back [] small = refl
all_back (t ∷ ts) small = rw (
  map-append begun_entry (lines_of_part t) (flat_map lines_of_part ts),
  part_back t (small 0 t refl),
  all_back ts (λ j u e. small (suc j) u e),
)

-- ---- from parts to lines, and back

in_part : (ts : List ToldPart) (j : ℕ) (t : ToldPart) (o : Option Entry) → slice_get ts j ≡ Some t
    → Contains (said_of t) o → Contains (said_all ts) o
in_part [] j t o at c = absurd cc
in_part (u ∷ ts) zero t o at c =
    let same : u ≡ t = cc in Contains-append_left (said_of u) (said_all ts) o (rw same c)
in_part (u ∷ ts) (suc j) t o at c = Contains-append_right (said_of u) (said_all ts) o (in_part ts j t o at c)

of_parts : (ts : List ToldPart) (o : Option Entry) → Contains (said_all ts) o
    → (j : ℕ) × ((t : ToldPart) × ((slice_get ts j ≡ Some t) × Contains (said_of t) o))
of_parts [] o c = absurd (omega arith)
of_parts (u ∷ ts) o c = elim (Contains-append_cases (said_of u) (said_all ts) o c) [
  | inl own ↦ (0, (u, (refl, own)))
  | inr more ↦ let (j, (t, (at, has))) = of_parts ts o more in (suc j, (t, (at, has)))
]

module _ (t : ToldPart) where
  abbrev after_own : List (Option Entry)
  after_own = map said_asks t.portion.asked ++ (map said_label t.portion.labels ++ said_part t ∷ [])

  abbrev after_asks : List (Option Entry)
  after_asks = map said_label t.portion.labels ++ said_part t ∷ []

  own_in : (i : ℕ) (x : Stop) → slice_get t.portion.keys i ≡ Some x → Contains (said_of t) (said_own x)
  own_in i x e = Contains-append_left (map said_own t.portion.keys) after_own (said_own x)
      (from_place (map said_own t.portion.keys) i (said_own x) (map_at said_own t.portion.keys i x e))

  asks_in : (i : ℕ) (x : Stop) → slice_get t.portion.asked i ≡ Some x → Contains (said_of t) (said_asks x)
  asks_in i x e = Contains-append_right (map said_own t.portion.keys) after_own (said_asks x)
      (Contains-append_left (map said_asks t.portion.asked) after_asks (said_asks x)
      (from_place (map said_asks t.portion.asked) i (said_asks x) (map_at said_asks t.portion.asked i x e)))

  label_in : (i : ℕ) (l : List ℕ) → slice_get t.portion.labels i ≡ Some l → Contains (said_of t) (said_label l)
  label_in i l e = Contains-append_right (map said_own t.portion.keys) after_own (said_label l)
      (Contains-append_right (map said_asks t.portion.asked) after_asks (said_label l)
      (Contains-append_left (map said_label t.portion.labels) (said_part t ∷ []) (said_label l)
      (from_place (map said_label t.portion.labels) i (said_label l) (map_at said_label t.portion.labels i l e))))

  part_in : Contains (said_of t) (said_part t)
  part_in = Contains-append_right (map said_own t.portion.keys) after_own (said_part t)
      (Contains-append_right (map said_asks t.portion.asked) after_asks (said_part t)
      (Contains-append_right (map said_label t.portion.labels) (said_part t ∷ []) (said_part t)
      (0, omega arith, refl)))

  -- what is in one of the four lists
  pub data IsFrom (o : Option Entry) : Type 0 where
    keys : (i : ℕ) (x : Stop) → slice_get t.portion.keys i ≡ Some x → said_own x ≡ o → IsFrom o
    asks : (i : ℕ) (x : Stop) → said_asks x ≡ o → IsFrom o
    labels : (i : ℕ) (l : List ℕ) → said_label l ≡ o → IsFrom o
    part : said_part t ≡ o → IsFrom o

  alone : (i : ℕ) (o x : Option Entry) → slice_get (x ∷ []) i ≡ Some o → x ≡ o
  alone zero o x e = cc
  alone (suc i) o x e = absurd cc

  which : (o : Option Entry) → Contains (said_of t) o → IsFrom o
  which o c = elim (Contains-append_cases (map said_own t.portion.keys) after_own o c) [
    | inl c ↦
        let (i, e) = at_place (map said_own t.portion.keys) o c in
        let (x, (at, same)) = at_map said_own t.portion.keys i o e in keys i x at same
    | inr c ↦ elim (Contains-append_cases (map said_asks t.portion.asked) after_asks o c) [
      | inl c ↦
          let (i, e) = at_place (map said_asks t.portion.asked) o c in
          let (x, (at, same)) = at_map said_asks t.portion.asked i o e in asks i x same
      | inr c ↦ elim (Contains-append_cases (map said_label t.portion.labels) (said_part t ∷ []) o c) [
        | inl c ↦
            let (i, e) = at_place (map said_label t.portion.labels) o c in
            let (l, (at, same)) = at_map said_label t.portion.labels i o e in labels i l same
        | inr c ↦ let (i, e) = at_place (said_part t ∷ []) o c in part (alone i o (said_part t) e)
      ]
    ]
  ]

-- a key of a part that a line is of
pub record IsOwnOf (ts : List ToldPart) (k : List ℕ) (d : ℕ) : Type 0 where
  place : ℕ
  told : ToldPart
  at : slice_get ts place ≡ Some told
  index : ℕ
  stop : Stop
  there : slice_get told.portion.keys index ≡ Some stop
  digits : key_digits stop.key ≡ k
  depth : stop.depth ≡ d

own_of : (ts : List ToldPart) (k : List ℕ) (d : ℕ) → Contains (said_all ts) (Some (Own k d)) → IsOwnOf ts k d
own_of ts k d c =
    let (j, (t, (at, has))) = of_parts ts (Some (Own k d)) c in go j t at (which t (Some (Own k d)) has)
  where
    go : (j : ℕ) (t : ToldPart) → slice_get ts j ≡ Some t → IsFrom t (Some (Own k d)) → IsOwnOf ts k d
    go j t at (keys i x e same) = record {
      place = j;
      told = t;
      at = at;
      index = i;
      stop = x;
      there = e;
      digits = cc;
      depth = cc;
    }
    go j t at (asks i x same) = absurd cc
    go j t at (labels i l same) = absurd cc
    go j t at (part same) = absurd cc

-- a part that a line is of
told_of : (ts : List ToldPart) (a : List ℕ) (n : PartNumbers) → Contains (said_all ts) (Some (Tells a n))
    → (j : ℕ) × ((t : ToldPart) × ((slice_get ts j ≡ Some t) × (told_numbers t ≡ n)))
told_of ts a n c =
    let (j, (t, (at, has))) = of_parts ts (Some (Tells a n)) c in go j t at (which t (Some (Tells a n)) has)
  where
    go : (j : ℕ) (t : ToldPart) → slice_get ts j ≡ Some t → IsFrom t (Some (Tells a n))
        → (j : ℕ) × ((t : ToldPart) × ((slice_get ts j ≡ Some t) × (told_numbers t ≡ n)))
    go j t at (keys i x e same) = absurd cc
    go j t at (asks i x same) = absurd cc
    go j t at (labels i l same) = absurd cc
    go j t at (part same) = let is : told_numbers t ≡ n = cc in (j, (t, (at, is)))

stop_in : (ts : List ToldPart) (i : ℕ) (x : Stop) → slice_get (all_stops (portions ts)) i ≡ Some x
    → Contains (said_all ts) (said_own x)
unfolding all_stops
stop_in [] i x e = absurd cc
stop_in (t ∷ ts) i x e = elim (get_either t.portion.keys (all_stops (portions ts)) i x e) [
  | inl (k, at) ↦ Contains-append_left (said_of t) (said_all ts) (said_own x) (own_in t k x at)
  | inr (k, at) ↦ Contains-append_right (said_of t) (said_all ts) (said_own x) (stop_in ts k x at)
]

-- ---- counts

pub sum_none : {X : Type 0} (g : X → ℕ) (xs : List X) → ((x : X) → g x ≡ 0) → sum_by g xs ≡ 0
sum_none g [] h = refl
sum_none g (x ∷ xs) h = omega (arith, sum_by-cons g x xs, sum_none g xs h, h x)

module _ (f : Option Entry → ℕ) (no_asks : (x : Stop) → f (said_asks x) ≡ 0)
    (no_label : (l : List ℕ) → f (said_label l) ≡ 0) (no_part : (t : ToldPart) → f (said_part t) ≡ 0)
  where
    sum_of : (t : ToldPart) → sum_by f (said_of t) ≡ sum_by (λ x. f (said_own x)) t.portion.keys
    sum_of t =
        let asks : sum_by f (map said_asks t.portion.asked) ≡ 0 =
        rw (sum_mapped said_asks f) (sum_none (λ x. f (said_asks x)) t.portion.asked no_asks) in
        let labels : sum_by f (map said_label t.portion.labels) ≡ 0 =
        rw (sum_mapped said_label f) (sum_none (λ x. f (said_label x)) t.portion.labels no_label) in
        simp (sum_by-append, sum_mapped said_own f, asks, labels, no_part) (omega arith)

    sum_all : (ts : List ToldPart) → sum_by f (said_all ts) ≡ sum_by (λ x. f (said_own x)) (all_stops (portions ts))
    unfolding all_stops
    sum_all [] = refl
    sum_all (t ∷ ts) = rw (
      sum_by-append f (said_of t) (said_all ts),
      sum_by-append (λ x. f (said_own x)) t.portion.keys (all_stops (portions ts)),
      sum_of t,
      sum_all ts,
    )

-- ---- the law

module _ (m : Model) (start : List ℕ) (s : m.State) (ts : List ToldPart) (lines : List (List ℕ)) (g : Merging)
    (checked : AreChecked m s start ts) (shuffled : IsPermutation (flat_map lines_of_part ts) lines)
    (run : merge_lines no_merging lines ≡ Ok g) (whole : is_whole g ≡ true)
  where
    abbrev os : List (Option Entry)
    os = map begun_entry lines

    abbrev ps : List Portion
    ps = portions ts

    all : merge_all no_merging os ≡ Ok g
    all = said_merge no_merging lines g run

    same : IsPermutation (said_all ts) os
    same = rw (← all_back ts checked.small) (IsPermutation-map begun_entry (flat_map lines_of_part ts) lines shuffled)

    forth : (o : Option Entry) → Contains (said_all ts) o → Contains os o
    forth o c = Contains-permutation (said_all ts) os o same c

    back_in : (o : Option Entry) → Contains os o → Contains (said_all ts) o
    back_in o c = Contains-permutation os (said_all ts) o (IsPermutation-sym (said_all ts) os same) c

    states_same : length (all_keys ps) ≡ g.keys.states
    states_same = omega (
      arith,
      (counts os no_merging g all).states,
      sum_by-IsPermutation is_own (said_all ts) os same,
      sum_all is_own (λ x. refl) (λ l. refl) (λ t. refl) ts,
      sum_ones (all_stops ps),
      length-map (all_stops ps) (λ x. x.key),
    )

    is_once : (key : List ℕ) → sum_by (λ x. has_key key (said_own x)) (all_stops ps) ≤ 1
    is_once key = omega (
      arith,
      (none_twice os no_merging g key all).once,
      sum_by-IsPermutation (has_key key) (said_all ts) os same,
      sum_all (has_key key) (λ x. refl) (λ l. refl) (λ t. refl) ts,
    )

    counts_one : (x : Stop) (name : List ℕ) → x.key ≡ name → has_key (key_digits name) (said_own x) ≡ 1
    counts_one x name is = rw ((bytes_eq-Decides (key_digits x.key) (key_digits name)).1 (ap key_digits is))

    all_distinct : AreDistinct (all_keys ps)
    all_distinct i j name e d =
        let (x, (at, one)) = at_map (λ (y : Stop). y.key) (all_stops ps) i name e in
        let (y, (bt, two)) = at_map (λ (y : Stop). y.key) (all_stops ps) j name d in
        let f : Stop → ℕ = λ z. has_key (key_digits name) (said_own z) in
        let a = counts_one x name one in
        let b = counts_one y name two in
        let most = is_once (key_digits name) in
        elim (cases_order i j) [
          | inl same ↦ same
          | inr (inl h) ↦ absurd (omega (arith, a, b, most, two_count f (all_stops ps) i j x y h at bt))
          | inr (inr h) ↦ absurd (omega (arith, a, b, most, two_count f (all_stops ps) j i y x h bt at))
        ]

    in_some : (j : ℕ) (t : ToldPart) (key : List ℕ) (n : ℕ) → slice_get ts j ≡ Some t → HasStop t.portion.keys key n
        → IsInSome ps key n
    in_some j t key n at has = record {
      place = j;
      part = t.portion;
      at = map_at (λ (u : ToldPart). u.portion) ts j t at;
      has = has;
    }

    start_there : IsInSome ps start 0
    start_there = elim (begin os no_merging g all begins) [
      | inl not_yet ↦ absurd cc
      | inr b ↦
          let (j, (t, (at, is))) = told_of ts b.about b.numbers (back_in (Some (Tells b.about b.numbers)) b.there) in
          in_some j t start 0 at (checked.begin j t at (ap (λ (n : PartNumbers). n.way) is ∙ b.first))
    ]
      where
        begins : g.parts.begins ≡ true
        begins = grind (arith, and_parts)

    asked_are : (j k : ℕ) (p : Portion) (x : Stop) → slice_get ps j ≡ Some p → slice_get p.asked k ≡ Some x
        → IsInSome ps x.key x.depth
    asked_are j k p x at e =
        let (t, (there, is)) = at_map (λ (u : ToldPart). u.portion) ts j p at in
        let own : slice_get t.portion.asked k ≡ Some x = rw is e in
        let c = forth (said_asks x) (in_part ts j t (said_asks x) there (asks_in t k x own)) in
        let small = (checked.small j t there).asked k x own in
        elim (of_each (IsThere no_merging os) os (said_asks x) (asked_there os no_merging g all) c) [
          | inl h ↦
              let o = own_of ts (key_digits x.key) h.own (back_in (Some (Own (key_digits x.key) h.own)) h.there) in
              in_some o.place o.told x.key x.depth o.at (record {
                place = o.index;
                stop = o.stop;
                at = o.there;
                same = same_digits o.stop.key x.key
                    ((checked.small o.place o.told o.at).keys o.index o.stop o.there).words small.words o.digits;
                soon = omega arith;
              })
          | inr none ↦ absurd (omega arith)
        ]

    are_merged : AreMerged start ps
    are_merged = record { start_is = start_there; asked = asked_are }

    -- a key that is as deep as the deepest
    deepest_there : (i : ℕ) × ((x : Stop) × ((slice_get (all_stops ps) i ≡ Some x) × (x.depth ≡ g.keys.deepest)))
    deepest_there = elim (deep os no_merging g all).one [
      | inl none ↦
          let own = start_there.has in
          let (i, there) = in_all ps start_there.place own.place start_there.part own.stop start_there.at own.at in
          (i, (own.stop, (there, omega arith)))
      | inr has ↦
          let o = own_of ts has.0 g.keys.deepest (back_in (Some (Own has.0 g.keys.deepest)) has.1) in
          let (i, there) = in_all ps o.place o.index o.told.portion o.stop (map_at (λ (u : ToldPart). u.portion) ts
          o.place o.told o.at) o.there in (i, (o.stop, (there, o.depth)))
    ]

    is_deepest : IsDeepest (all_stops ps) g.keys.deepest
    is_deepest = let (i, (x, (there, is))) = deepest_there in record {
      within = λ j y e. of_each (IsWithin g.keys.deepest) os (said_own y) (deep os no_merging g all).within
          (forth (said_own y) (stop_in ts j y e));
      place = i;
      stop = x;
      at = there;
      depth_is = is;
    }

pub lines_merge : (m : Model) → LinesOfPartsMerge m
lines_merge m one start s ts lines g stands checked shuffled run whole = record {
  all = certificates_say_all m start (portions ts) checked.closed
      (are_merged m start s ts lines g checked shuffled run whole) s stands;
  count = certificates_count_all m one start (portions ts) g.keys.deepest checked.closed
      (are_merged m start s ts lines g checked shuffled run whole)
      (all_distinct m start s ts lines g checked shuffled run whole)
      (is_deepest m start s ts lines g checked shuffled run whole) s stands checked.reached;
  states = states_same m start s ts lines g checked shuffled run whole;
  labels = λ j k t label at e. of_each (IsTold g.labels) (map begun_entry lines) (said_label label)
      (told (map begun_entry lines) no_merging g (said_merge no_merging lines g run)).all
      (forth m start s ts lines g checked shuffled run whole (said_label label)
      (in_part ts j t (said_label label) at (label_in t k label e)));
  about = λ j t at. of_each (IsOf g.parts.about) (map begun_entry lines) (said_part t)
      (about_of (map begun_entry lines) no_merging g (said_merge no_merging lines g run)).all
      (forth m start s ts lines g checked shuffled run whole (said_part t)
      (in_part ts j t (said_part t) at (part_in t)));
}
