-- The parts of a frame get their first words one after another.
use Rattle.std.proofs.Common.{◌≡◌, ℕ, ◌+◌, ◌*◌, ◌-◌, ◌/◌, ◌<◌, ◌≤◌, Bool, false, List, ◌++◌, length}
use Rattle.std.proofs.Common.{true, slice_index_or, take, drop, get_or, sym, ap, subst, ◌∙◌, arith, inl, inr}
use Rattle.std.proofs.lemmas.Bool.{cases_lt}
use Rattle.std.proofs.lemmas.List.{ext_get_or, get_or-append_right, get_or-drop, get_or-take, get_or_append_left}
use Rattle.std.proofs.lemmas.List.{length-append, length-drop, length-take-le}
use Rattle.pip_every.specs.Tracks.{SameWords, TracksWords}

-- the parts before p are as they were at first, and so are all that were not opened
pub record IsRestored (from to : List ℕ) (parts : List Bool) (p : ℕ) : Type 0 where
  pub count : length to ≡ 1024
  pub below : (j : ℕ) → j < 32 * p → get_or to j 0 ≡ get_or from j 0
  pub tracks : TracksWords from to parts

-- a list with 32 words of another from s on
abbrev pub part_written : List ℕ → List ℕ → ℕ → List ℕ
part_written from to s = take s to ++ (take 32 (drop s from) ++ drop 32 (drop s to))

part_count : (from : List ℕ) (s : ℕ) → length from ≡ 1024 → s + 32 ≤ 1024 → length (take 32 (drop s from)) ≡ 32
part_count from s count fits =
    let rest : length (drop s from) ≡ length from - s = length-drop s from in
    length-take-le 32 (drop s from) (omega (arith, rest, count, fits))

written_count : (from to : List ℕ) (s : ℕ) → length from ≡ 1024 → length to ≡ 1024 → s + 32 ≤ 1024
    → length (part_written from to s) ≡ 1024
written_count from to s count_from count_to fits =
    let before : length (take s to) ≡ s = length-take-le s to (omega (arith, count_to, fits)) in
    let part : length (take 32 (drop s from)) ≡ 32 = part_count from s count_from fits in
    let rest : length (drop s to) ≡ length to - s = length-drop s to in
    let after : length (drop 32 (drop s to)) ≡ length (drop s to) - 32 = length-drop 32 (drop s to) in
    let inner : length (take 32 (drop s from) ++ drop 32 (drop s to)) ≡ length (take 32 (drop s from)) +
    length (drop 32 (drop s to)) = length-append (take 32 (drop s from)) (drop 32 (drop s to)) in
    let outer : length (part_written from to s) ≡ length (take s to) +
    length (take 32 (drop s from) ++ drop 32 (drop s to)) =
    length-append (take s to) (take 32 (drop s from) ++ drop 32 (drop s to)) in
    omega (arith, before, part, rest, after, inner, outer, count_to, fits)

word_in_part : (from to : List ℕ) (s j : ℕ) → length from ≡ 1024 → length to ≡ 1024 → s + 32 ≤ 1024 → s ≤ j
    → j < s + 32 → get_or (part_written from to s) j 0 ≡ get_or from j 0
word_in_part from to s j count_from count_to fits low high =
    let before : length (take s to) ≡ s = length-take-le s to (omega (arith, count_to, fits)) in
    let part : length (take 32 (drop s from)) ≡ 32 = part_count from s count_from fits in
    let at : s + (j - s) ≡ j = omega (arith, low) in
    let small : j - s < 32 = omega (arith, low, high) in
    get_or-append_right (take s to) (take 32 (drop s from) ++ drop 32 (drop s to)) s j 0 before low ∙
    (get_or_append_left (take 32 (drop s from)) (drop 32 (drop s to)) 0 (j - s) (omega (arith, small, part)) ∙
    (get_or-take 32 (drop s from) (j - s) 0 small ∙
    (get_or-drop s from (j - s) 0 ∙ ap (λ k. get_or from k 0) at)))

word_outside : (from to : List ℕ) (s j : ℕ) → length from ≡ 1024 → length to ≡ 1024 → s + 32 ≤ 1024
    → (s ≤ j → j < s + 32 → ⊥) → get_or (part_written from to s) j 0 ≡ get_or to j 0
word_outside from to s j count_from count_to fits out =
    let before : length (take s to) ≡ s = length-take-le s to (omega (arith, count_to, fits)) in
    let part : length (take 32 (drop s from)) ≡ 32 = part_count from s count_from fits in
    elim (cases_lt j s) [
      | inl lt ↦ get_or_append_left (take s to) (take 32 (drop s from) ++ drop 32 (drop s to)) 0 j
          (omega (arith, lt, before)) ∙ get_or-take s to j 0 lt
      | inr low ↦ elim (cases_lt j (s + 32)) [
        | inl high ↦ absurd (out low high)
        | inr far ↦
            let at : s + (32 + (j - s - 32)) ≡ j = omega (arith, low, far) in
            let past : 32 ≤ j - s = omega (arith, low, far) in
            get_or-append_right (take s to) (take 32 (drop s from) ++ drop 32 (drop s to)) s j 0 before low ∙
            (get_or-append_right (take 32 (drop s from)) (drop 32 (drop s to)) 32 (j - s) 0 part past ∙
            (get_or-drop 32 (drop s to) (j - s - 32) 0 ∙
            (get_or-drop s to (32 + (j - s - 32)) 0 ∙ ap (λ k. get_or to k 0) at)))
      ]
    ]

restored_part : (from to : List ℕ) (parts : List Bool) (p : ℕ) → length from ≡ 1024 → p < 32
    → IsRestored from to parts p → IsRestored from (part_written from to (p * 32)) parts (p + 1)
restored_part from to parts p count pi h =
    let fits : p * 32 + 32 ≤ 1024 = omega (arith, pi) in
    let inside : (j : ℕ) → p * 32 ≤ j → j < p * 32 + 32 → get_or (part_written from to (p * 32)) j 0 ≡ get_or from j 0 =
    λ j low high. word_in_part from to (p * 32) j count h.count fits low high in
    let outside : (j : ℕ) → (p * 32 ≤ j → j < p * 32 + 32 → ⊥) → get_or (part_written from to (p * 32)) j 0 ≡
    get_or to j 0 = λ j out. word_outside from to (p * 32) j count h.count fits out in
    record {
      count = written_count from to (p * 32) count h.count fits;
      below = λ j lt. elim (cases_lt j (32 * p)) [
        | inl small ↦ outside j (λ low high. omega (arith, small, low)) ∙ h.below j small
        | inr large ↦ inside j (omega (arith, large)) (omega (arith, lt))
      ];
      tracks = λ j ji shut. elim (cases_lt j (p * 32)) [
        | inl small ↦ outside j (λ low high. omega (arith, small, low)) ∙ h.tracks j ji shut
        | inr low ↦ elim (cases_lt j (p * 32 + 32)) [
          | inl high ↦ inside j low high
          | inr far ↦ outside j (λ low high. omega (arith, far, high)) ∙ h.tracks j ji shut
        ]
      ];
    }

-- a part got its first words
pub put_part : (from to new part : List ℕ) (parts : List Bool) (p n : ℕ) → n ≡ 32 → length from ≡ 1024 → p < 32
    → part ≡ take n (drop (p * 32) from) → new ≡ take (p * 32) to ++ (part ++ drop n (drop (p * 32) to))
    → IsRestored from to parts p → IsRestored from new parts (p + 1)
put_part from to new part parts p n n_is count pi part_is is h =
    let whole : new ≡ part_written from to (p * 32) =
    is ∙ (ap (λ v. take (p * 32) to ++ (v ++ drop n (drop (p * 32) to))) part_is ∙
    ap (λ v. take (p * 32) to ++ (take v (drop (p * 32) from) ++ drop v (drop (p * 32) to))) n_is) in
    subst (λ v. IsRestored from v parts (p + 1)) (sym whole) (restored_part from to parts p count pi h)

-- parts that were not opened are passed
pub pass_parts : (from to : List ℕ) (parts : List Bool) (p q : ℕ) → q ≤ 32
    → ((k : ℕ) → p ≤ k → k < q → slice_index_or parts k true ≡ false) → IsRestored from to parts p
    → IsRestored from to parts q
pass_parts from to parts p q end shut h = record {
  count = h.count;
  below = λ j lt. elim (cases_lt j (32 * p)) [
    | inl small ↦ h.below j small
    | inr large ↦ h.tracks j (omega (arith, lt, end)) (shut (j / 32) (omega (arith, large)) (omega (arith, lt)))
  ];
  tracks = h.tracks;
}

pub start_parts : (from to : List ℕ) (parts : List Bool) (q : ℕ) → length to ≡ 1024 → TracksWords from to parts → q ≤ 32
    → ((k : ℕ) → 0 ≤ k → k < q → slice_index_or parts k true ≡ false) → IsRestored from to parts q
start_parts from to parts q count t end shut = pass_parts from to parts 0 q end shut
    (record { count = count; below = λ j lt. absurd (omega (arith, lt)); tracks = t })

-- all parts are as they were at first
pub all_restored : (from to : List ℕ) (parts : List Bool) (p : ℕ) → length from ≡ 1024 → 32 ≤ p
    → IsRestored from to parts p → to ≡ from
all_restored from to parts p count end h = ext_get_or 0 to from (h.count ∙ sym count)
    (λ j lt. h.below j (omega (arith, lt, h.count, end)))

-- words in a part that is the same
pub part_same : (xs ys : List ℕ) (s n j : ℕ) → take n (drop s xs) ≡ take n (drop s ys) → s ≤ j → j < s + n
    → get_or xs j 0 ≡ get_or ys j 0
part_same xs ys s n j same low high =
    let at : s + (j - s) ≡ j = omega (arith, low) in
    let small : j - s < n = omega (arith, low, high) in
    ap (λ k. get_or xs k 0) (sym at) ∙ (sym (get_or-drop s xs (j - s) 0)
    ∙ (sym (get_or-take n (drop s xs) (j - s) 0 small) ∙ (ap (λ v. get_or v (j - s) 0) same
    ∙ (get_or-take n (drop s ys) (j - s) 0 small ∙ (get_or-drop s ys (j - s) 0 ∙ ap (λ k. get_or ys k 0) at)))))

-- parts that were not opened have the same words
pub same_passed : (base now : List ℕ) (parts : List Bool) (from p q : ℕ) → q ≤ 32 → TracksWords base now parts
    → ((k : ℕ) → p ≤ k → k < q → slice_index_or parts k true ≡ false) → SameWords base now from p
    → SameWords base now from q
same_passed base now parts from p q end t shut h j low high = elim (cases_lt j (32 * p)) [
  | inl small ↦ h j low small
  | inr large ↦ t j (omega (arith, high, end)) (shut (j / 32) (omega (arith, large)) (omega (arith, high)))
]

-- and so does a part that was found so
pub same_part : (base now : List ℕ) (from p q : ℕ) → SameWords base now from p → SameWords base now p q
    → SameWords base now from q
same_part base now from p q h more j low high = elim (cases_lt j (32 * p)) [
  | inl small ↦ h j low small
  | inr large ↦ more j large high
]
