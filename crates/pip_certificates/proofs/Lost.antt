-- No line of the texts of parts is lost alone.
use Rattle.std.specs.Prelude.{◌≡◌, ◌≢◌, refl, ℕ, suc, ◌+◌, ◌==◌, ◌&&◌}
use Rattle.std.specs.Prelude.{true, List, [], ◌∷◌, ◌++◌, length, map, flat_map, Option}
use Rattle.std.specs.Prelude.{Some, None, Ok}
use Rattle.std.specs.List.{AllByRecursion, sum_by}
use Rattle.std.specs.List.Sorted.{IsPermutation}
use Rattle.std.proofs.Common.{sym, ◌∙◌, arith}
use Rattle.std.proofs.lemmas.Bool.{and_parts, eqb-true}
use Rattle.std.proofs.lemmas.List.{length-map, map-append}
use Rattle.std.proofs.lemmas.List.Sorted.{IsPermutation-map, sum_by-IsPermutation}
use Rattle.std.proofs.lemmas.List.Sums.{sum_by-append, sum_by-cons}
use Rattle.pip_certificates.specs.Entries.{Asks, Entry, Own, Shows, Tells, begun_entry}
use Rattle.pip_certificates.specs.MergeLaw.{AreNoLast, AreSmallParts, NoneIsLost, ToldPart, lines_of_part}
use Rattle.pip_certificates.specs.Merges.{Merging, has_labels, is_whole, merge_lines, no_merging}
use Rattle.pip_certificates.specs.declared.parts.lines.PartNumbers.{PartNumbers}
use Rattle.pip_certificates.proofs.Certifying.{all_back, said_all, said_asks, said_label, said_of, said_own}
use Rattle.pip_certificates.proofs.Certifying.{said_part}
use Rattle.pip_certificates.proofs.Certifying.{sum_mapped, sum_none, sum_ones}
use Rattle.pip_certificates.proofs.Runs.{AreCounts, SaysSomething, counts, each_says, first_is}
use Rattle.pip_certificates.proofs.Runs.{is_asks, is_label, is_none, is_own, is_part}
use Rattle.pip_certificates.proofs.Runs.{later_is, says_asked, says_keys, says_labels}
use Rattle.pip_certificates.proofs.Steps.{said_merge}

-- ---- a sum over the lines of parts

sum_said : (f : Option Entry → ℕ) (t : ToldPart) → sum_by f (said_of t)
    ≡ sum_by (λ x. f (said_own x)) t.portion.keys + (sum_by (λ x. f (said_asks x)) t.portion.asked
    + (sum_by (λ l. f (said_label l)) t.portion.labels + f (said_part t)))
sum_said f t = simp (
  sum_by-append,
  sum_mapped said_own f,
  sum_mapped said_asks f,
  sum_mapped said_label f,
) (omega arith)

sum_both : (f g : Option Entry → ℕ) → ((t : ToldPart) → sum_by f (said_of t) ≡ sum_by g (said_of t))
    → (ts : List ToldPart) → sum_by f (said_all ts) ≡ sum_by g (said_all ts)
sum_both f g each [] = refl
sum_both f g each (t ∷ ts) = rw (
  sum_by-append f (said_of t) (said_all ts),
  sum_by-append g (said_of t) (said_all ts),
  each t,
  sum_both f g each ts,
)

own_told : (t : ToldPart) → sum_by is_own (said_of t) ≡ sum_by says_keys (said_of t)
own_told t = omega (
  arith,
  sum_said is_own t,
  sum_said says_keys t,
  sum_ones t.portion.keys,
  sum_none (λ x. is_own (said_asks x)) t.portion.asked (λ x. refl),
  sum_none (λ l. is_own (said_label l)) t.portion.labels (λ l. refl),
  sum_none (λ x. says_keys (said_own x)) t.portion.keys (λ x. refl),
  sum_none (λ x. says_keys (said_asks x)) t.portion.asked (λ x. refl),
  sum_none (λ l. says_keys (said_label l)) t.portion.labels (λ l. refl),
)

asks_told : (t : ToldPart) → sum_by is_asks (said_of t) ≡ sum_by says_asked (said_of t)
asks_told t = omega (
  arith,
  sum_said is_asks t,
  sum_said says_asked t,
  sum_ones t.portion.asked,
  sum_none (λ x. is_asks (said_own x)) t.portion.keys (λ x. refl),
  sum_none (λ l. is_asks (said_label l)) t.portion.labels (λ l. refl),
  sum_none (λ x. says_asked (said_own x)) t.portion.keys (λ x. refl),
  sum_none (λ x. says_asked (said_asks x)) t.portion.asked (λ x. refl),
  sum_none (λ l. says_asked (said_label l)) t.portion.labels (λ l. refl),
)

labels_told : (t : ToldPart) → sum_by is_label (said_of t) ≡ sum_by says_labels (said_of t)
labels_told t = omega (
  arith,
  sum_said is_label t,
  sum_said says_labels t,
  sum_ones t.portion.labels,
  sum_none (λ x. is_label (said_own x)) t.portion.keys (λ x. refl),
  sum_none (λ x. is_label (said_asks x)) t.portion.asked (λ x. refl),
  sum_none (λ x. says_labels (said_own x)) t.portion.keys (λ x. refl),
  sum_none (λ x. says_labels (said_asks x)) t.portion.asked (λ x. refl),
  sum_none (λ l. says_labels (said_label l)) t.portion.labels (λ l. refl),
)

none_told : (t : ToldPart) → sum_by is_none (said_of t) ≡ sum_by (λ o. 0) (said_of t)
none_told t = omega (
  arith,
  sum_said is_none t,
  sum_none (λ x. is_none (said_own x)) t.portion.keys (λ x. refl),
  sum_none (λ x. is_none (said_asks x)) t.portion.asked (λ x. refl),
  sum_none (λ l. is_none (said_label l)) t.portion.labels (λ l. refl),
  sum_none {X = Option Entry} (λ o. 0) (said_of t) (λ o. refl),
)

-- ---- lines, counted by kind

all_kinds : (os : List (Option Entry)) → length os
    ≡ sum_by is_own os + sum_by is_asks os + sum_by is_label os + sum_by is_part os + sum_by is_none os
all_kinds [] = refl
all_kinds (o ∷ os) =
    let one = one_kind o in omega (
      arith,
      one,
      all_kinds os,
      sum_by-cons is_own o os,
      sum_by-cons is_asks o os,
      sum_by-cons is_label o os,
      sum_by-cons is_part o os,
      sum_by-cons is_none o os,
    )
  where
    one_kind : (o : Option Entry) → 1 ≡ is_own o + is_asks o + is_label o + is_part o + is_none o
    one_kind None = refl
    one_kind (Some (Own k d)) = refl
    one_kind (Some (Asks k d)) = refl
    one_kind (Some (Shows t)) = refl
    one_kind (Some (Tells a n)) = refl

-- what counts nothing but last lines
abbrev OnlyLast : (Option Entry → ℕ) → Type 0
OnlyLast f = (o : Option Entry) → ((a : List ℕ) (n : PartNumbers) → o ≢ Some (Tells a n)) → f o ≡ 0

no_last : (f : Option Entry → ℕ) → OnlyLast f → (ls : List (List ℕ)) → AreNoLast ls
    → sum_by f (map begun_entry ls) ≡ 0
no_last f only [] h = refl
no_last f only (l ∷ ls) h = omega (
  arith,
  sum_by-cons f (begun_entry l) (map begun_entry ls),
  only (begun_entry l) (λ a n. h l a n (first_is l ls)),
  no_last f only ls (λ line a n c. h line a n (later_is line l ls c)),
)

part_only : OnlyLast is_part
part_only None h = refl
part_only (Some (Own k d)) h = refl
part_only (Some (Asks k d)) h = refl
part_only (Some (Shows t)) h = refl
part_only (Some (Tells a n)) h = absurd (h a n refl)

keys_only : OnlyLast says_keys
keys_only None h = refl
keys_only (Some (Own k d)) h = refl
keys_only (Some (Asks k d)) h = refl
keys_only (Some (Shows t)) h = refl
keys_only (Some (Tells a n)) h = absurd (h a n refl)

asked_only : OnlyLast says_asked
asked_only None h = refl
asked_only (Some (Own k d)) h = refl
asked_only (Some (Asks k d)) h = refl
asked_only (Some (Shows t)) h = refl
asked_only (Some (Tells a n)) h = absurd (h a n refl)

labels_only : OnlyLast says_labels
labels_only None h = refl
labels_only (Some (Own k d)) h = refl
labels_only (Some (Asks k d)) h = refl
labels_only (Some (Shows t)) h = refl
labels_only (Some (Tells a n)) h = absurd (h a n refl)

say_all : (os : List (Option Entry)) → AllByRecursion SaysSomething os → sum_by is_none os ≡ 0
say_all [] h = refl
say_all (None ∷ os) h = let e = h.0.is in absurd cc
say_all (Some x ∷ os) h = omega (arith, sum_by-cons is_none (Some x) os, say_all os h.1)

-- ---- the law

module _ (ts : List ToldPart) (lines lost more : List (List ℕ)) (g : Merging) (small : AreSmallParts ts)
    (shuffled : IsPermutation (flat_map lines_of_part ts ++ more) (lines ++ lost)) (no_lost : AreNoLast lost)
    (no_more : AreNoLast more) (run : merge_lines no_merging lines ≡ Ok g) (whole : is_whole g ≡ true)
  where
    abbrev os : List (Option Entry)
    os = map begun_entry lines

    abbrev gone : List (Option Entry)
    gone = map begun_entry lost

    abbrev new : List (Option Entry)
    new = map begun_entry more

    same : IsPermutation (said_all ts ++ new) (os ++ gone)
    same = rw (
      ← all_back ts small,
      ← map-append begun_entry (flat_map lines_of_part ts) more,
      ← map-append begun_entry lines lost,
    )
        (IsPermutation-map begun_entry (flat_map lines_of_part ts ++ more) (lines ++ lost) shuffled)

    sums : (f : Option Entry → ℕ) → sum_by f (said_all ts) + sum_by f new ≡ sum_by f os + sum_by f gone
    sums f = omega (
      arith,
      sum_by-IsPermutation f (said_all ts ++ new) (os ++ gone) same,
      sum_by-append f (said_all ts) new,
      sum_by-append f os gone,
    )

    all : AreCounts no_merging os g
    all = counts os no_merging g (said_merge no_merging lines g run)

    states : g.keys.states ≡ g.parts.keys
    states = grind (arith, and_parts, eqb-true)

    asked : g.keys.asked ≡ g.parts.asked
    asked = grind (arith, and_parts, eqb-true)

    shown : g.shown.count ≡ g.parts.labels
    shown = grind (arith, and_parts, eqb-true)

    own_same : sum_by is_own gone ≡ sum_by is_own new
    own_same =
        let a = all.states in let b = all.keys in let e = states in omega (
          arith,
          a,
          b,
          e,
          sums is_own,
          sums says_keys,
          sum_both is_own says_keys own_told ts,
          no_last says_keys keys_only lost no_lost,
          no_last says_keys keys_only more no_more,
        )

    asks_same : sum_by is_asks gone ≡ sum_by is_asks new
    asks_same =
        let a = all.asked in let b = all.asks in let e = asked in omega (
          arith,
          a,
          b,
          e,
          sums is_asks,
          sums says_asked,
          sum_both is_asks says_asked asks_told ts,
          no_last says_asked asked_only lost no_lost,
          no_last says_asked asked_only more no_more,
        )

    labels_same : sum_by is_label gone ≡ sum_by is_label new
    labels_same =
        let a = all.shown in let b = all.labels in let e = shown in omega (
          arith,
          a,
          b,
          e,
          sums is_label,
          sums says_labels,
          sum_both is_label says_labels labels_told ts,
          no_last says_labels labels_only lost no_lost,
          no_last says_labels labels_only more no_more,
        )

    none_same : sum_by is_none gone ≡ sum_by is_none new
    none_same = omega (
      arith,
      sums is_none,
      sum_both is_none (λ o. 0) none_told ts,
      sum_none {X = Option Entry} (λ o. 0) (said_all ts) (λ o. refl),
      say_all os (each_says os no_merging g (said_merge no_merging lines g run)),
    )

    as_many : length lost ≡ length more
    as_many = omega (
      arith,
      own_same,
      asks_same,
      labels_same,
      none_same,
      all_kinds gone,
      all_kinds new,
      no_last is_part part_only lost no_lost,
      no_last is_part part_only more no_more,
      length-map lost begun_entry,
      length-map more begun_entry,
    )

pub none_is_lost : NoneIsLost
none_is_lost ts lines lost more g small shuffled no_lost no_more run whole =
    as_many ts lines lost more g small shuffled no_lost no_more run whole
