-- A part of a certificate, one choice more at a time.
use Rattle.std.proofs.Common.{◌≡◌, ◌≢◌, ℕ, zero, suc, ◌+◌, ◌<◌, ◌≤◌, ◌⊎◌, inl, inr, List, [], ◌∷◌, ◌++◌, length}
use Rattle.std.proofs.Common.{Some, slice_get, refl, subst, arith}
use Rattle.std.proofs.lemmas.Bool.{cases_lt}
use Rattle.pip_search.specs.Certificates.{CanShow, HasStop, HasText, IsClosedPart, IsMet, IsReachedBy}
use Rattle.pip_search.specs.Certificates.{Portion, Stop}
use Rattle.pip_search.specs.Growing.{Told}
use Rattle.pip_search.specs.Keys.{labels}
use Rattle.pip_search.specs.Naming.{AreNamed}
use Rattle.pip_search.specs.Parts.{IsGrowing, IsReachedFrom, AddsAtMostOne, portion_of, stop_at, stop_of, stops}
use Rattle.pip_search.specs.Systems.{IsKey, LeadsOn, Model, after_choices}
use Rattle.pip_search.specs.declared.found.Found.{Found}
use Rattle.pip_search.specs.declared.parts.Part.{Part}
use Rattle.pip_search.proofs.Making.{at-same}
use Rattle.pip_search.proofs.Picking.{at_map, map_at}
use Rattle.pip_search.proofs.Places.{get-back, get-below, get-more, get-new, get-some}

-- ---- lists of keys

-- the new one is there
pub has_new : (xs ys : List Stop) (key : List ℕ) (n : ℕ) → ys ≡ xs ++ stop_at key n ∷ [] → HasStop ys key n
has_new xs ys key n whole = record {
  place = length xs;
  stop = stop_at key n;
  at = rw (whole, get-new xs (stop_at key n));
  same = refl;
  soon = omega arith;
}

-- one that is there already
pub has_own : (xs : List Stop) (i : ℕ) (x : Stop) (key : List ℕ) (n : ℕ) → slice_get xs i ≡ Some x → x.key ≡ key
    → x.depth ≤ n → HasStop xs key n
has_own xs i x key n at same soon = record { place = i; stop = x; at = at; same = same; soon = soon }

-- what may be added leaves what is there
pub may_at : (xs ys : List Stop) (x : Stop) (i : ℕ) (y : Stop) → AddsAtMostOne xs ys x → slice_get xs i ≡ Some y
    → slice_get ys i ≡ Some y
may_at xs ys x i y (inl same) at = rw (same, at)
may_at xs ys x i y (inr more) at = rw (more, get-more xs (x ∷ []) i y at)

-- and nothing else comes
pub may_back : (xs ys : List Stop) (x : Stop) (i : ℕ) (y : Stop) → AddsAtMostOne xs ys x → slice_get ys i ≡ Some y
    → (slice_get xs i ≡ Some y) ⊎ ((i ≡ length xs) × (y ≡ x))
may_back xs ys x i y (inl same) at = inl (rw (← same, at))
may_back xs ys x i y (inr more) at = get-back xs x i y (rw (← more, at))

pub may_has : (xs ys : List Stop) (x : Stop) (key : List ℕ) (n : ℕ) → AddsAtMostOne xs ys x → HasStop xs key n
    → HasStop ys key n
may_has xs ys x key n may h = record {
  place = h.place;
  stop = h.stop;
  at = may_at xs ys x h.place h.stop may h.at;
  same = h.same;
  soon = h.soon;
}

-- ---- labels

pub told_has : (fs gs : List Found) (label text : List ℕ) (at choice depth : ℕ) → Told fs gs label at choice depth
    → HasText (labels fs) text → HasText (labels gs) text
told_has fs gs label text at choice depth (inl keeps) h = record {
  place = h.place;
  at = rw (keeps.same, h.at);
}
told_has fs gs label text at choice depth (inr adds) h =
    let (f, (there, same)) = at_map (λ (f : Found). f.label.items) fs h.place text h.at in
    let now : slice_get gs h.place ≡ Some f = rw (adds.whole, get-more fs (adds.found ∷ []) h.place f there) in
    record {
      place = h.place;
      at = rw (map_at (λ (g : Found). g.label.items) gs h.place f now, same);
    }

pub told_new : (fs gs : List Found) (label : List ℕ) (at choice depth : ℕ) → Told fs gs label at choice depth
    → label ≢ [] → HasText (labels gs) label
told_new fs gs label at choice depth (inl keeps) some = elim (keeps.has) [
  | inl none ↦ absurd (some none)
  | inr has ↦ record {
    place = has.place;
    at = rw (keeps.same, map_at (λ (g : Found). g.label.items) fs has.place has.at.found has.at.at, has.at.same);
  }
]
told_new fs gs label at choice depth (inr adds) some =
    let now : slice_get gs (length fs) ≡ Some adds.found = rw (adds.whole, get-new fs adds.found) in
    record {
      place = length fs;
      at = rw (map_at (λ (g : Found). g.label.items) gs (length fs) adds.found now, adds.label_is);
    }

-- a label that is there was there, or is the one that was told
told_back : (fs gs : List Found) (label text : List ℕ) (at choice depth i : ℕ) → Told fs gs label at choice depth
    → slice_get (labels gs) i ≡ Some text → (slice_get (labels fs) i ≡ Some text) ⊎ ((label ≢ []) × (text ≡ label))
told_back fs gs label text at choice depth i (inl keeps) e =
    inl (rw (← keeps.same, e))
told_back fs gs label text at choice depth i (inr adds) e =
    let (f, (there, same)) = at_map (λ (f : Found). f.label.items) gs i text e in
    elim (get-back fs adds.found i f (rw (← adds.whole, there))) [
      | inl old ↦ inl (rw (map_at (λ (g : Found). g.label.items) fs i f old, same))
      | inr (last, new) ↦ inr (adds.some, rw (← same, new, adds.label_is))
    ]

-- ---- a choice

-- a choice that was met stays so
met_more : (m : Model) (p q : Portion) (x y z : Stop) (c : ℕ) → AddsAtMostOne p.keys q.keys y
    → AddsAtMostOne p.asked q.asked z
    → ((text : List ℕ) → HasText p.labels text → HasText q.labels text) → IsMet m p x c → IsMet m q x c
met_more m p q x y z c keys asked texts w = record {
  next = w.next;
  shown = w.shown;
  leads = w.leads;
  met = elim (w.met) [
    | inl own ↦ inl (may_has p.keys q.keys y w.next (x.depth + 1) keys own)
    | inr other ↦ inr (may_has p.asked q.asked z w.next (x.depth + 1) asked other)
  ];
  told = λ some. texts w.shown (w.told some);
}

-- where a choice leads from a key that was reached
reached_next : (m : Model) (s : m.State) (x : Stop) (c : ℕ) (next shown : List ℕ) → c < m.choices
    → LeadsOn m x.key c next shown → IsReachedBy m s x → IsReachedBy m s (stop_at next (x.depth + 1))
reached_next m s x c next shown can leads r = record {
  choices = c ∷ r.choices;
  can = (can, r.can);
  count = omega arith;
  stands = (leads (after_choices m s r.choices) r.stands).0;
}

module _ (m : Model) (start : List ℕ) (p q : Part) (i c : ℕ) (h : IsGrowing m start p i c) (x : Stop)
    (at : slice_get (stops p.keys.items) i ≡ Some x) (can : c < m.choices) (next shown : List ℕ)
    (leads : LeadsOn m x.key c next shown) (depth : ℕ) (told : Told p.found.items q.found.items shown i c depth)
    (keys : AddsAtMostOne (stops p.keys.items) (stops q.keys.items) (stop_at next (x.depth + 1)))
    (asked : AddsAtMostOne (stops p.asked.items) (stops q.asked.items) (stop_at next (x.depth + 1)))
    (met : HasStop (stops q.keys.items) next (x.depth + 1) ⊎ HasStop (stops q.asked.items) next (x.depth + 1))
    (named : AreNamed (labels q.found.items) q.labels) where
  stays_met : (y : Stop) (d : ℕ) → IsMet m (portion_of p) y d → IsMet m (portion_of q) y d
  stays_met y d w = met_more m (portion_of p) (portion_of q) y (stop_at next (x.depth + 1))
      (stop_at next (x.depth + 1)) d keys asked
      (λ text. told_has p.found.items q.found.items shown text i c depth told) w

  -- what is at a place that had a key is that key
  old_key : (j : ℕ) (y : Stop) → j ≤ i → slice_get (stops q.keys.items) j ≡ Some y
      → slice_get (stops p.keys.items) j ≡ Some y
  old_key j y low e =
      let inside : i < length (stops p.keys.items) = get-below (stops p.keys.items) i x at in
      elim (may_back (stops p.keys.items) (stops q.keys.items) (stop_at next (x.depth + 1)) j y keys e) [
        | inl old ↦ old
        | inr (last, new) ↦ absurd (omega arith)
      ]

  own_met : IsMet m (portion_of q) x c
  own_met = record {
    next = next;
    shown = shown;
    leads = leads;
    met = met;
    told = told_new p.found.items q.found.items shown i c depth told;
  }

  all_keys_reached : (s : m.State) → m.stands start s → (j : ℕ) (y : Stop) → slice_get (stops q.keys.items) j ≡ Some y
      → IsReachedBy m s y
  all_keys_reached s stands j y e =
      let r = h.reached s stands in
      elim (may_back (stops p.keys.items) (stops q.keys.items) (stop_at next (x.depth + 1)) j y keys e) [
        | inl old ↦ r.keys j y old
        | inr (last, new) ↦ rw new (reached_next m s x c next shown can leads (r.keys i x at))
      ]

  all_labels_shown : (s : m.State) → m.stands start s → (j : ℕ) (text : List ℕ)
      → slice_get (labels q.found.items) j ≡ Some text → (text ≢ []) × CanShow m s text
  all_labels_shown s stands j text e =
      let r = h.reached s stands in
      elim (told_back p.found.items q.found.items shown text i c depth j told e) [
        | inl old ↦ r.labels j text old
        | inr (some, same) ↦
            let own = r.keys i x at in (
              λ none. some (cc),
              record {
                choices = c ∷ own.choices;
                shown = ((can, own.can), cc ((leads (after_choices m s own.choices) own.stands).1));
              },
            )
      ]

  here_met : (d : ℕ) (y : Stop) → d < c + 1 → slice_get (stops q.keys.items) i ≡ Some y → IsMet m (portion_of q) y d
  here_met d y low e =
      let old = old_key i y (omega arith) e in
      elim (cases_lt d c) [
        | inl less ↦ stays_met y d (h.here d y less old)
        | inr most ↦
            let same : d ≡ c = omega arith in
            let alike : x ≡ y = at-same (stops p.keys.items) i x y at old in
            rw same (subst (λ z. IsMet m (portion_of q) z c) alike own_met)
      ]

  pub grows : IsGrowing m start q i (c + 1)
  grows = record {
    before = λ j d y low e able. stays_met y d (h.before j d y low (old_key j y (omega arith) e) able);
    here = here_met;
    reached = λ s stands. record { keys = all_keys_reached s stands; labels = all_labels_shown s stands };
    named = named;
  }

-- ---- keys that were reached

-- a key of a part stands for a state
pub key_reached : (m : Model) (start : List ℕ) (p : Part) (i c : ℕ) → IsGrowing m start p i c → IsKey m start
    → (x : Stop) → slice_get (stops p.keys.items) i ≡ Some x → IsKey m x.key
key_reached m start p i c h (s, stands) x at = let r = (h.reached s stands).keys i x at in
    (after_choices m s r.choices, r.stands)

pub old_words : (p q : Part) (i : ℕ) (y : Stop) → i < length p.keys.items
    → AddsAtMostOne (stops p.keys.items) (stops q.keys.items) y
    → (x : Stop) → slice_get (stops q.keys.items) i ≡ Some x → slice_get (stops p.keys.items) i ≡ Some x
old_words p q i y inside may x e =
    let (v, at) = get-some p.keys.items i inside in
    let there = map_at stop_of p.keys.items i v at in
    let low : i < length (stops p.keys.items) = get-below (stops p.keys.items) i (stop_of v) there in
    elim (may_back (stops p.keys.items) (stops q.keys.items) y i x may e) [
      | inl old ↦ old
      | inr (last, new) ↦ absurd (omega arith)
    ]

-- a part with one key, and no choice made
pub first_grows : (m : Model) (start : List ℕ) (p : Part) (x : Stop) → IsReachedFrom m start x
    → stops p.keys.items ≡ x ∷ [] → p.found.items ≡ [] → AreNamed [] p.labels → IsGrowing m start p 0 0
first_grows m start p x reached keys none named = record {
  before = λ j d y low e can. absurd (omega arith);
  here = λ d y low e. absurd (omega arith);
  reached = λ s stands. record {
    keys = λ j y e. only s stands j y (rw (← keys, e));
    labels = λ j text e. absurd (let gone : slice_get (labels []) j ≡ Some text =
        cc in cc);
  };
  named = rw none named;
}
  where
    only : (s : m.State) → m.stands start s → (j : ℕ) (y : Stop) → slice_get (x ∷ []) j ≡ Some y → IsReachedBy m s y
    only s stands zero y e = let same : x ≡ y = cc in rw (← same) (reached s stands)
    only s stands (suc j) y e = absurd cc

-- a part all of whose choices were made is closed, but for what it asks
pub all_closed : (m : Model) (start : List ℕ) (p : Part) (i : ℕ) → IsGrowing m start p i 0 → length p.keys.items ≤ i
    → IsClosedPart m (portion_of p)
all_closed m start p i h all j c x e can =
    let (v, (at, same)) = at_map stop_of p.keys.items j x e in
    let low : j < length p.keys.items = get-below p.keys.items j v at in
    h.before j c x (omega arith) e can
