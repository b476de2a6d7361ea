-- From an order of visits that falls to labels that come.
use Rattle.std.proofs.Common.{◌≡◌, ◌≢◌, ℕ, zero, suc, ◌+◌, ◌*◌, ◌<◌, ◌≤◌, ◌⊎◌, inl, inr, List, [], ◌∷◌, ◌++◌}
use Rattle.std.proofs.Common.{length, Some, slice_get, slice_index, refl, sym, subst, ◌∙◌, arith}
use Rattle.std.proofs.Common.{append_assoc}
use Rattle.std.proofs.lemmas.Bool.{cases_eq, cases_lt}
use Rattle.std.specs.List.{AllByRecursion}
use Rattle.pip_search.specs.Again.{HasClosed}
use Rattle.pip_search.specs.Comes.{AreFair, AreFalling, GoesDown, HasOneOf, NoneRises, IsHidden, IsShownSoon, MustCome}
use Rattle.pip_search.specs.Comes.{helpful, in_windows, rank_at}
use Rattle.std.proofs.Math.Nat.{mul-le-mul_left}
use Rattle.pip_search.specs.Keys.{Keyed, key_of, visits_of}
use Rattle.pip_search.specs.Reached.{AreChoices, Tells}
use Rattle.pip_search.specs.Systems.{Model, after_choices}
use Rattle.pip_search.specs.declared.searching.Search.{Search}
use Rattle.pip_search.specs.declared.searching.Extent.TheVariants.{Closed}
use Rattle.pip_search.proofs.Steps.{visit_count}
use Rattle.pip_search.proofs.Telling.{closed_tells}

-- ---- choices after others

pub after_both : (m : Model) (s : m.State) (cs ds : List ℕ)
    → after_choices m s (cs ++ ds) ≡ after_choices m (after_choices m s ds) cs
after_both m s [] ds = refl
after_both m s (c ∷ cs) ds = rw (after_both m s cs ds)

pub all_of_both : (P : ℕ → Type 0) (cs ds : List ℕ) → AllByRecursion P (cs ++ ds)
    → AllByRecursion P cs × AllByRecursion P ds
all_of_both P [] ds h = (tt, h)
all_of_both P (c ∷ cs) ds h = let r = all_of_both P cs ds h.1 in ((h.0, r.0), r.1)

pub hidden_both : (m : Model) (s : m.State) (label cs ds : List ℕ) → IsHidden m s label (cs ++ ds)
    → IsHidden m (after_choices m s ds) label cs × IsHidden m s label ds
hidden_both m s label [] ds h = (tt, h)
hidden_both m s label (c ∷ cs) ds h =
    let r = hidden_both m s label cs ds h.1 in
    ((rw (← after_both m s cs ds) h.0, r.0), r.1)

fair_later : (classes : List ℕ) (windows : ℕ → ℕ) (cs ds : List ℕ) → AreFair classes windows (cs ++ ds)
    → AreFair classes windows cs
fair_later classes windows cs ds fair c later some first one whole count =
    fair c later some (first ++ ds) one (rw (whole, append_assoc later (some ++ first) ds, append_assoc some first ds))
    count

fair_first : (classes : List ℕ) (windows : ℕ → ℕ) (cs ds : List ℕ) (c : ℕ) → AreFair classes windows (cs ++ ds)
    → 0 < slice_index classes c → length ds ≡ windows (slice_index classes c)
    → HasOneOf classes ds (slice_index classes c)
fair_first classes windows cs ds c fair one count =
    fair c cs ds [] one (cc (append_nil ds)) count
  where
    append_nil : (xs : List ℕ) → xs ++ [] ≡ xs
    append_nil [] = refl
    append_nil (x ∷ xs) = rw (append_nil xs)

-- choices, the first n of which are apart
record IsSplit (cs : List ℕ) (n : ℕ) : Type 0 where
  later : List ℕ
  first : List ℕ
  whole : cs ≡ later ++ first
  count : length first ≡ n
  rest : length later + n ≡ length cs

split_at : (cs : List ℕ) (n : ℕ) → n ≤ length cs → IsSplit cs n
split_at [] n le = record { later = []; first = []; whole = refl; count = omega arith; rest = omega arith }
split_at (c ∷ cs) n le = elim (cases_lt (length cs) n) [
  | inl all ↦ record { later = []; first = c ∷ cs; whole = refl; count = omega arith; rest = omega arith }
  | inr more ↦ let h = split_at cs n more in
      let rest : length h.later + n ≡ length cs = h.rest in
      record {
        later = c ∷ h.later;
        first = h.first;
        whole = rw h.whole;
        count = h.count;
        rest = omega arith;
      }
]

-- ---- lists are the same, or they aren't

same_or_not : (xs ys : List ℕ) → (xs ≡ ys) ⊎ (xs ≢ ys)
same_or_not [] [] = inl refl
same_or_not [] (y ∷ ys) = inr (λ e. cc)
same_or_not (x ∷ xs) [] = inr (λ e. cc)
same_or_not (x ∷ xs) (y ∷ ys) = elim (cases_eq x y) [
  | inl e ↦ elim (same_or_not xs ys) [
    | inl f ↦ inl (cc)
    | inr n ↦ inr (λ f. n (cc))
  ]
  | inr n ↦ inr (λ f. n (cc))
]

-- choices show a label, or none of them does
shown_or_hidden : (m : Model) (s : m.State) (label cs : List ℕ) → AreChoices m cs
    → IsShownSoon m s label cs (length cs) ⊎ IsHidden m s label cs
shown_or_hidden m s label [] can = inr tt
shown_or_hidden m s label (c ∷ cs) can = elim (shown_or_hidden m s label cs can.1) [
  | inl h ↦ let soon = h.soon in
      inl (record {
        later = c ∷ h.later;
        first = h.first;
        whole = rw h.whole;
        shown = h.shown;
        soon = omega arith;
      })
  | inr h ↦ elim (same_or_not (m.label (after_choices m s cs) c) label) [
    | inl e ↦ inl (record { later = []; first = c ∷ cs; whole = refl; shown = (can, sym e); soon = omega arith })
    | inr n ↦ inr (n, h)
  ]
]

-- ---- sums over columns

-- the sum of n columns from k on, each times its window
pub weight : (ℕ → ℕ) → ℕ → ℕ → (ℕ → ℕ) → ℕ
weight windows k zero f = 0
weight windows k (suc n) f = windows k * f k + weight windows (suc k) n f

weight_le : (windows : ℕ → ℕ) (k n : ℕ) (f g : ℕ → ℕ) → ((d : ℕ) → k ≤ d → d < k + n → f d ≤ g d)
    → weight windows k n f ≤ weight windows k n g
unfolding weight
weight_le windows k zero f g le = omega arith
weight_le windows k (suc n) f g le =
    let rest : weight windows (suc k) n f ≤ weight windows (suc k) n g = weight_le windows (suc k) n f g
    (λ d low high. le d (omega arith) (omega arith)) in
    let here : windows k * f k ≤ windows k * g k = mul-le-mul_left (windows k) (le k (omega arith) (omega arith)) in
    omega arith

-- one of them falls
weight_falls : (windows : ℕ → ℕ) (k n : ℕ) (f g : ℕ → ℕ) (h : ℕ) → ((d : ℕ) → k ≤ d → d < k + n → f d ≤ g d) → k ≤ h
    → h < k + n → f h < g h → weight windows k n f + windows h ≤ weight windows k n g
unfolding weight
weight_falls windows k zero f g h le low high less = absurd (omega arith)
weight_falls windows k (suc n) f g h le low high less = elim (cases_lt k h) [
  | inl later ↦
      let rest : weight windows (suc k) n f + windows h ≤ weight windows (suc k) n g =
      weight_falls windows (suc k) n f g h (λ d low high. le d (omega arith) (omega arith)) (omega arith) (omega arith)
      less in
      let here : windows k * f k ≤ windows k * g k = mul-le-mul_left (windows k) (le k (omega arith) (omega arith)) in
      omega arith
  | inr most ↦
      let is : k ≡ h = omega arith in
      let rest : weight windows (suc k) n f ≤ weight windows (suc k) n g = weight_le windows (suc k) n f g
      (λ d low high. le d (omega arith) (omega arith)) in
      let one : f k + 1 ≤ g k = rw is (omega arith) in
      let here : windows k * (f k + 1) ≤ windows k * g k = mul-le-mul_left (windows k) one in
      let same : windows k ≡ windows h = rw is in
      omega arith
]

-- one of them is at least its window
weight_at : (windows : ℕ → ℕ) (k n : ℕ) (f : ℕ → ℕ) (h : ℕ) → k ≤ h → h < k + n → 0 < f h
    → windows h ≤ weight windows k n f
weight_at windows k n f h low high some =
    let zeros : weight windows k n (λ _. 0) + windows h ≤ weight windows k n f =
    weight_falls windows k n (λ _. 0) f h (λ d low high. omega arith) low high some in
    omega arith

-- the windows that are said
weight_counts : (windows : ℕ → ℕ) (k : ℕ) (counts : List ℕ) (f : ℕ → ℕ)
    → ((d : ℕ) → d < length counts → f (k + d) ≤ slice_index counts d)
    → weight windows k (length counts) f ≤ in_windows windows k counts
unfolding weight
weight_counts windows k [] f le = omega arith
weight_counts windows k (n ∷ ns) f le =
    let rest : weight windows (suc k) (length ns) f ≤ in_windows windows (suc k) ns = weight_counts windows (suc k) ns f
    (λ d low. rw (← next d) (le (suc d) (omega arith))) in
    let first : f k ≤ n = rw (← same k) (le zero (omega arith)) in
    let here : windows k * f k ≤ windows k * n = mul-le-mul_left (windows k) first in
    omega arith
  where
    next : (d : ℕ) → k + suc d ≡ suc k + d
    next d = omega arith

    same : (k : ℕ) → k + 0 ≡ k
    same k = omega arith

-- ---- ranks fall

module _ (m : Model) (vs : List Keyed) (label classes ranks helpers : List ℕ) (columns : ℕ) (any : 0 < m.choices)
    (falling : AreFalling m vs label classes ranks helpers columns) where
  abbrev rank : ℕ → ℕ → ℕ
  rank j k = rank_at ranks columns j k

  abbrev helper : ℕ → ℕ
  helper j = helpful classes helpers j

  -- the helpful class is still that of visit j, and no choice was of that class
  record IsKept (j t : ℕ) (cs : List ℕ) : Type 0 where
    class : helper t ≡ helper j
    some : 0 < length cs → 0 < helper j
    none : HasOneOf classes cs (helper j) → ⊥

  -- the visit to which choices lead from visit j, that don't show the label
  record IsLed (j : ℕ) (s : m.State) (cs : List ℕ) : Type 0 where
    place : ℕ
    visit : Keyed
    at : slice_get vs place ≡ Some visit
    stands : m.stands (key_of visit) (after_choices m s cs)
    below : NoneRises ranks columns j place
    down : (rank place (helper j) < rank j (helper j)) ⊎ IsKept j place cs

  none_of_none : (class : ℕ) → HasOneOf classes [] class → ⊥
  none_of_none class h = let e = h.at in cc

  one_more : (cs : List ℕ) (c class : ℕ) → slice_index classes c ≢ class → (HasOneOf classes cs class → ⊥)
      → HasOneOf classes (c ∷ cs) class → ⊥
  one_more cs c class other none h = go h.place h.choice h.at h.class_is
    where
      go : (p d : ℕ) → slice_get (c ∷ cs) p ≡ Some d → slice_index classes d ≡ class → ⊥
      go zero d at is = let same : c ≡ d = cc in other (rw (same, is))
      go (suc p) d at is = none (record { place = p; choice = d; at = at; class_is = is })

  goes_on : (j p t c : ℕ) (cs : List ℕ) → helper j < columns → NoneRises ranks columns j p
      → (rank p (helper j) < rank j (helper j)) ⊎ IsKept j p cs → GoesDown classes ranks helpers columns p c t
      → (rank t (helper j) < rank j (helper j)) ⊎ IsKept j t (c ∷ cs)
  goes_on j p t c cs inside below down next = elim down [
    | inl low ↦ let e = next.below (helper j) inside in inl (omega arith)
    | inr kept ↦ elim next.down [
      | inl less ↦
          let falls : rank t (helper j) < rank p (helper j) = rw (← kept.class) less in
          let e = below (helper j) inside in
          inl (omega arith)
      | inr level ↦ inr (record {
        class = level.same ∙ kept.class;
        some = λ _. rw (← kept.class) level.some;
        none = one_more cs c (helper j) (rw (← kept.class) level.other) kept.none;
      })
    ]
  ]

  led : (j : ℕ) (u : Keyed) (s : m.State) (cs : List ℕ) → slice_get vs j ≡ Some u → m.stands (key_of u) s
      → AreChoices m cs → IsHidden m s label cs → IsLed j s cs
  led j u s [] at stands can hidden = record {
    place = j;
    visit = u;
    at = at;
    stands = stands;
    below = λ k low. omega arith;
    down = inr (record {
      class = refl;
      some = λ some. absurd (omega arith);
      none = none_of_none (helper j);
    });
  }
  led j u s (c ∷ cs) at stands can hidden =
      let p = led j u s cs at stands can.1 hidden.1 in
      let ready = (falling j c u at can.0).ready in
      elim (falling p.place c p.visit p.at can.0).down [
        | inl shows ↦ absurd (hidden.0 (shows (after_choices m s cs) p.stands))
        | inr e ↦ record {
          place = e.0;
          visit = e.1.0.to;
          at = e.1.0.there;
          stands = (e.1.0.leads (after_choices m s cs) p.stands).0;
          below = λ k low. omega arith;
          down = goes_on j p.place e.0 c cs ready.inside p.below p.down e.1.1;
        }
      ]

  -- by choices of the helpful class it falls
  falls : (j : ℕ) (s : m.State) (cs : List ℕ) (h : IsLed j s cs) → 0 < length cs
      → (0 < helper j → HasOneOf classes cs (helper j)) → rank h.place (helper j) < rank j (helper j)
  falls j s cs h some each = elim h.down [
    | inl low ↦ low
    | inr kept ↦ absurd (kept.none (each (kept.some some)))
  ]

  -- so there are few choices that don't show the label
  bounded : (n : ℕ) (windows : ℕ → ℕ) (j : ℕ) (u : Keyed) (s : m.State) (cs : List ℕ)
      → weight windows 0 columns (rank j) ≤ n → ((k : ℕ) → 0 < windows k) → slice_get vs j ≡ Some u
      → m.stands (key_of u) s → AreChoices m cs → AreFair classes windows cs → IsHidden m s label cs
      → length cs < weight windows 0 columns (rank j)
  bounded zero windows j u s cs low some at stands can fair hidden =
      let ready = (falling j 0 u at any).ready in
      let inside = ready.inside in
      let own = some (helper j) in
      let most : windows (helper j) ≤ weight windows 0 columns (rank j) =
      weight_at windows 0 columns (rank j) (helper j) (omega arith) (omega arith) ready.some in
      absurd (omega arith)
  bounded (suc n) windows j u s cs low some at stands can fair hidden =
      let ready = (falling j 0 u at any).ready in
      let inside = ready.inside in
      let own = some (helper j) in
      let most : windows (helper j) ≤ weight windows 0 columns (rank j) =
      weight_at windows 0 columns (rank j) (helper j) (omega arith) (omega arith) ready.some in
      elim (cases_lt (length cs) (windows (helper j))) [
        | inl short ↦ omega arith
        | inr long ↦
            let p = split_at cs (windows (helper j)) long in
            let (can_later, can_first) = all_of_both (λ c. c < m.choices) p.later p.first
            (rw (← p.whole) can) in
            let (hidden_later, hidden_first) = hidden_both m s label p.later p.first
            (rw (← p.whole) hidden) in
            let fair_both : AreFair classes windows (p.later ++ p.first) = rw (← p.whole) fair in
            let h = led j u s p.first at stands can_first hidden_first in
            let count = p.count in
            let less : rank h.place (helper j) < rank j (helper j) = falls j s p.first h (omega arith)
            (λ one. fair_first classes windows p.later p.first (slice_index helpers j) fair_both one p.count) in
            let down : weight windows 0 columns (rank h.place) + windows
            (helper j) ≤ weight windows 0 columns (rank j) =
            weight_falls windows 0 columns (rank h.place) (rank j) (helper j) (λ d _ high. h.below d (omega arith))
            (omega arith) (omega arith) less in
            omega (
              arith,
              bounded n windows h.place h.visit (after_choices m s p.first) p.later (omega arith) some h.at
                  h.stands can_later (fair_later classes windows p.later p.first fair_both) hidden_later,
            )
      ]

  -- and the label comes
  pub comes_soon : (windows : ℕ → ℕ) (n j : ℕ) (u : Keyed) (s : m.State) (cs : List ℕ)
      → weight windows 0 columns (rank j) ≤ n → ((k : ℕ) → 0 < windows k) → slice_get vs j ≡ Some u
      → m.stands (key_of u) s → AreChoices m cs → AreFair classes windows cs → n ≤ length cs
      → IsShownSoon m s label cs n
  comes_soon windows n j u s cs low some at stands can fair long =
      let p = split_at cs n long in
      let (can_later, can_first) = all_of_both (λ c. c < m.choices) p.later p.first
      (rw (← p.whole) can) in
      let fair_both : AreFair classes windows (p.later ++ p.first) = rw (← p.whole) fair in
      elim (shown_or_hidden m s label p.first can_first) [
        | inl h ↦ record {
          later = p.later ++ h.later;
          first = h.first;
          whole = cc (p.whole, h.whole, append_assoc p.later h.later h.first);
          shown = h.shown;
          soon = omega arith;
        }
        | inr hidden ↦
            absurd (omega (
              arith,
              bounded n windows j u s p.first low some at stands can_first
                  (fair_rest p.later p.first fair_both) hidden,
            ))
      ]
    where
      fair_rest : (cs ds : List ℕ) → AreFair classes windows (cs ++ ds) → AreFair classes windows ds
      fair_rest cs ds fair c later some first one whole count = fair c (cs ++ later) some first one
          (rw (whole, ← append_assoc cs later (some ++ first))) count

-- ---- what is said of a search

pub must_come : (m : Model) (start : List ℕ) (z : Search) → HasClosed m start z
    → (label classes ranks helpers counts : List ℕ) → 0 < m.choices
    → AreFalling m (visits_of z) label classes ranks helpers (length counts)
    → ((j d : ℕ) → d < length counts → rank_at ranks (length counts) j d ≤ slice_index counts d)
    → (x : m.State) → m.stands start x → MustCome m classes x label counts
must_come m start z h label classes ranks helpers counts any falling low x stands before cs windows can_before can
    some fair long =
    let count = visit_count z h.searching.keyed in
    let all = h.all in
    let t : Tells m x (visits_of z) z.found.items (Closed 0) = closed_tells m start (visits_of z) z.found.items h.end 0
    h.searching.exploring h.searching.ranked (omega arith) 0 x stands in
    let v = t.all before can_before tt in
    comes_soon m (visits_of z) label classes ranks helpers (length counts) any falling windows
    (in_windows windows 0 counts) v.place v.visit (after_choices m x before) cs
    (weight_counts windows 0 counts (rank_at ranks (length counts) v.place) (λ d small.
    subst (λ i. rank_at ranks (length counts) v.place i ≤ slice_index counts d) (plus d)
    (low v.place d small))) some v.at
    v.stands can fair long
  where
    plus : (d : ℕ) → d ≡ 0 + d
    plus d = omega arith
