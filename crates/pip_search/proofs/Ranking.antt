-- The order of ways, and of what a search finds.
use Rattle.std.proofs.Common.{◌≡◌, ℕ, ◌+◌, ◌<◌, inl, inr, List, [], ◌∷◌, ◌++◌, length, refl, sym, subst, arith}
use Rattle.std.proofs.lemmas.Bool.{cases_eq}
use Rattle.pip_search.specs.Began.{HasBegun}
use Rattle.pip_search.specs.Growing.{Grew, Told}
use Rattle.pip_search.specs.Orders.{IsBefore, IsEarlier, IsNoLater, IsRanked, IsTrail}
use Rattle.pip_search.specs.Keys.{Keyed, step_of, steps_of}
use Rattle.pip_search.specs.declared.visits.Visit.{Visit}
use Rattle.pip_search.specs.declared.found.Found.{Found}
use Rattle.pip_search.proofs.Places.{get-back, get-below}
use Rattle.pip_search.proofs.Making.{at-same}
use Rattle.pip_search.proofs.Steps.{steps_more}

-- ---- ways

pub before_trans : (xs bs cs : List ℕ) → IsBefore xs bs → IsBefore bs cs → IsBefore xs cs
before_trans xs bs [] h k = k
before_trans xs [] (c ∷ cs) h k = absurd h
before_trans [] (b ∷ bs) (c ∷ cs) h k = tt
before_trans (a ∷ xs) (b ∷ bs) (c ∷ cs) (inl x) (inl y) = inl (before_trans xs bs cs x y)
before_trans (a ∷ xs) (b ∷ bs) (c ∷ cs) (inl x) (inr (f, n)) = inl (rw (← f) x)
before_trans (a ∷ xs) (b ∷ bs) (c ∷ cs) (inr (e, l)) (inl y) = inl (rw e y)
before_trans (a ∷ xs) (b ∷ bs) (c ∷ cs) (inr (e, l)) (inr (f, n)) = inr (cc, omega arith)

-- one choice more keeps the order
before_step : (ws cs : List ℕ) (c d : ℕ) → IsBefore ws cs → IsNoLater (c ∷ ws) (d ∷ cs)
before_step ws cs c d h = inr (inl h)

no_later_step : (ws cs : List ℕ) (c d : ℕ) → IsNoLater ws cs → c < d + 1 → IsNoLater (c ∷ ws) (d ∷ cs)
no_later_step ws cs c d (inr h) low = before_step ws cs c d h
no_later_step ws cs c d (inl e) low = elim (cases_eq c d) [
  | inl same ↦ inl (rw (same, e))
  | inr less ↦ inr (inr (e, omega arith))
]

-- ---- trails

pub trail_same : (vs : List Visit) (cs ds : List ℕ) (j : ℕ) → IsTrail vs j cs → IsTrail vs j ds → cs ≡ ds
trail_same vs [] [] j h k = refl
trail_same vs [] (d ∷ ds) j h k = absurd (omega arith)
trail_same vs (c ∷ cs) [] j h k = absurd (omega arith)
trail_same vs (c ∷ cs) (d ∷ ds) j (a, (u, (at, (is, rest)))) (b, (v, (bt, (js, more)))) =
    let same : u ≡ v = at-same vs j u v at bt in
    let heads : c ≡ d = rw (← is, same, js) in
    let tails : cs ≡ ds = trail_same vs cs ds u.parent rest (rw same more) in
    rw (heads, tails)

module _ (vs : List Visit) (fs : List Found) (i c : ℕ) (r : IsRanked vs fs i c) where
  pub trail_before : (cs ds : List ℕ) (j k : ℕ) → j < k → IsTrail vs j cs → IsTrail vs k ds → IsBefore cs ds
  trail_before cs [] j k less h t = absurd (omega arith)
  trail_before [] (d ∷ ds) j k less h t = tt
  trail_before (b ∷ cs) (d ∷ ds) j k less (a, (u, (at, (is, rest)))) (e, (v, (bt, (js, more)))) =
      elim (r.rising j k u v a less at bt) [
        | inl lower ↦ inl (trail_before cs ds u.parent v.parent lower rest more)
        | inr same ↦ inr (
          trail_same vs cs ds u.parent rest (rw same.0 more),
          omega arith,
        )
      ]

  -- what was found at the choice d of visit q or earlier has no later a way than this choice after a way that is no
  -- earlier than q's
  pub earlier_no_later : (ws xs cs : List ℕ) (p b q d : ℕ) → IsEarlier p b q (d + 1) → IsTrail vs p ws
      → IsTrail vs q xs → IsNoLater xs cs → IsNoLater (b ∷ ws) (d ∷ cs)
  earlier_no_later ws xs cs p b q d (inr (same, low)) t u (l) =
      no_later_step ws cs b d (rw (← trail_same vs xs ws q u (subst (λ z. IsTrail vs z ws) same t)) l) low
  earlier_no_later ws xs cs p b q d (inl less) t u (inl e) =
      before_step ws cs b d (rw (← e) (trail_before ws xs p q less t u))
  earlier_no_later ws xs cs p b q d (inl less) t u (inr h) =
      before_step ws cs b d (before_trans ws xs cs (trail_before ws xs p q less t u) h)

-- ---- ranks in a search

pub ranked_begun : (start : List ℕ) (vs : List Keyed) (fs : List Found) → HasBegun start vs fs
    → IsRanked (steps_of vs) fs 0 0
ranked_begun start vs fs b = rw b.one (subst (λ y. IsRanked (step_of b.first ∷ []) y 0 0) (sym b.none)
    (record {
      rising = λ j k u v a l e f. absurd (let m = get-below (step_of b.first ∷ []) k v f in omega arith);
      visits = λ j u a e. absurd (let m = get-below (step_of b.first ∷ []) j u e in omega arith);
      labels = λ k f
          e. absurd (cc);
      told = λ j k f g a d e. absurd (cc);
    }))

earlier_more : (p b i c : ℕ) → IsEarlier p b i c → IsEarlier p b i (c + 1)
earlier_more p b i c (inl h) = inl h
earlier_more p b i c (inr (e, l)) = inr (e, omega arith)

earlier_next : (p b i c : ℕ) → IsEarlier p b i c → IsEarlier p b (i + 1) 0
earlier_next p b i c (inl h) = inl (omega arith)
earlier_next p b i c (inr (e, l)) = inl (omega arith)

pub ranked_next : (vs : List Visit) (fs : List Found) (i c : ℕ) → IsRanked vs fs i c → IsRanked vs fs (i + 1) 0
ranked_next vs fs i c r = record {
  rising = r.rising;
  visits = λ j u a e. earlier_next u.parent u.choice i c (r.visits j u a e);
  labels = λ k f e. earlier_next f.at f.choice i c (r.labels k f e);
  told = r.told;
}

ranked_step : (vs : List Visit) (fs : List Found) (i c : ℕ) → IsRanked vs fs i c → IsRanked vs fs i (c + 1)
ranked_step vs fs i c r = record {
  rising = r.rising;
  visits = λ j u a e. earlier_more u.parent u.choice i c (r.visits j u a e);
  labels = λ k f e. earlier_more f.at f.choice i c (r.labels k f e);
  told = r.told;
}

-- a new visit
with_rank : (vs : List Visit) (fs : List Found) (i c : ℕ) (x : Visit) → IsRanked vs fs i c → x.parent ≡ i
    → x.choice ≡ c → IsRanked (vs ++ x ∷ []) fs i (c + 1)
with_rank vs fs i c x r parent choice = record {
  rising = λ j k u v a l e f. elim (get-back vs x k v f) [
    | inl old ↦ elim (get-back vs x j u e) [
      | inl early ↦ r.rising j k u v a l early old
      | inr late ↦ let b : k < length vs = get-below vs k v old in absurd (omega arith)
    ]
    | inr new ↦ elim (get-back vs x j u e) [
      | inl early ↦ rw new.1 (subst (λ p. IsEarlier u.parent u.choice p x.choice) (sym parent)
          (subst (λ p. IsEarlier u.parent u.choice i p) (sym choice) (r.visits j u a early)))
      | inr late ↦ absurd (omega arith)
    ]
  ];
  visits = λ j u a e. elim (get-back vs x j u e) [
    | inl old ↦ earlier_more u.parent u.choice i c (r.visits j u a old)
    | inr new ↦ rw new.1 (inr (parent, omega arith))
  ];
  labels = λ k f e. earlier_more f.at f.choice i c (r.labels k f e);
  told = r.told;
}

ranked_grew : (vs ws : List Keyed) (fs : List Found) (key : List ℕ) (i c d n : ℕ) → IsRanked (steps_of vs) fs i c
    → Grew vs ws key i c d n → IsRanked (steps_of ws) fs i (c + 1)
ranked_grew vs ws fs key i c d n r (inl keeps) = rw keeps.same (ranked_step (steps_of vs) fs i c r)
ranked_grew vs ws fs key i c d n r (inr adds) = rw (adds.whole, steps_more vs adds.visit)
    (with_rank (steps_of vs) fs i c (step_of adds.visit) r adds.parent_is adds.choice_is)

-- and a new label
pub ranked_more : (vs ws : List Keyed) (fs gs : List Found) (key label : List ℕ) (i c d n : ℕ)
    → IsRanked (steps_of vs) fs i c → Grew vs ws key i c d n → Told fs gs label i c d
    → IsRanked (steps_of ws) gs i (c + 1)
ranked_more vs ws fs gs key label i c d n r g (inl keeps) = rw keeps.same (ranked_grew vs ws fs key i c d n r g)
ranked_more vs ws fs gs key label i c d n r g (inr adds) = let s = ranked_grew vs ws fs key i c d n r g in
    rw adds.whole (record {
      rising = s.rising;
      visits = s.visits;
      labels = λ k f e. elim (get-back fs adds.found k f e) [
        | inl old ↦ s.labels k f old
        | inr new ↦ subst (λ y. IsEarlier y.at y.choice i (c + 1)) (sym new.1)
            (inr (adds.at_is, let h = adds.choice_is in omega arith))
      ];
      told = λ j k f h a e b. elim
          (get-back fs adds.found k h b) [
            | inl old ↦ elim (get-back fs adds.found j f e) [
              | inl early ↦ r.told j k f h a early old
              | inr late ↦ let low : k < length fs = get-below fs k h old in let q
                  = late.0 in absurd (omega arith)
            ]
            | inr new ↦ elim (get-back fs adds.found j f e) [
              | inl early ↦ subst (λ y. IsEarlier f.at f.choice y.at y.choice) (sym new.1)
                  (subst (λ p. IsEarlier f.at f.choice p adds.found.choice) (sym adds.at_is)
                  (subst (λ p. IsEarlier f.at f.choice i p) (sym adds.choice_is) (r.labels j f early)))
              | inr late ↦ let q
                  = late.0 in let p = new.0 in absurd (omega arith)
            ]
          ];
    })
