-- Two summaries of one state say the same.
use Rattle.std.proofs.Common.{◌≡◌, ◌≢◌, ℕ, zero, suc, ◌+◌, ◌<◌, ◌≤◌, ◌⊎◌, inl, inr, List, [], ◌∷◌, length, Some}
use Rattle.std.proofs.Common.{slice_get, refl, sym, ◌∙◌, arith}
use Rattle.std.proofs.lemmas.Bool.{cases_eq, cases_lt}
use Rattle.pip_search.specs.Naming.{AreDistinct}
use Rattle.pip_search.specs.Orders.{IsBefore, IsNoLater}
use Rattle.pip_search.specs.Reached.{IsCovered}
use Rattle.pip_search.specs.Summary.{AreCounted, HasAway, HasOneKey, HasOneMore, IsAway, IsEnd, IsTold, SaysOnce}
use Rattle.pip_search.specs.Summary.{Witness}
use Rattle.pip_search.specs.Summary.{farthest}
use Rattle.pip_search.specs.Systems.{Model, after_choices}
use Rattle.pip_search.specs.declared.searching.Extent.{Extent}
use Rattle.pip_search.specs.declared.searching.Extent.TheVariants.{Closed, Stopped, Within}
use Rattle.pip_search.proofs.Making.{at-same}
use Rattle.pip_search.proofs.Picking.{map_at}
use Rattle.pip_search.proofs.Places.{get-below, get-some}
use Rattle.pip_search.proofs.Ranking.{before_trans}
use Rattle.pip_search.proofs.Summing.{covered_down}

-- ---- lists

-- n things that go to m places, no two to one, are at most m
few : (m n : ℕ) (R : ℕ → ℕ → Type 0) → ((j : ℕ) → j < n → (k : ℕ) × ((k < m) × R j k))
    → ((i j k : ℕ) → i < n → j < n → R i k → R j k → i ≡ j) → n ≤ m
few m zero R total apart = omega arith
few zero (suc n) R total apart = let (k, (low, r)) = total n (omega arith) in absurd (omega arith)
few (suc m) (suc n) R total apart =
    let (v, (low, own)) = total n (omega arith) in
    let less : n ≤ m = few m n (λ j k. R j k ⊎ ((k ≡ v) × R j m))
    (λ j a. let (k, (b, r)) = total j (omega arith) in elim (cases_eq k m) [
      | inl last ↦
          let r2 : R j m = rw (← last) r in
          let other : v ≢ m = λ e.
          let same : n ≡ j = apart n j m (omega arith) (omega arith) (rw (← e) own) r2 in
          omega arith in
          (v, (omega arith, inr (refl, r2)))
      | inr other ↦ (k, (omega arith, inl r))
    ])
    (λ i j k a b. elim [
      | inl x ↦ elim [
        | inl y ↦ apart i j k (omega arith) (omega arith) x y
        | inr (e, y) ↦ absurd (
            let same : i ≡ n = apart i n v (omega arith) (omega arith) (rw (← e) x) own in omega arith
            )
      ]
      | inr (e, x) ↦ elim [
        | inl y ↦ absurd (let same : j ≡ n = apart j n v (omega arith) (omega arith) (rw (← e) y) own in
            omega arith)
        | inr (f, y) ↦ apart i j m (omega arith) (omega arith) x y
      ]
    ]) in
    omega arith

-- each of a list is in another one
abbrev AreIn : {X : Type 0} → List X → List X → Type 0
AreIn {X} xs ys = (j : ℕ) (x : X) → slice_get xs j ≡ Some x → (k : ℕ) × (slice_get ys k ≡ Some x)

fewer : (xs ys : List (List ℕ)) → AreDistinct xs → AreIn xs ys → length xs ≤ length ys
fewer xs ys distinct inside = few (length ys) (length xs)
    (λ j k. (x : List ℕ) × ((slice_get xs j ≡ Some x) × (slice_get ys k ≡ Some x)))
    (λ j a. let (x, e) = get-some xs j a in let (k, at) = inside j x e in (k, (get-below ys k x at, (x, (e, at)))))
    (λ i j k a b (x, (e, at)) (y, (f, bt)). distinct i j y (rw (e, at-same ys k x y at bt)) f)

-- and with one that isn't in the first
fewer_and_one : (xs ys : List (List ℕ)) (y : List ℕ) (k : ℕ) → AreDistinct xs → AreIn xs ys → slice_get ys k ≡ Some y
    → ((j : ℕ) → slice_get xs j ≢ Some y) → length xs + 1 ≤ length ys
fewer_and_one xs ys y k distinct inside at none =
    let most : length (y ∷ xs) ≤ length ys = fewer (y ∷ xs) ys apart within in omega arith
  where
    apart : AreDistinct (y ∷ xs)
    apart zero zero x e f = refl
    apart zero (suc j) x e f = let same : y ≡ x = cc in absurd (none j (rw (f, ← same)))
    apart (suc i) zero x e f = let same : y ≡ x = cc in absurd (none i (rw (e, ← same)))
    apart (suc i) (suc j) x e f = rw (distinct i j x e f)

    within : AreIn (y ∷ xs) ys
    within zero x e = let same : y ≡ x = cc in (k, rw (at, same))
    within (suc j) x e = inside j x e

-- ---- ways

not_before : (cs : List ℕ) → IsBefore cs cs → ⊥
not_before [] h = h
not_before (c ∷ cs) (inl h) = not_before cs h
not_before (c ∷ cs) (inr (e, low)) = absurd (omega arith)

pub no_later_both : (cs ds : List ℕ) → IsNoLater cs ds → IsNoLater ds cs → cs ≡ ds
no_later_both cs ds (inl e) k = e
no_later_both cs ds (inr h) (inl e) = sym e
no_later_both cs ds (inr h) (inr k) = absurd (not_before cs (before_trans cs ds cs h k))

-- witnesses in the order of their ways
abbrev AreRanked : List Witness → Type 0
AreRanked ws = (j k : ℕ) (v w : Witness) → j < k → slice_get ws j ≡ Some v → slice_get ws k ≡ Some w
    → IsBefore v.way w.way

-- the first of two lists with the same witnesses
first_same : (w x : Witness) (ws xs : List Witness) → AreRanked (w ∷ ws) → AreRanked (x ∷ xs)
    → (k : ℕ) → slice_get (x ∷ xs) k ≡ Some w → (j : ℕ) → slice_get (w ∷ ws) j ≡ Some x → w ≡ x
first_same w x ws xs a b zero e j f = let same : x ≡ w = cc in sym same
first_same w x ws xs a b (suc k) e zero f = let same : w ≡ x = cc in same
first_same w x ws xs a b (suc k) e (suc j) f = absurd (not_before w.way (before_trans w.way x.way w.way
    (a 0 (suc j) w x (omega arith) refl f) (b 0 (suc k) x w (omega arith) refl e)))

-- what is in the rest of one list is in the rest of the other
rest_in : (w x : Witness) (ws xs : List Witness) → AreRanked (w ∷ ws) → w ≡ x → AreIn (w ∷ ws) (x ∷ xs) → AreIn ws xs
rest_in w x ws xs a same inside j y e = back (inside (suc j) y e)
  where
    back : (k : ℕ) × (slice_get (x ∷ xs) k ≡ Some y) → (k : ℕ) × (slice_get xs k ≡ Some y)
    back (zero, at) =
        let own : x ≡ y = cc in
        absurd (not_before w.way (rw (← own, ← same) at (a 0 (suc j) w y (omega arith) refl e)))
    back (suc k, at) = (k, at)

ranked_same : (ws xs : List Witness) → AreRanked ws → AreRanked xs → AreIn ws xs → AreIn xs ws → ws ≡ xs
ranked_same [] [] a b f g = refl
ranked_same [] (x ∷ xs) a b f g = let (k, at) = g 0 x refl in absurd (cc)
ranked_same (w ∷ ws) [] a b f g = let (k, at) = f 0 w refl in absurd (cc)
ranked_same (w ∷ ws) (x ∷ xs) a b f g =
    let (k, at) = f 0 w refl in
    let (j, bt) = g 0 x refl in
    let same = first_same w x ws xs a b k at j bt in
    rw (
      same,
      ranked_same ws xs (λ i l u v less. a (suc i) (suc l) u v (omega arith))
          (λ i l u v less. b (suc i) (suc l) u v (omega arith)) (rest_in w x ws xs a same f)
          (rest_in x w xs ws b (sym same) g),
    )

-- ---- states

module _ (m : Model) (one : HasOneKey m) (s : m.State) where
  away_once : (key : List ℕ) (n k : ℕ) → IsAway m s key n → IsAway m s key k → n ≡ k
  away_once key n k a b =
      let x : n ≤ length b.choices = a.fewest b.choices b.can b.stands in
      let y : k ≤ length a.choices = b.fewest a.choices a.can a.stands in
      omega arith

  -- a key of a state that covered choices lead to is counted
  moved : (keys : List (List ℕ)) (v : Extent) → AreCounted m s keys v → (key : List ℕ) (n : ℕ) → IsAway m s key n
      → IsCovered v n → (k : ℕ) × (slice_get keys k ≡ Some key)
  moved keys v counted key n a cover =
      let x = counted.all a.choices a.can (rw a.count cover) in
      (x.place, rw (x.at, one x.key key (after_choices m s a.choices) x.stands a.stands))

  keys_in : (keys more : List (List ℕ)) (v w : Extent) → AreCounted m s keys v → AreCounted m s more w
      → IsCovered w (farthest v) → AreIn keys more
  keys_in keys more v w a b cover j key e =
      let (n, (low, away)) = a.reached j key e in
      moved more w b key n away (covered_down w (farthest v) n cover low)

  deepest : (keys more : List (List ℕ)) (d : ℕ) (w : Extent) → HasAway m s keys d → AreCounted m s more w
      → IsCovered w d → d ≤ farthest w
  deepest keys more d w h b cover =
      let (k, at) = moved more w b h.key d h.away cover in
      let (n, (low, away)) = b.reached k h.key at in
      omega arith

  overfull : (keys more : List (List ℕ)) (n : ℕ) (v w : Extent) → AreCounted m s keys v → AreCounted m s more w
      → IsCovered w (farthest v) → HasOneMore m s keys n → IsCovered w n → length keys + 1 ≤ length more
  overfull keys more n v w a b cover h far =
      let x = b.all h.choices h.can (rw h.count far) in
      fewer_and_one keys more x.key x.place a.distinct (keys_in keys more v w a b cover) x.at
      (λ j e. h.none (search))

  module _ (most limit : ℕ) where
    verdict_once : (keys more : List (List ℕ)) (v w : Extent) → AreCounted m s keys v → AreCounted m s more w
        → IsEnd m s keys most limit v → IsEnd m s more most limit w → v ≡ w
    verdict_once keys more (Closed d) (Closed e) a b x y =
        let le : d ≤ e = deepest keys more d (Closed e) x.1.1 b tt in
        let ge : e ≤ d = deepest more keys e (Closed d) y.1.1 a tt in
        let same : d ≡ e = omega arith in rw same
    verdict_once keys more (Closed d) (Within e) a b x y =
        let ge : e ≤ d = deepest more keys e (Closed d) y.1.1 a tt in
        absurd (omega arith)
    verdict_once keys more (Closed d) (Stopped e) a b x y =
        let over : length more + 1 ≤ length keys = overfull more keys (e + 1) (Stopped e) (Closed d) b a tt y.1.1 tt in
        absurd (omega arith)
    verdict_once keys more (Within d) (Closed e) a b x y =
        let ge : d ≤ e = deepest keys more d (Closed e) x.1.1 b tt in
        absurd (omega arith)
    verdict_once keys more (Within d) (Within e) a b x y = rw (x.0, ← y.0)
    verdict_once keys more (Within d) (Stopped e) a b x y =
        let p = x.0 in let q = y.0 in
        let over : length more + 1 ≤ length keys = overfull more keys (e + 1) (Stopped e) (Within d) b a (omega arith)
        y.1.1 (omega arith) in
        absurd (omega arith)
    verdict_once keys more (Stopped d) (Closed e) a b x y =
        let over : length keys + 1 ≤ length more = overfull keys more (d + 1) (Stopped d) (Closed e) a b tt x.1.1 tt in
        absurd (omega arith)
    verdict_once keys more (Stopped d) (Within e) a b x y =
        let p = x.0 in let q = y.0 in
        let over : length keys + 1 ≤ length more = overfull keys more (d + 1) (Stopped d) (Within e) a b (omega arith)
        x.1.1 (omega arith) in
        absurd (omega arith)
    verdict_once keys more (Stopped d) (Stopped e) a b x y =
        let p = x.1.0 in
        let q = y.1.0 in
        elim (cases_lt d e) [
          | inl less ↦ absurd (
              let over : length keys + 1 ≤ length more = overfull keys more (d + 1) (Stopped d) (Stopped e) a b
              (omega arith) x.1.1 (omega arith) in omega arith
              )
          | inr late ↦ elim (cases_eq d e) [
            | inl same ↦ rw same
            | inr other ↦ absurd (
                let over : length more + 1 ≤ length keys = overfull more keys (e + 1) (Stopped e) (Stopped d) b a
                (omega arith) y.1.1 (omega arith) in omega arith
                )
          ]
        ]

    -- of one verdict there is one count
    count_once : (keys more : List (List ℕ)) (v : Extent) → AreCounted m s keys v → AreCounted m s more v
        → IsEnd m s keys most limit v → IsEnd m s more most limit v → length keys ≡ length more
    count_once keys more (Closed d) a b x y =
        omega (
          arith,
          fewer keys more a.distinct (keys_in keys more (Closed d) (Closed d) a b tt),
          fewer more keys
              b.distinct (keys_in more keys (Closed d) (Closed d) b a tt),
        )
    count_once keys more (Within d) a b x y =
        omega (
          arith,
          fewer keys more a.distinct (keys_in keys more (Within d) (Within d) a b (omega arith)),
          fewer
              more keys b.distinct (keys_in more keys (Within d) (Within d) b a (omega arith)),
        )
    count_once keys more (Stopped d) a b x y = x.1.0 ∙ sym y.1.0

    -- ---- witnesses

    -- a witness of one summary is one of the other
    witness_in : (ws xs : List Witness) (count n : ℕ) (v : Extent) → IsTold m s most limit ws count v
        → IsTold m s most limit xs n v → AreIn ws xs
    witness_in ws xs count n v t u k w e =
        let (shown, (some, cover)) = t.shown k w e in
        let x = u.all w.label w.way shown some cover in
        let y = x.witness in
        let (again, (full, far)) = u.shown x.place y x.at in
        let z = t.all y.label y.way again full far in
        let label : z.witness.label ≡ w.label = z.same ∙ x.same in
        let places : z.place ≡ k = t.distinct z.place k w.label
        (rw (map_at (λ (q : Witness). q.label) ws z.place z.witness z.at, label))
        (map_at (λ (q : Witness). q.label) ws k w e) in
        let own : z.witness ≡ w = at-same ws k z.witness w
        (rw places at z.at) e in
        let back : IsNoLater w.way y.way = rw own at z.first in
        let ways : y.way ≡ w.way = no_later_both y.way w.way x.first back in
        let same : y ≡ w = witness_same y w x.same ways in
        (x.place, rw (x.at, same))
      where
        witness_same : (p q : Witness) → p.label ≡ q.label → p.way ≡ q.way → p ≡ q
        witness_same p q label way =
            let first : p ≡ record { label = q.label; way = p.way } =
            rw label in
            rw (first, way)

    of_one_verdict : (ws xs : List Witness) (count n : ℕ) (v : Extent) → IsTold m s most limit ws count v
        → IsTold m s most limit xs n v → (ws ≡ xs) × (count ≡ n)
    of_one_verdict ws xs count n v t u = (
      ranked_same ws xs t.order u.order (witness_in ws xs count n v t u) (witness_in xs ws n count v u t),
      cc (t.count_is, count_once t.keys u.keys v t.counted u.counted t.ends u.ends, u.count_is),
    )

pub says_once : (m : Model) → SaysOnce m
says_once m one s most limit count n ws xs v w t u =
    let same : v ≡ w = verdict_once m one s most limit t.keys u.keys v w t.counted u.counted t.ends u.ends in
    let rest = of_one_verdict m one s most limit ws xs count n v t
    (rw same u) in
    (rest.0, (rest.1, same))
