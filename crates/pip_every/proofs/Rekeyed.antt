-- What is told of a state doesn't depend on the kind of keys that its system has.
use Rattle.std.proofs.Common.{◌≡◌, ℕ, zero, suc, ◌+◌, List, [], ◌∷◌, length, Some, slice_get, refl}
use Rattle.std.proofs.Common.{◌∙◌}
use Rattle.pip_search.specs.Naming.{AreDistinct}
use Rattle.pip_search.specs.Summary.{AreCounted, HasAway, HasOneKey, HasOneMore, IsAmong, IsAway, IsEnd, IsTold}
use Rattle.pip_search.specs.Summary.{Witness}
use Rattle.pip_search.specs.Systems.{Model, after_choices}
use Rattle.pip_search.specs.declared.searching.Extent.{Extent}
use Rattle.pip_search.specs.declared.searching.Extent.TheVariants.{Closed, Stopped, Within}

-- a system with keys of another kind
abbrev pub with_keys : (m : Model) → (List ℕ → m.State → Type 0) → Model
with_keys m K = record { State = m.State; choices = m.choices; act = m.act; label = m.label; stands = K }

-- keys of two kinds tell states apart alike: each state with a key of the first kind has one of the second, and where
-- one state has both, each state with the one has the other
pub record TellAlike (m : Model) (K L : List ℕ → m.State → Type 0) : Type 0 where
  pub on : (key other : List ℕ) (s t : m.State) → K key s → L other s → K key t → L other t
  pub back : (key other : List ℕ) (s t : m.State) → K key s → L other s → L other t → K key t
  pub some : (key : List ℕ) (s : m.State) → K key s → (other : List ℕ) × L other s
  pub one : HasOneKey (with_keys m K)

module _ (m : Model) (K L : List ℕ → m.State → Type 0) where
  -- some state has both keys
  record ArePartners (key other : List ℕ) : Type 0 where
    state : m.State
    first : K key state
    second : L other state

  -- keys and their partners, in the same order
  ArePaired : List (List ℕ) → List (List ℕ) → Type 0
  ArePaired [] [] = Unit {0}
  ArePaired [] (o ∷ os) = ⊥
  ArePaired (k ∷ ks) [] = ⊥
  ArePaired (k ∷ ks) (o ∷ os) = ArePartners k o × ArePaired ks os

  as_many : (ks os : List (List ℕ)) → ArePaired ks os → length os ≡ length ks
  unfolding ArePaired
  as_many [] [] h = refl
  as_many [] (o ∷ os) h = absurd h
  as_many (k ∷ ks) [] h = absurd h
  as_many (k ∷ ks) (o ∷ os) h = rw (as_many ks os h.1)

  -- the partner of a key is at its place
  record IsPairedAt (os : List (List ℕ)) (j : ℕ) (key : List ℕ) : Type 0 where
    other : List ℕ
    at : slice_get os j ≡ Some other
    partners : ArePartners key other

  paired_at : (ks os : List (List ℕ)) (j : ℕ) (key : List ℕ) → ArePaired ks os → slice_get ks j ≡ Some key
      → IsPairedAt os j key
  unfolding ArePaired
  paired_at [] os j key h e = absurd cc
  paired_at (k ∷ ks) [] j key h e = absurd h
  paired_at (k ∷ ks) (o ∷ os) zero key h e =
      let same : k ≡ key = cc in record { other = o; at = refl; partners = rw (← same) h.0 }
  paired_at (k ∷ ks) (o ∷ os) (suc j) key h e =
      let rest = paired_at ks os j key h.1 e in search

  -- and the other way
  record IsPartnerAt (ks : List (List ℕ)) (j : ℕ) (other : List ℕ) : Type 0 where
    key : List ℕ
    at : slice_get ks j ≡ Some key
    partners : ArePartners key other

  partner_at : (ks os : List (List ℕ)) (j : ℕ) (other : List ℕ) → ArePaired ks os → slice_get os j ≡ Some other
      → IsPartnerAt ks j other
  unfolding ArePaired
  partner_at [] [] j other h e = absurd cc
  partner_at [] (o ∷ os) j other h e = absurd h
  partner_at (k ∷ ks) [] j other h e = absurd h
  partner_at (k ∷ ks) (o ∷ os) zero other h e =
      let same : o ≡ other = cc in record { key = k; at = refl; partners = rw (← same) h.0 }
  partner_at (k ∷ ks) (o ∷ os) (suc j) other h e =
      let rest = partner_at ks os j other h.1 e in search

  module _ (alike : TellAlike m K L) where
    -- each key of some state has a partner
    all_paired : (ks : List (List ℕ)) → ((j : ℕ) (key : List ℕ) → slice_get ks j ≡ Some key → (s : m.State) × K key s)
        → (os : List (List ℕ)) × ArePaired ks os
    unfolding ArePaired
    all_paired [] of = ([], tt)
    all_paired (key ∷ ks) of =
        let (s, k) = of 0 key refl in
        let (other, l) = alike.some key s k in
        let rest = all_paired ks (λ j other e. of (suc j) other e) in
        (other ∷ rest.0, (record { state = s; first = k; second = l }, rest.1))

    -- no two partners are the same
    still_distinct : (ks os : List (List ℕ)) → ArePaired ks os → AreDistinct ks → AreDistinct os
    still_distinct ks os h distinct i j name at_i at_j =
        let x = partner_at ks os i name h at_i in
        let y = partner_at ks os j name h at_j in
        let p = x.partners in
        let q = y.partners in
        let same : y.key ≡ x.key = alike.one y.key x.key p.state
        (alike.back y.key name q.state p.state q.first q.second p.second) p.first in
        distinct i j x.key x.at (rw (y.at, same))

    -- what holds of a key holds of its partner
    module _ (s : m.State) (ks os : List (List ℕ)) (paired : ArePaired ks os) where
      away : (key other : List ℕ) (n : ℕ) → ArePartners key other → IsAway (with_keys m K) s key n
          → IsAway (with_keys m L) s other n
      away key other n p h = record {
        choices = h.choices;
        can = h.can;
        count = h.count;
        stands = alike.on key other p.state (after_choices (with_keys m K) s h.choices) p.first p.second h.stands;
        fewest = λ cs can at. h.fewest cs can
            (alike.back key other p.state (after_choices (with_keys m L) s cs) p.first p.second at);
      }

      has_away : (n : ℕ) → HasAway (with_keys m K) s ks n → HasAway (with_keys m L) s os n
      has_away n h =
          let there = paired_at ks os h.place h.key paired h.at in
          record {
            place = h.place;
            key = there.other;
            at = there.at;
            away = away h.key there.other n there.partners h.away;
          }

      among : (t : m.State) → IsAmong (with_keys m K) ks t → IsAmong (with_keys m L) os t
      among t h =
          let there = paired_at ks os h.place h.key paired h.at in
          let p = there.partners in
          record {
            place = h.place;
            key = there.other;
            at = there.at;
            stands = alike.on h.key there.other p.state t p.first p.second h.stands;
          }

      among_back : (t : m.State) → IsAmong (with_keys m L) os t → IsAmong (with_keys m K) ks t
      among_back t h =
          let there = partner_at ks os h.place h.key paired h.at in
          let p = there.partners in
          record {
            place = h.place;
            key = there.key;
            at = there.at;
            stands = alike.back there.key h.key p.state t p.first p.second h.stands;
          }

      one_more : (n : ℕ) → HasOneMore (with_keys m K) s ks n → HasOneMore (with_keys m L) s os n
      one_more n h = record {
        choices = h.choices;
        can = h.can;
        count = h.count;
        none = λ x. h.none (among_back (after_choices (with_keys m L) s h.choices) x);
      }

      counted : (v : Extent) → AreCounted (with_keys m K) s ks v → AreCounted (with_keys m L) s os v
      counted v h = record {
        distinct = still_distinct ks os paired h.distinct;
        reached = λ j other at.
            let there = partner_at ks os j other paired at in
            let (n, (most, far)) = h.reached j there.key there.at in
            (n, (most, away there.key other n there.partners far));
        all = λ cs can covered. among (after_choices (with_keys m K) s cs) (h.all cs can covered);
      }

      ends : (most limit : ℕ) (v : Extent) → IsEnd (with_keys m K) s ks most limit v
          → IsEnd (with_keys m L) s os most limit v
      ends most limit (Closed depth) h =
          (h.0, (rw (as_many ks os paired) h.1.0, has_away depth h.1.1))
      ends most limit (Within depth) h =
          (h.0, (rw (as_many ks os paired) h.1.0, has_away depth h.1.1))
      ends most limit (Stopped depth) h = (h.0, (as_many ks os paired ∙ h.1.0, one_more (depth + 1) h.1.1))

    -- what is told with keys of the first kind is told with those of the second
    pub rekeyed : (s : m.State) (most limit : ℕ) (ws : List Witness) (count : ℕ) (v : Extent)
        → IsTold (with_keys m K) s most limit ws count v → IsTold (with_keys m L) s most limit ws count v
    rekeyed s most limit ws count v h =
        let pairs = all_paired h.keys (λ j key at.
        let (n, (few, far)) = h.counted.reached j key at in
        (after_choices (with_keys m K) s far.choices, far.stands)) in
        let os : List (List ℕ) = pairs.0 in
        let paired : ArePaired h.keys os = pairs.1 in
        record {
          shown = h.shown;
          all = h.all;
          order = h.order;
          distinct = h.distinct;
          keys = os;
          count_is = as_many h.keys os paired ∙ h.count_is;
          counted = counted s h.keys os paired v h.counted;
          ends = ends s h.keys os paired most limit v h.ends;
        }
