-- What the parts of a certificate say together.
use Rattle.std.proofs.Common.{◌≡◌, ◌≢◌, ℕ, zero, suc, ◌+◌, ◌<◌, ◌≤◌, ◌⊎◌, inl, inr, List, [], ◌∷◌, ◌++◌, length}
use Rattle.std.proofs.Common.{Some, slice_get, refl, arith}
use Rattle.pip_search.specs.Certificates.{AreClosedParts, AreMerged, AreReachedParts, CertificatesCountAll}
use Rattle.pip_search.specs.Certificates.{CertificatesSayAll, HasStop, IsInSome, IsMet, IsShownInSome, Portion, SayAll}
use Rattle.pip_search.specs.Certificates.{CountAll, IsDeepest, StandsInSome, Stop, all_keys, all_stops}
use Rattle.pip_search.specs.Naming.{AreDistinct}
use Rattle.pip_search.specs.Reached.{AreChoices}
use Rattle.pip_search.specs.Summary.{HasOneKey, IsAmong, IsAway, IsShownOn}
use Rattle.pip_search.specs.Systems.{Model, after_choices}
use Rattle.pip_search.proofs.Making.{at-same}
use Rattle.pip_search.proofs.Picking.{at_map, map_at}
use Rattle.pip_search.proofs.Places.{get-more}

-- a greater depth is enough
pub has_later : (xs : List Stop) (key : List ℕ) (n k : ℕ) → n ≤ k → HasStop xs key n → HasStop xs key k
has_later xs key n k more h = record {
  place = h.place;
  stop = h.stop;
  at = h.at;
  same = h.same;
  soon = omega arith;
}

module _ (m : Model) (start : List ℕ) (ps : List Portion) (closed : AreClosedParts m ps) (merged : AreMerged start ps)
  where
    -- a choice at a key of some part is met there
    met_in : (key : List ℕ) (n c : ℕ) → c < m.choices → (h : IsInSome ps key n) → IsMet m h.part h.has.stop c
    met_in key n c can h = closed h.place h.part h.at h.has.place c h.has.stop h.has.at can

    -- what is asked is in some part
    asked_in : (key : List ℕ) (n j : ℕ) (p : Portion) → slice_get ps j ≡ Some p → HasStop p.asked key n
        → IsInSome ps key n
    asked_in key n j p at h =
        let i = merged.asked j h.place p h.stop at h.at in
        record {
          place = i.place;
          part = i.part;
          at = i.at;
          has = rw (← h.same) (has_later i.part.keys h.stop.key h.stop.depth n h.soon i.has);
        }

    next_in : (key : List ℕ) (n c : ℕ) (h : IsInSome ps key n) (w : IsMet m h.part h.has.stop c)
        → IsInSome ps w.next (n + 1)
    next_in key n c h w = elim (w.met) [
      | inl own ↦ record {
        place = h.place;
        part = h.part;
        at = h.at;
        has = has_later h.part.keys w.next (h.has.stop.depth + 1) (n + 1) (omega arith) own;
      }
      | inr other ↦ asked_in w.next (n + 1) h.place h.part h.at
          (has_later h.part.asked w.next (h.has.stop.depth + 1) (n + 1) (omega arith) other)
    ]

    module _ (s : m.State) (stands : m.stands start s) where
      step : (c : ℕ) (cs : List ℕ) → c < m.choices → StandsInSome m ps (after_choices m s cs) (length cs)
          → StandsInSome m ps (after_choices m s (c ∷ cs)) (length (c ∷ cs))
      step c cs can h =
          let w = met_in h.key (length cs) c can h.has in
          let here : m.stands h.has.has.stop.key (after_choices m s cs) =
          rw h.has.has.same h.stands in
          let l = w.leads (after_choices m s cs) here in
          let more : length cs + 1 ≡ length (c ∷ cs) = omega arith in
          record {
            key = w.next;
            stands = l.0;
            has = rw (← more) (next_in h.key (length cs) c h.has w);
          }

      pub all_in : (cs : List ℕ) → AreChoices m cs → StandsInSome m ps (after_choices m s cs) (length cs)
      all_in [] can = record { key = start; stands = stands; has = merged.start_is }
      all_in (c ∷ cs) can = step c cs can.0 (all_in cs can.1)

      all_told : (label cs : List ℕ) → IsShownOn m s label cs → label ≢ [] → IsShownInSome ps label
      all_told label [] shown some = absurd shown
      all_told label (c ∷ cs) (can, is) some =
          let h = all_in cs can.1 in
          let w = met_in h.key (length cs) c can.0 h.has in
          let here : m.stands h.has.has.stop.key (after_choices m s cs) =
          rw h.has.has.same h.stands in
          let l = w.leads (after_choices m s cs) here in
          let same : w.shown ≡ label = cc (l.1) in
          let t = w.told (λ e. some (cc)) in
          record {
            place = h.has.place;
            part = h.has.part;
            at = h.has.at;
            has = record { place = t.place; at = rw (t.at, same) };
          }

      pub says_all : SayAll m s ps
      says_all = record { all = all_in; told = all_told }

pub certificates_say_all : (m : Model) → CertificatesSayAll m
certificates_say_all m start ps closed merged s stands = says_all m start ps closed merged s stands

-- ---- what is in a list of two

module _ {X : Type 0} where
  pub get_after : (xs ys : List X) (i : ℕ) (x : X) → slice_get ys i ≡ Some x → (k : ℕ)
      × (slice_get (xs ++ ys) k ≡ Some x)
  get_after [] ys i x e = (i, e)
  get_after (z ∷ xs) ys i x e = let (k, at) = get_after xs ys i x e in (suc k, at)

  pub get_either : (xs ys : List X) (i : ℕ) (x : X) → slice_get (xs ++ ys) i ≡ Some x
      → ((k : ℕ) × (slice_get xs k ≡ Some x)) ⊎ ((k : ℕ) × (slice_get ys k ≡ Some x))
  get_either [] ys i x e = inr (i, e)
  get_either (z ∷ xs) ys zero x e = inl (0, e)
  get_either (z ∷ xs) ys (suc i) x e = elim (get_either xs ys i x e) [
    | inl (k, at) ↦ inl (suc k, at)
    | inr (k, at) ↦ inr (k, at)
  ]

-- the place in the list of all of what is in a part
pub in_all : (ps : List Portion) (j k : ℕ) (p : Portion) (x : Stop) → slice_get ps j ≡ Some p
    → slice_get p.keys k ≡ Some x → (i : ℕ) × (slice_get (all_stops ps) i ≡ Some x)
unfolding all_stops
in_all [] j k p x at has = absurd (cc)
in_all (q ∷ ps) zero k p x at has =
    let same : q ≡ p = cc in
    (k, get-more q.keys (all_stops ps) k x (rw (same, has)))
in_all (q ∷ ps) (suc j) k p x at has =
    let (i, there) = in_all ps j k p x at has in get_after q.keys (all_stops ps) i x there

-- and the part in which it is
record IsOfSome (ps : List Portion) (x : Stop) : Type 0 where
  of : ℕ
  part : Portion
  there : slice_get ps of ≡ Some part
  place : ℕ
  at : slice_get part.keys place ≡ Some x

of_all : (ps : List Portion) (i : ℕ) (x : Stop) → slice_get (all_stops ps) i ≡ Some x → IsOfSome ps x
unfolding all_stops
of_all [] i x e = absurd (cc)
of_all (q ∷ ps) i x e = elim (get_either q.keys (all_stops ps) i x e) [
  | inl (k, at) ↦ record { of = 0; part = q; there = refl; place = k; at = at }
  | inr (k, at) ↦
      let o = of_all ps k x at in
      record { of = suc o.of; part = o.part; there = o.there; place = o.place; at = o.at }
]

-- ---- what parts count

module _ (m : Model) (one : HasOneKey m) (start : List ℕ) (ps : List Portion) (depth : ℕ)
    (closed : AreClosedParts m ps) (merged : AreMerged start ps) (distinct : AreDistinct (all_keys ps))
    (deep : IsDeepest (all_stops ps) depth) (s : m.State) (stands : m.stands start s) (reached : AreReachedParts m s ps)
  where
    -- the depth of a key is the fewest choices that lead to its state
    away : (i : ℕ) (x : Stop) → slice_get (all_stops ps) i ≡ Some x → IsAway m s x.key x.depth
    away i x at =
        let o = of_all ps i x at in
        let r = (reached o.of o.part o.there).keys o.place x o.at in
        record {
          choices = r.choices;
          can = r.can;
          count = r.count;
          stands = r.stands;
          fewest = λ cs can here.
              let h = all_in m start ps closed merged s stands cs can in
              let same : h.key ≡ x.key = one h.key x.key (after_choices m s cs) h.stands here in
              let own = h.has.has in
              let (k, there) = in_all ps h.has.place own.place h.has.part own.stop h.has.at own.at in
              let first : slice_get (all_keys ps) i ≡ Some x.key = map_at (λ y. y.key) (all_stops ps) i x at in
              let other : slice_get (all_keys ps) k ≡ Some x.key =
              rw (map_at (λ y. y.key) (all_stops ps) k own.stop there, own.same, same) in
              let at_one : i ≡ k = distinct i k x.key first other in
              let alike : x ≡ own.stop = at-same (all_stops ps) k x own.stop
              (rw (← at_one) at) there in
              let as_deep : x.depth ≡ own.stop.depth = rw alike in
              omega arith;
        }

    among : (cs : List ℕ) → AreChoices m cs → IsAmong m (all_keys ps) (after_choices m s cs)
    among cs can =
        let h = all_in m start ps closed merged s stands cs can in
        let own = h.has.has in
        let (k, there) = in_all ps h.has.place own.place h.has.part own.stop h.has.at own.at in
        record {
          place = k;
          key = own.stop.key;
          at = map_at (λ y. y.key) (all_stops ps) k own.stop there;
          stands = rw own.same h.stands;
        }

    pub counts_all : CountAll m s ps depth
    counts_all = record {
      counted = record {
        distinct = distinct;
        reached = λ j key e.
            let (x, (at, same)) = at_map (λ (y : Stop). y.key) (all_stops ps) j key e in
            (x.depth, (deep.within j x at, rw same at (away j x at)));
        all = λ cs can covers. among cs can;
      };
      ends = λ most limit low few. (
        low,
        (
          few,
          record {
            place = deep.place;
            key = deep.stop.key;
            at = map_at (λ y. y.key) (all_stops ps) deep.place deep.stop deep.at;
            away = rw (← deep.depth_is) (away deep.place deep.stop deep.at);
          },
        ),
      );
    }

pub certificates_count_all : (m : Model) → CertificatesCountAll m
certificates_count_all m one start ps depth closed merged distinct deep s stands reached =
    counts_all m one start ps depth closed merged distinct deep s stands reached
