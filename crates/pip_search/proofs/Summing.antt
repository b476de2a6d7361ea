-- From what a search found to what it says.
use Rattle.std.proofs.Common.{◌≡◌, ◌≢◌, ℕ, ◌+◌, ◌<◌, ◌≤◌, ◌⊎◌, inl, inr, List, [], ◌∷◌, length, map, Some, slice_get}
use Rattle.std.proofs.Common.{refl, ap, sym, subst, arith}
use Rattle.std.specs.Prelude.{true, filter}
use Rattle.std.proofs.lemmas.Bool.{cases_eq, cases_lt}
use Rattle.std.proofs.lemmas.Bool.Decides.{nat_tests}
use Rattle.std.proofs.lemmas.List.{length-map}
use Rattle.pip_search.specs.Ending.{AreWithin, Ends, HasDepth, HasMore}
use Rattle.pip_search.specs.Keys.{Keyed, key_of, keys, labels, steps_of}
use Rattle.pip_search.specs.Naming.{AreDistinct}
use Rattle.pip_search.specs.Orders.{IsBefore, IsRanked, IsTrail}
use Rattle.pip_search.specs.Reached.{IsCovered, Tells}
use Rattle.pip_search.specs.Summary.{AreCounted, HasAway, HasOneKey, HasOneMore, HasWitness, IsAmong, IsAway, IsEnd}
use Rattle.pip_search.specs.Summary.{IsShownOn}
use Rattle.pip_search.specs.Summary.{IsTold, Witness, farthest}
use Rattle.pip_search.specs.Systems.{Model, after_choices}
use Rattle.pip_search.specs.Ways.{AreTraced, found_way, is_covered, way_to, witness_of, witnesses_of}
use Rattle.pip_search.specs.declared.found.Found.{Found}
use Rattle.pip_search.specs.declared.searching.Extent.{Extent}
use Rattle.pip_search.specs.declared.searching.Extent.TheVariants.{Closed, Stopped, Within}
use Rattle.pip_search.proofs.Making.{at-same}
use Rattle.pip_search.proofs.Picking.{at_filter, at_map, filter_at, filter_rises, map_at}
use Rattle.pip_search.proofs.Ranking.{trail_before, trail_same}
use Rattle.pip_search.proofs.Tracing.{way_trail}

-- ---- what was covered

pub covered_true : (v : Extent) (n : ℕ) → is_covered v n ≡ true → IsCovered v n
covered_true (Closed depth) n e = tt
covered_true (Within depth) n e = grind (arith, nat_tests)
covered_true (Stopped depth) n e = grind (arith, nat_tests)

pub covered_is : (v : Extent) (n : ℕ) → IsCovered v n → is_covered v n ≡ true
covered_is (Closed depth) n h = refl
covered_is (Within depth) n h = grind (arith, nat_tests)
covered_is (Stopped depth) n h = grind (arith, nat_tests)

pub covered_down : (v : Extent) (n k : ℕ) → IsCovered v n → k ≤ n → IsCovered v k
covered_down (Closed depth) n k h low = tt
covered_down (Within depth) n k h low = omega arith
covered_down (Stopped depth) n k h low = omega arith

covered_or : (v : Extent) (n : ℕ) → IsCovered v n ⊎ (farthest v ≤ n)
covered_or (Closed depth) n = inl tt
covered_or (Within depth) n = elim (cases_lt depth n) [ inl more ↦ inr (omega arith) | inr less ↦ inl less ]
covered_or (Stopped depth) n = elim (cases_lt depth n) [ inl more ↦ inr (omega arith) | inr less ↦ inl less ]

all_within : (m : Model) (vs : List Keyed) (most limit : ℕ) (v : Extent) → Ends m vs most limit v
    → AreWithin vs (farthest v)
all_within m vs most limit (Closed depth) e = e.1.1
all_within m vs most limit (Within depth) e = e.1.1
all_within m vs most limit (Stopped depth) e = e.1.1

module _ (m : Model) (s : m.State) (vs : List Keyed) (fs : List Found) (v : Extent) (t : Tells m s vs fs v)
    (back : AreTraced (steps_of vs) fs) where
  -- ---- labels

  -- the way of a label can be made, and shows it, and is as long as it says
  way_shows : (k : ℕ) (f : Found) → slice_get fs k ≡ Some f → (IsShownOn m s f.label.items (found_way (steps_of vs) f))
      × ((length (found_way (steps_of vs) f) ≡ f.depth) × IsTrail (steps_of vs) f.at (way_to (steps_of vs) f.at))
  way_shows k f e =
      let h = t.shown k f e in
      let from = back.labels k f e in
      let way = (way_trail (steps_of vs) fs back (f.at + 1) f.at from.from (omega arith) from.at).0 in
      let same : h.choices ≡ way_to (steps_of vs) f.at = trail_same (steps_of vs) h.choices (way_to (steps_of vs) f.at)
      f.at h.trail way in (
        rw (← same) (h.can, h.shown),
        ((omega (arith, ap (λ (cs : List ℕ). length cs) same)), way),
      )

  -- the places of those that were covered
  abbrev covered : List Found
  covered = filter (λ f. is_covered v f.depth) fs

  -- a witness is that of a label that was covered
  found_of : (k : ℕ) (w : Witness) → slice_get (witnesses_of v (steps_of vs) fs) k ≡ Some w → (f : Found)
      × ((slice_get covered k ≡ Some f) × (witness_of (steps_of vs) f ≡ w))
  found_of k w e = at_map (witness_of (steps_of vs)) covered k w e

  was_shown : (some : (k : ℕ) (f : Found) → slice_get fs k ≡ Some f → f.label.items ≢ []) (k : ℕ) (w : Witness)
      → slice_get (witnesses_of v (steps_of vs) fs) k ≡ Some w
      → IsShownOn m s w.label w.way × ((w.label ≢ []) × IsCovered v (length w.way))
  was_shown some k w e =
      let (f, (at, is)) = found_of k w e in
      let (j, (there, good)) = at_filter (λ (f : Found). is_covered v f.depth) fs k f at in
      let h = way_shows j f there in
      rw (← is) (h.0, (some j f there, subst (IsCovered v) (sym h.1.0) (covered_true v f.depth good)))

  all_shown : (label cs : List ℕ) → IsShownOn m s label cs → label ≢ [] → IsCovered v (length cs)
      → HasWitness (witnesses_of v (steps_of vs) fs) label cs
  all_shown label [] h some cover = absurd h
  all_shown label (c ∷ cs) (can, is) some cover =
      let far : IsCovered v (length cs + 1) = subst (IsCovered v) (omega arith) cover in
      let x = t.told c cs can far (λ e. some (cc)) in
      let f = x.found in
      let near : f.depth ≤ length (c ∷ cs) = x.soon in
      let good = covered_is v f.depth (covered_down v (length (c ∷ cs)) f.depth cover near) in
      let (k, at) = filter_at (λ (f : Found). is_covered v f.depth) fs x.place f x.at good in
      let h = way_shows x.place f x.at in
      record {
        place = k;
        witness = witness_of (steps_of vs) f;
        at = map_at (witness_of (steps_of vs)) covered k f at;
        same = cc (x.same);
        first = rw (← trail_same (steps_of vs) x.way (way_to (steps_of vs) f.at) f.at x.trail h.1.1) x.first;
      }

  module _ (i c : ℕ) (ranked : IsRanked (steps_of vs) fs i c) where
    way_before : (j k : ℕ) (f g : Found) → j < k → slice_get fs j ≡ Some f → slice_get fs k ≡ Some g
        → IsBefore (found_way (steps_of vs) f) (found_way (steps_of vs) g)
    way_before j k f g a e b = elim (ranked.told j k f g a e b) [
      | inl less ↦ inl (trail_before (steps_of vs) fs i c ranked (way_to (steps_of vs) f.at)
          (way_to (steps_of vs) g.at) f.at g.at less (way_shows j f e).1.1 (way_shows k g b).1.1)
      | inr same ↦ inr (rw same.0, same.1)
    ]

    in_order : (j k : ℕ) (w x : Witness) → j < k → slice_get (witnesses_of v (steps_of vs) fs) j ≡ Some w
        → slice_get (witnesses_of v (steps_of vs) fs) k ≡ Some x → IsBefore w.way x.way
    in_order j k w x a e b =
        let (f, (at, is)) = found_of j w e in
        let (g, (bt, js)) = found_of k x b in
        let (p, (q, (less, (there, then)))) = filter_rises (λ (f : Found). is_covered v f.depth) fs j k f g a at bt in
        rw (← js) (subst (λ (y : Witness). IsBefore y.way (found_way (steps_of vs) g)) is
        (way_before p q f g less there then))

  -- two witnesses with one label stand at one place
  not_less : AreDistinct (labels fs) → (j k : ℕ) (w x : Witness) → j < k
      → slice_get (witnesses_of v (steps_of vs) fs) j ≡ Some w → slice_get (witnesses_of v (steps_of vs) fs) k ≡ Some x
      → w.label ≢ x.label
  not_less distinct j k w x a e b same =
      let (f, (at, is)) = found_of j w e in
      let (g, (bt, js)) = found_of k x b in
      let (p, (q, (less, (there, then)))) = filter_rises (λ (f : Found). is_covered v f.depth) fs j k f g a at bt in
      let label : f.label.items ≡ g.label.items = cc in
      let one : p ≡ q = distinct p q g.label.items
      (rw (map_at (λ (f : Found). f.label.items) fs p f there, label))
      (map_at (λ (f : Found). f.label.items) fs q g then) in
      absurd (omega arith)

  distinct_labels : AreDistinct (labels fs) → AreDistinct (map (λ w. w.label) (witnesses_of v (steps_of vs) fs))
  distinct_labels distinct j k name e b =
      let (w, (at, is)) = at_map (λ (w : Witness). w.label) (witnesses_of v (steps_of vs) fs) j name e in
      let (x, (bt, js)) = at_map (λ (w : Witness). w.label) (witnesses_of v (steps_of vs) fs) k name b in
      elim (cases_lt j k) [
        | inl less ↦ absurd (not_less distinct j k w x less at bt (cc))
        | inr late ↦ elim (cases_eq j k) [
          | inl same ↦ same
          | inr other ↦ absurd (not_less distinct k j x w (omega arith) bt at (cc))
        ]
      ]

  -- ---- states

  among : (x : m.State) (cs : List ℕ) → (place : ℕ) (u : Keyed) → slice_get vs place ≡ Some u → m.stands (key_of u) x
      → IsAmong m (keys vs) x
  among x cs place u at stands = record {
    place = place;
    key = key_of u;
    at = map_at key_of vs place u at;
    stands = stands;
  }

  module _ (one : HasOneKey m) (distinct : AreDistinct (keys vs)) (most limit : ℕ) (ends : Ends m vs most limit v)
      (room : length vs ≤ limit) where
    away : (j : ℕ) (u : Keyed) → slice_get vs j ≡ Some u → IsAway m s (key_of u) u.depth
    away j u e =
        let h = t.reached j u e in
        record {
          choices = h.choices;
          can = h.can;
          count = h.count;
          stands = h.stands;
          fewest = λ cs can stands. elim (covered_or v (length cs)) [
            | inl cover ↦
                let x = t.all cs can cover in
                let same : key_of u ≡ key_of x.visit = one (key_of u) (key_of x.visit) (after_choices m s cs) stands
                x.stands in
                let places : j ≡ x.place = distinct j x.place (key_of x.visit)
                (rw (map_at key_of vs j u e, same)) (map_at key_of vs x.place x.visit x.at) in
                let own : x.visit ≡ u = at-same vs x.place x.visit u x.at
                (rw (← places) e) in
                let depth : x.visit.depth ≡ u.depth = rw own in
                omega arith
            | inr far ↦ omega (arith, all_within m vs most limit v ends j u e)
          ];
        }

    counted : AreCounted m s (keys vs) v
    counted = record {
      distinct = distinct;
      reached = λ j key e. let (u, (at, is)) = at_map key_of vs j key e in
          (u.depth, (all_within m vs most limit v ends j u at, rw is at (away j u at)));
      all = λ cs can cover. let x = t.all cs can cover in among (after_choices m s cs) cs x.place x.visit x.at x.stands;
    }

    has_away : (depth : ℕ) → HasDepth vs depth → HasAway m s (keys vs) depth
    has_away depth h = record {
      place = h.place;
      key = key_of h.visit;
      at = map_at key_of vs h.place h.visit h.at;
      away = rw (← h.depth_is) (away h.place h.visit h.at);
    }

    one_more : (depth : ℕ) → HasMore m vs limit depth → HasOneMore m s (keys vs) (depth + 1)
    one_more depth h =
        let b = h.beyond in
        let r = t.reached h.place b.from b.at in
        let next = b.leads (after_choices m s r.choices) r.stands in
        record {
          choices = b.choice ∷ r.choices;
          can = (b.can, r.can);
          count = omega arith;
          none = λ x. b.absent x.place (rw (
            x.at,
            one x.key b.key (m.act (after_choices m s r.choices) b.choice)
                x.stands next.0,
          ));
        }

count_is : (vs : List Keyed) → length (keys vs) ≡ length vs
count_is vs = length-map vs key_of

module _ (m : Model) (s : m.State) (vs : List Keyed) (fs : List Found) (back : AreTraced (steps_of vs) fs)
    (one : HasOneKey m) (distinct : AreDistinct (keys vs)) (most limit : ℕ) (room : length vs ≤ limit) where
  end_is : (v : Extent) → Tells m s vs fs v → Ends m vs most limit v → IsEnd m s (keys vs) most limit v
  end_is (Closed depth) t ends =
      let n = count_is vs in
      (ends.0, (omega arith, has_away m s vs fs (Closed depth) t back one distinct most limit ends room depth ends.1.0))
  end_is (Within depth) t ends =
      let n = count_is vs in
      (ends.0, (omega arith, has_away m s vs fs (Within depth) t back one distinct most limit ends room depth ends.1.0))
  end_is (Stopped depth) t ends =
      let n = count_is vs in
      let full = ends.1.0.beyond.full in
      let more = one_more m s vs fs (Stopped depth) t back one distinct most limit ends room depth ends.1.0 in
      (ends.0, (omega arith, more))

  pub says : (v : Extent) (i c : ℕ) → IsRanked (steps_of vs) fs i c → Tells m s vs fs v → Ends m vs most limit v
      → AreDistinct (labels fs) → ((k : ℕ) (f : Found) → slice_get fs k ≡ Some f → f.label.items ≢ [])
      → IsTold m s most limit (witnesses_of v (steps_of vs) fs) (length vs) v
  says v i c ranked t ends names some = record {
    shown = was_shown m s vs fs v t back some;
    all = all_shown m s vs fs v t back;
    order = in_order m s vs fs v t back i c ranked;
    distinct = distinct_labels m s vs fs v t back names;
    keys = keys vs;
    count_is = count_is vs;
    counted = counted m s vs fs v t back one distinct most limit ends room;
    ends = end_is v t ends;
  }
