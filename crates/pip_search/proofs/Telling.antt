-- From what is known at the end of a search to the theorem.
use Rattle.std.proofs.Common.{◌≡◌, ◌≢◌, ℕ, zero, suc, ◌+◌, ◌<◌, ◌≤◌, ◌⊎◌, inl, inr, List, [], ◌∷◌, length, Some}
use Rattle.std.proofs.Common.{slice_get, refl, sym, subst, ◌∙◌, arith}
use Rattle.std.proofs.lemmas.Bool.{cases_lt}
use Rattle.pip_search.specs.Systems.{IsKey, Model, after_choices}
use Rattle.pip_search.specs.Began.{HasBegun, IsRoot}
use Rattle.pip_search.specs.Keys.{Keyed, key_of, step_of, steps_of}
use Rattle.pip_search.specs.Orders.{IsEarlier, IsNoLater, IsRanked, IsTrail}
use Rattle.pip_search.specs.Exploring.{IsExploring, IsVisit, WasMade}
use Rattle.pip_search.specs.Reached.{AreChoices, IsCovered, Explains, IsFoundBy, IsReached, IsShownBy, IsVisited, Tells}
use Rattle.pip_search.specs.declared.found.Found.{Found}
use Rattle.pip_search.specs.declared.searching.Extent.{Extent}
use Rattle.pip_search.specs.declared.searching.Extent.TheVariants.{Closed, Stopped, Within}
use Rattle.pip_search.specs.declared.visits.Visit.{Visit}
use Rattle.pip_search.proofs.Places.{get-below, get-some}
use Rattle.pip_search.proofs.Making.{at-same}
use Rattle.pip_search.proofs.Ranking.{earlier_no_later}
use Rattle.pip_search.proofs.Picking.{map_at}

-- ---- the beginning

begun_one : (m : Model) (start : List ℕ) (first : Keyed) → (key_of first) ≡ start → IsRoot (step_of first)
    → IsExploring m start (first ∷ []) [] 0 0
begun_one m start first key root = record {
  some = omega arith;
  before = λ j d a b. absurd (omega arith);
  here = λ d a. absurd (omega arith);
  visits = one;
  labels = λ k f e. absurd (cc);
  low = λ j u e. let d : u.depth ≡ 0 = zero_depth j u e in omega arith;
  order = λ j k u v le e f. let d : u.depth ≡ 0 = zero_depth j u e in omega arith;
  near = λ v j u e f. let d : u.depth ≡ 0 = zero_depth j u f in omega arith;
  soon = λ v k f e g. absurd (cc);
}
  where
    one : (j : ℕ) (u : Keyed) → slice_get (first ∷ []) j ≡ Some u → IsVisit m start (first ∷ []) j u
    one zero u e = let same : u ≡ first = cc in
        inl (record {
          zero_th = refl;
          key = rw (same, key);
          root = rw same root;
        })
    one (suc j) u e = absurd (cc)

    zero_depth : (j : ℕ) (u : Keyed) → slice_get (first ∷ []) j ≡ Some u → u.depth ≡ 0
    zero_depth zero u e = let same : u ≡ first = cc in rw (same, root.depth)
    zero_depth (suc j) u e = absurd (cc)

pub begun : (m : Model) (start : List ℕ) (vs : List Keyed) (fs : List Found) → HasBegun start vs fs
    → IsExploring m start vs fs 0 0
begun m start vs fs b = rw b.one (subst (λ y. IsExploring m start (b.first ∷ []) y 0 0) (sym b.none)
    (begun_one m start b.first b.key b.root))

-- ---- from one visit to the next

pub next_visit : (m : Model) (start : List ℕ) (vs : List Keyed) (fs : List Found) (i c : ℕ)
    → IsExploring m start vs fs i c → c ≡ m.choices → i < length vs → IsExploring m start vs fs (i + 1) 0
next_visit m start vs fs i c h e inside =
    let (v, at) = get-some vs i inside in
    record {
      some = h.some;
      before = λ j d a b. elim (below j a) [
        | inl less ↦ h.before j d less b
        | inr same ↦ rw same (h.here d (omega arith))
      ];
      here = λ d a. absurd (omega arith);
      visits = h.visits;
      labels = h.labels;
      low = h.low;
      order = h.order;
      near = λ w j u f g. let a = h.near v j u at g in let b : v.depth ≤ w.depth =
          h.order i (i + 1) v w (omega arith) at f in omega arith;
      soon = λ w k f g r. let a = h.soon v k f at r in let b : v.depth ≤ w.depth =
          h.order i (i + 1) v w (omega arith) at g in omega arith;
    }
  where
    below : (j : ℕ) → j < i + 1 → (j < i) ⊎ (j ≡ i)
    below j a = elim (cases_lt j i) [ inl less ↦ inl less | inr most ↦ inr (omega arith) ]

-- ---- what choices lead to each visit

module _ (m : Model) (start : List ℕ) (vs : List Keyed) (fs : List Found) (i c : ℕ)
    (h : IsExploring m start vs fs i c) (s : m.State) (stands : m.stands start s) where
  reach_step : (j : ℕ) (u : Keyed) → IsVisit m start vs j u
      → ((k : ℕ) (w : Keyed) → k < j → slice_get vs k ≡ Some w → IsReached m s (steps_of vs) k (key_of w) w.depth)
      → slice_get vs j ≡ Some u → IsReached m s (steps_of vs) j (key_of u) u.depth
  reach_step j u (inl first) before e = record {
    choices = [];
    trail = first.zero_th;
    can = tt;
    count = sym first.root.depth;
    stands = rw first.key stands;
  }
  reach_step j u (inr child) before e =
      let r = before u.parent child.from child.earlier child.at in
      let l = child.leads (after_choices m s r.choices) r.stands in
      record {
        choices = u.choice ∷ r.choices;
        trail = (omega arith, (step_of u, (map_at step_of vs j u e, (refl, r.trail))));
        can = (child.choice, r.can);
        count = omega arith;
        stands = l.0;
      }

  reach_from : (n j : ℕ) (u : Keyed) → j < n → slice_get vs j ≡ Some u
      → IsReached m s (steps_of vs) j (key_of u) u.depth
  reach_from zero j u a e = absurd (omega arith)
  reach_from (suc n) j u a e = reach_step j u (h.visits j u e) (λ k w b f. reach_from n k w (omega arith) f) e

  pub all_reached : (j : ℕ) (u : Keyed) → slice_get vs j ≡ Some u → IsReached m s (steps_of vs) j (key_of u) u.depth
  all_reached j u e = reach_from (suc j) j u (omega arith) e

  pub all_shown : (k : ℕ) (f : Found) → slice_get fs k ≡ Some f
      → IsShownBy m s (steps_of vs) f.at f.choice f.label.items f.depth
  all_shown k f e =
      let x = h.labels k f e in
      let r = all_reached f.at x.from x.at in
      let l = x.leads (after_choices m s r.choices) r.stands in
      record {
        choices = r.choices;
        trail = r.trail;
        can = (x.choice, r.can);
        count = omega arith;
        shown = l.1;
      }

-- each visit's key stands for a state
pub visit_key : (m : Model) (start : List ℕ) (vs : List Keyed) (fs : List Found) (i c : ℕ)
    → IsExploring m start vs fs i c → IsKey m start
    → (j : ℕ) (u : Keyed) → slice_get vs j ≡ Some u → IsKey m (key_of u)
visit_key m start vs fs i c h (s, stands) j u e = let r = all_reached m start vs fs i c h s stands j u e in
    (after_choices m s r.choices, r.stands)

-- ---- where all choices lead

-- that many choices lead to no visit that is still to be gone through
pub record Reaches (vs : List Keyed) (e : ℕ) (verdict : Extent) : Type 0 where
  pub within : (n j : ℕ) (u : Keyed) → slice_get vs j ≡ Some u → u.depth ≤ n → IsCovered verdict (n + 1) → j < e

module _ (m : Model) (start : List ℕ) (vs : List Keyed) (fs : List Found) (i c : ℕ)
    (h : IsExploring m start vs fs i c) (ranked : IsRanked (steps_of vs) fs i c) (verdict : Extent)
    (ends : Reaches vs i verdict) (down : (n : ℕ) → IsCovered verdict (n + 1) → IsCovered verdict n) (s : m.State)
    (stands : m.stands start s) where
  record Step (d : ℕ) (cs : List ℕ) : Type 0 where
    made : (j : ℕ) × WasMade m vs fs j d
    near : made.1.from.depth ≤ length cs
    here : m.stands (key_of made.1.from) (after_choices m s cs)
    way : List ℕ
    trail : IsTrail (steps_of vs) made.0 way
    first : IsNoLater way cs

  step : (d : ℕ) (cs : List ℕ) → d < m.choices → IsCovered verdict (length cs + 1)
      → IsVisited m vs (after_choices m s cs) cs → Step d cs
  step d cs a covers v =
      let w = h.before v.place d (ends.within (length cs) v.place v.visit v.at v.soon covers) a in
      let same : w.from ≡ v.visit = at-same vs v.place w.from v.visit w.at v.at in
      record {
        made = (v.place, w);
        near = let e : w.from.depth ≡ v.visit.depth = rw same in omega arith;
        here = rw same v.stands;
        way = v.way;
        trail = v.trail;
        first = v.first;
      }

  first_visit : IsVisited m vs s []
  first_visit =
      let (u, at) = get-some vs 0 h.some in
      elim (h.visits 0 u at) [
        | inl first ↦ record {
          place = 0;
          visit = u;
          at = at;
          soon = omega arith;
          stands = rw first.key stands;
          way = [];
          trail = refl;
          first = inl refl;
        }
        | inr child ↦ absurd (omega arith)
      ]

  -- the way of a visit to which a choice leads is no later than the choices that lead there
  way_first : (d : ℕ) (cs : List ℕ) (x : Step d cs) (ws : List ℕ) → IsTrail (steps_of vs) x.made.1.place ws
      → IsNoLater ws (d ∷ cs)
  way_first d cs x [] t = inr tt
  way_first d cs x (b ∷ ws) (some, (u, (at, (is, rest)))) =
      let w = x.made.1 in
      let same : step_of w.to ≡ u = at-same (steps_of vs) w.place (step_of w.to) u
      (map_at step_of vs w.place w.to w.there) at in
      elim w.early [
        | inl none ↦ absurd (omega arith)
        | inr early ↦ earlier_no_later (steps_of vs) fs i c ranked ws x.way cs u.parent b x.made.0 d
            (rw (← is) (subst (λ (y : Visit). IsEarlier y.parent y.choice x.made.0 (d + 1)) same early)) rest x.trail
            x.first
      ]

  pub all_visited : (cs : List ℕ) → AreChoices m cs → IsCovered verdict (length cs)
      → IsVisited m vs (after_choices m s cs) cs
  all_visited [] can covers = first_visit
  all_visited (d ∷ cs) (a, can) covers =
      let far : IsCovered verdict (length cs + 1) = subst (IsCovered verdict) (omega arith) covers in
      let x = step d cs a far (all_visited cs can (down (length cs) far)) in
      let w = x.made.1 in
      let r = all_reached m start vs fs i c h s stands w.place w.to w.there in
      record {
        place = w.place;
        visit = w.to;
        at = w.there;
        soon = omega arith;
        stands = (w.leads (after_choices m s cs) x.here).0;
        way = r.choices;
        trail = r.trail;
        first = way_first d cs x r.choices r.trail;
      }

  pub all_told : (d : ℕ) (cs : List ℕ) → AreChoices m (d ∷ cs) → IsCovered verdict (length cs + 1)
      → m.label (after_choices m s cs) d ≢ [] → IsFoundBy (steps_of vs) fs (m.label (after_choices m s cs) d) (d ∷ cs)
  all_told d cs (a, can) far some =
      let x = step d cs a far (all_visited cs can (down (length cs) far)) in
      let w = x.made.1 in
      let l : w.shown ≡ m.label (after_choices m s cs) d = (w.leads (after_choices m s cs) x.here).1 in
      let t = w.told (λ e. some (cc)) in
      let y = h.labels t.place t.found t.at in
      let r = all_reached m start vs fs i c h s stands t.found.at y.from y.at in
      record {
        way = r.choices;
        trail = r.trail;
        first = earlier_no_later (steps_of vs) fs i c ranked r.choices x.way cs
            t.found.at t.found.choice x.made.0 d t.early r.trail x.trail x.first;
        place = t.place;
        found = t.found;
        at = t.at;
        same = t.same ∙ l;
        soon = omega arith;
      }

  pub tells : Tells m s vs fs verdict
  tells = record {
    all = all_visited;
    told = all_told;
    reached = all_reached m start vs fs i c h s stands;
    shown = all_shown m start vs fs i c h s stands;
  }

-- ---- the ends

pub closed_tells : (m : Model) (start : List ℕ) (vs : List Keyed) (fs : List Found) (i c : ℕ)
    → IsExploring m start vs fs i c → IsRanked (steps_of vs) fs i c → length vs ≤ i → (depth : ℕ)
    → Explains m start vs fs (Closed depth)
closed_tells m start vs fs i c h ranked all depth s stands =
    tells m start vs fs i c h ranked (Closed depth)
    (record { within = λ n j u e a b. let k : j < length vs = get-below vs j u e in omega arith }) (λ n a. tt) s
    stands

module _ (m : Model) (start : List ℕ) (vs : List Keyed) (fs : List Found) (i c : ℕ)
    (h : IsExploring m start vs fs i c) (ranked : IsRanked (steps_of vs) fs i c) (v : Keyed)
    (at : slice_get vs i ≡ Some v) (depth : ℕ) (is : depth ≡ v.depth) where
  inside : (n j : ℕ) (u : Keyed) → slice_get vs j ≡ Some u → u.depth ≤ n → n + 1 ≤ depth → j < i
  inside n j u e a b = elim (cases_lt j i)
      [ inl less ↦ less | inr late ↦ let o : v.depth ≤ u.depth = h.order i j v u late at e in absurd (omega arith) ]

  pub within_tells : Explains m start vs fs (Within depth)
  within_tells s stands = tells m start vs fs i c h ranked (Within depth) (record { within = inside })
      (λ n a. omega arith) s stands

  pub stopped_tells : Explains m start vs fs (Stopped depth)
  stopped_tells s stands = tells m start vs fs i c h ranked (Stopped depth) (record { within = inside })
      (λ n a. omega arith) s stands
