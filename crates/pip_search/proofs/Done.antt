-- The end of a search: what it says.
use Rattle.std.proofs.Common.{◌≡◌, ℕ, ◌-◌, ◌<◌, ◌≤◌, List, Some, get_or, length, slice_get, refl, subst, arith}
use Rattle.std.proofs.lemmas.Option.{slice_get_read}
use Rattle.std.specs.Prelude.{vec_len}
use Rattle.pip_search.specs.Again.{HasClosed}
use Rattle.pip_search.specs.Ending.{Ends, IsBeyond}
use Rattle.pip_search.specs.Keys.{HaveKeys, Keyed, keyed_visit, keys, labels, steps_of, visits_of}
use Rattle.pip_search.specs.Naming.{AreDistinct}
use Rattle.pip_search.specs.Reached.{Explains}
use Rattle.pip_search.specs.Searching.{IsSearching}
use Rattle.pip_search.specs.Summary.{HasOneKey, IsTold}
use Rattle.pip_search.specs.Systems.{Model}
use Rattle.pip_search.specs.Ways.{AreTraced, witnesses_of}
use Rattle.pip_search.specs.declared.searching.Search.{Search}
use Rattle.pip_search.specs.declared.searching.Extent.{Extent}
use Rattle.pip_search.specs.declared.searching.Extent.TheVariants.{Closed, Stopped, Within}
use Rattle.pip_search.specs.declared.visits.Visit.{Visit}
use Rattle.pip_search.proofs.Ending.{IsShallow, closed_ends, stopped_ends, within_ends}
use Rattle.pip_search.proofs.Keeping.{distinct_keys}
use Rattle.pip_search.proofs.Summing.{says}
use Rattle.pip_search.proofs.Telling.{closed_tells, stopped_tells, within_tells}
use Rattle.pip_search.proofs.Traced.{are_traced}
use Rattle.pip_search.proofs.Steps.{all_bytes, all_steps, visit_at, visit_count}

-- a visit that was read is the one at its place, and has a key
pub visit_read : (s : Search) (i : ℕ) (v : Visit) → HaveKeys s.visits.items s.store s.keys → i < vec_len s.visits
    → v ≡ get_or s.visits.items i v → (key : List ℕ) × (slice_get (visits_of s) i ≡ Some (keyed_visit key v))
visit_read s i v keyed low read = visit_at s keyed i v (slice_get_read s.visits.items (length s.visits.items) i v refl
    (omega arith) read)

-- what is promised of a search that has ended, whose system had this base before, and has that one now
abbrev pub IsDone : (m : Model) → List ℕ → Search → ℕ → ℕ → Extent → {B : Type 0} → B → B → Type 0
IsDone m start s most limit verdict old now = record {
  told : HasOneKey m → (x : m.State) → m.stands start x → IsTold m x most limit
      (witnesses_of verdict s.visits.items s.found.items) (length s.visits.items) verdict;
  keyed : steps_of (visits_of s) ≡ s.visits.items;
  explains : Explains m start (visits_of s) s.found.items verdict;
  ends : Ends m (visits_of s) most limit verdict;
  room : vec_len s.visits ≤ limit;
  distinct : AreDistinct (keys (visits_of s));
  labels : AreDistinct (labels s.found.items);
  traced : AreTraced s.visits.items s.found.items;
  closed : (depth : ℕ) → verdict ≡ Closed depth → HasClosed m start s;
  base : now ≡ old;
}

module _ {B : Type 0} {old now : B} {m : Model} {start : List ℕ} {s : Search} {i c most limit : ℕ}
    (base : now ≡ old) (h : IsSearching m start s i c) (room : vec_len s.visits ≤ limit) where
  -- all of it follows from what the search explains, and from why it ended
  done : (verdict : Extent) → Explains m start (visits_of s) s.found.items verdict
      → Ends m (visits_of s) most limit verdict → ((depth : ℕ) → verdict ≡ Closed depth → HasClosed m start s)
      → IsDone m start s most limit verdict old now
  done verdict explains ends closed =
      let vs = visits_of s in
      let steps = all_steps s h.keyed in
      let count = visit_count s h.keyed in
      let traced = are_traced m start vs s.found.items i c h.exploring in
      let distinct = distinct_keys vs h.kept (rw (all_bytes s h.keyed) h.keyed.named.distinct) in
      let few : length vs ≤ limit = omega arith in
      record {
        told = λ one x stands. rw steps at (subst (λ n. IsTold m x most limit
            (witnesses_of verdict (steps_of vs) s.found.items) n verdict) count
            (says m x vs s.found.items traced one distinct most limit few verdict i c h.ranked (explains x stands) ends
            h.told.distinct (λ k f e. (h.exploring.labels k f e).some)));
        keyed = steps;
        explains = explains;
        ends = ends;
        room = room;
        distinct = distinct;
        labels = h.told.distinct;
        traced = rw (← steps) traced;
        closed = closed;
        base = base;
      }

  -- visit i is as deep as was asked for
  pub within_done : (v : Keyed) → c ≡ 0 → slice_get (visits_of s) i ≡ Some v → IsShallow (visits_of s) i most
      → most ≤ v.depth → IsDone m start s most limit (Within v.depth) old now
  within_done v none at shallow deep =
      let vs = visits_of s in
      done (Within v.depth) (within_tells m start vs s.found.items i c h.exploring h.ranked v at v.depth refl)
      (within_ends m start vs s.found.items i c most limit h.exploring v at
      (rw none at h.ranked) shallow deep) (λ depth e. absurd (cc))

  -- a choice of visit i leads to a state for which there is no room
  pub stopped_done : (v : Keyed) → slice_get (visits_of s) i ≡ Some v → v.depth < most
      → IsBeyond m (visits_of s) limit i → IsDone m start s most limit (Stopped v.depth) old now
  stopped_done v at low beyond =
      let vs = visits_of s in
      done (Stopped v.depth) (stopped_tells m start vs s.found.items i c h.exploring h.ranked v at v.depth refl)
      (stopped_ends m start vs s.found.items i c most limit h.exploring v at low beyond) (λ depth e. absurd (cc))

  -- the choices of all visits were made, and the visit that was read at place j is the last
  pub closed_done : (v : Visit) (j : ℕ) → c ≡ 0 → vec_len s.visits ≤ i → j ≡ vec_len s.visits - 1
      → v ≡ get_or s.visits.items j v → IsShallow (visits_of s) i most
      → IsDone m start s most limit (Closed v.depth) old now
  closed_done v j first none last read shallow =
      let vs = visits_of s in
      let some = h.exploring.some in
      let count = visit_count s h.keyed in
      let place : j ≡ length vs - 1 = omega arith in
      let all : length s.visits.items ≤ i = omega arith in
      let whole : length vs ≤ i = omega arith in
      let (key, at) = visit_read s j v h.keyed (omega arith) read in
      done (Closed v.depth) (closed_tells m start vs s.found.items i c h.exploring h.ranked whole v.depth)
      (closed_ends m start vs s.found.items i c most limit h.exploring (keyed_visit key v)
      (simp (← place) at) shallow whole) (λ depth e. record {
        end = i;
        all = all;
        searching = rw (← first) h;
      })
