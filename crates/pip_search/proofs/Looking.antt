-- Where choices lead in a search that has closed.
use Rattle.std.proofs.Common.{◌≡◌, ℕ, ◌+◌, ◌*◌, ◌/◌, ◌%◌, ◌<◌, inl, inr, Bool, true, false, List, [], ◌∷◌, ◌++◌}
use Rattle.std.proofs.Common.{length, length-append, Some, slice_get, slice_index, ap, sym, subst, ◌∙◌, arith}
use Rattle.std.proofs.Math.ListN.{get_or-append}
use Rattle.std.proofs.Math.Seq.{get_or-append_seam}
use Rattle.std.proofs.lemmas.Bool.{cases_lt}
use Rattle.std.proofs.lemmas.Nat.{div-mul-add, mod-mul-add}
use Rattle.pip_search.specs.Again.{AreEdges, AreFlags, HasClosed, IsEdge, IsShownAmong, ShowsAt, ShowsOther}
use Rattle.pip_search.specs.Keys.{Keyed, key_of, visits_of}
use Rattle.pip_search.specs.Packing.{packed_key, unpacked_key}
use Rattle.pip_search.specs.Summary.{HasOneKey}
use Rattle.pip_search.specs.Systems.{IsKey, LeadsOn, Model}
use Rattle.pip_search.specs.Collapsing.{keys_in}
use Rattle.pip_search.specs.declared.searching.Search.{Search}
use Rattle.pip_search.proofs.Making.{at-same}
use Rattle.pip_search.proofs.Places.{get-back, get-below}
use Rattle.pip_search.proofs.Telling.{visit_key}
use Rattle.pip_search.proofs.Walking.{at_named, named_at}
use Rattle.pip_search.proofs.Steps.{all_bytes, visit_count}

module _ (m : Model) (start : List ℕ) (s : Search) (h : HasClosed m start s) where
  abbrev vs : List Keyed
  vs = visits_of s

  -- a visit's key stands for a state
  pub key_at : IsKey m start → (j : ℕ) (u : Keyed) → slice_get vs j ≡ Some u → IsKey m (key_of u)
  key_at key j u at = visit_key m start vs s.found.items h.end 0 h.searching.exploring key j u at

  -- whatever key a choice of a visit leads to, some visit keeps its bytes
  pub is_there : IsKey m start → HasOneKey m → (i c : ℕ) (u : Keyed) (next shown : List ℕ)
      → slice_get vs i ≡ Some u → c < m.choices → LeadsOn m (key_of u) c next shown
      → (j : ℕ) × (slice_get (keys_in s.store) j ≡ Some (packed_key next))
  is_there key one i c u next shown at low leads =
      let all = h.all in
      let count = visit_count s h.searching.keyed in
      let inside : i < length vs = get-below vs i u at in
      let w = h.searching.exploring.before i c (omega arith) low in
      let same : w.from ≡ u = at-same vs i w.from u w.at at in
      let (x, stands) = key_at key i u at in
      let there = (w.leads x (rw same stands)).0 in
      let is : key_of w.to ≡ next = one (key_of w.to) next (m.act x c) there (leads x stands).0 in (
        w.place,
        cc (
          all_bytes s h.searching.keyed,
          named_at (λ (v : Keyed). v.key) vs w.place w.to w.there,
          h.searching.kept
              w.place w.to w.there,
        ),
      )

  -- and that is where it leads
  pub edge_to : (c j : ℕ) (key bytes next shown : List ℕ) → slice_get (keys_in s.store) j ≡ Some bytes
      → unpacked_key bytes ≡ next → LeadsOn m key c next shown → IsEdge m vs key c j
  edge_to c j key bytes next shown at words leads =
      let (v, (there, own)) = at_named (λ (v : Keyed). v.key) vs j bytes
      (rw (all_bytes s h.searching.keyed, at)) in
      record {
        to = v;
        there = there;
        shown = shown;
        leads = rw (own, words) leads;
      }

-- ---- one edge more, and one flag

module _ (m : Model) (vs : List Keyed) (width : ℕ) where
  pub edges_more : (targets : List ℕ) (i c to : ℕ) (u : Keyed) → AreEdges m vs width targets
      → length targets ≡ i * width + c → c < width → slice_get vs i ≡ Some u → IsEdge m vs (key_of u) c to
      → AreEdges m vs width (targets ++ to ∷ [])
  edges_more targets i c to u all count low at edge e v within there = elim (cases_lt e (length targets)) [
    | inl old ↦ rw (get_or-append targets (to ∷ []) 0 e old) (all e v old there)
    | inr most ↦
        let long = length-append targets (to ∷ []) in
        let is : e ≡ i * width + c = omega arith in
        let row : e / width ≡ i = rw (is, div-mul-add i width c low) in
        let column : e % width ≡ c = rw (is, mod-mul-add i width c low) in
        let same : u ≡ v = at-same vs i u v at (rw (← row, there)) in
        let last : slice_index (targets ++ to ∷ []) e ≡ to = rw (is, ← count, get_or-append_seam targets to [] 0) in
        rw last (subst (λ k. IsEdge m vs (key_of v) k to) (sym column)
        (subst (λ w. IsEdge m vs (key_of w) c to) same edge))
  ]

  pub no_edges : (targets : List ℕ) → targets ≡ [] → AreEdges m vs width targets
  no_edges targets none e u low at = absurd (let z : length targets ≡ 0 = rw none in omega arith)

module _ (m : Model) (key label : List ℕ) where
  pub among_shown : (n : ℕ) (b : Bool) → IsShownAmong m key label n b → ShowsAt m key n label
      → IsShownAmong m key label (n + 1) true
  among_shown n b h now = (n, (omega arith, now))

  pub among_other : (n : ℕ) (b : Bool) → IsShownAmong m key label n b → ShowsOther m key n label
      → IsShownAmong m key label (n + 1) b
  among_other n true h now = (h.0, (omega arith, h.1.1))
  among_other n false h now = λ c low. elim (cases_lt c n) [
    | inl less ↦ h c less
    | inr most ↦ let is : c ≡ n = omega arith in rw is now
  ]

pub flags_more : (m : Model) (vs : List Keyed) (label : List ℕ) (width : ℕ) (flags : List Bool) (i : ℕ) (b : Bool)
    → AreFlags m vs label width flags → length flags ≡ i
    → ((u : Keyed) → slice_get vs i ≡ Some u → IsShownAmong m (key_of u) label width b)
    → AreFlags m vs label width (flags ++ b ∷ [])
flags_more m vs label width flags i b all count own j u d at is = elim (get-back flags b j d is) [
  | inl old ↦ all j u d at old
  | inr new ↦ rw new.1 (own u (ap (slice_get vs) (sym (new.0 ∙ count)) ∙ at))
]
