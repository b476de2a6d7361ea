-- From marks that are spread against the edges of visits to what can come again.
use Rattle.std.proofs.Common.{◌≡◌, ℕ, zero, suc, ◌+◌, ◌*◌, ◌/◌, ◌%◌, ◌<◌, ◌≤◌, Bool, true, false, List, []}
use Rattle.std.proofs.Common.{◌∷◌, ◌++◌, length, Some, slice_get, slice_index, refl, ap, sym, ◌∙◌, arith}
use Rattle.std.proofs.lemmas.Nat.{div-mul-add, mod-mul-add, mul-add-lt}
use Rattle.std.specs.List.{AllByRecursion}
use Rattle.pip_search.specs.Again.{AreEdges, AreFlags, CanComeAgain, CanStillCome, HasClosed, IsEdge, IsLost}
use Rattle.pip_search.specs.Graphs.{AreFollowed, IsMarked, LeadsToMarked, place_after}
use Rattle.pip_search.specs.Keys.{Keyed, key_of, visits_of}
use Rattle.pip_search.specs.Summary.{IsShownOn}
use Rattle.pip_search.specs.Systems.{Model, after_choices}
use Rattle.pip_search.specs.Ways.{way_to}
use Rattle.pip_search.specs.declared.searching.Search.{Search}
use Rattle.pip_search.proofs.Places.{get-below, get-some}
use Rattle.pip_search.proofs.Placing.{none_before, way_there, wherever}

-- ---- a choice before others

after_first : (m : Model) (s : m.State) (cs : List ℕ) (c : ℕ)
    → after_choices m s (cs ++ c ∷ []) ≡ after_choices m (m.act s c) cs
after_first m s [] c = refl
after_first m s (d ∷ cs) c = rw (after_first m s cs c)

with_first : (P : ℕ → Type 0) (cs : List ℕ) (c : ℕ) → AllByRecursion P cs → P c → AllByRecursion P (cs ++ c ∷ [])
with_first P [] c h k = (k, tt)
with_first P (d ∷ cs) c h k = (h.0, with_first P cs c h.1 k)

module _ (m : Model) (vs : List Keyed) (label : List ℕ) (width : ℕ) (can : width ≤ m.choices) (targets : List ℕ)
    (flags marks : List Bool) (edges : AreEdges m vs width targets) (own : AreFlags m vs label width flags)
    (count : length targets ≡ length vs * width) (places : length flags ≡ length vs)
    (rows : length marks ≡ length vs)
    (sound : (j : ℕ) → IsMarked marks j → LeadsToMarked targets width flags j)
    (keeps : (j : ℕ) → IsMarked flags j → IsMarked marks j)
    (closed : (k : ℕ) → IsMarked marks k → AreFollowed targets width marks k) where
  -- where a choice of a visit leads
  edge_of : (j c : ℕ) (u : Keyed) → slice_get vs j ≡ Some u → c < width
      → IsEdge m vs (key_of u) c (slice_index targets (j * width + c))
  edge_of j c u at low =
      let inside : j < length vs = get-below vs j u at in
      let within : j * width + c < width * length vs = mul-add-lt j width c (length vs) inside low in
      let few : j * width + c < length targets = omega arith in
      let row : (j * width + c) / width ≡ j = div-mul-add j width c low in
      let column : (j * width + c) % width ≡ c = mod-mul-add j width c low in
      rw column at (edges (j * width + c) u few (ap (slice_get vs) row ∙ at))

  -- from the states of a marked visit the label can come
  comes : (cs : List ℕ) (j : ℕ) (u : Keyed) (s : m.State) → slice_get vs j ≡ Some u → m.stands (key_of u) s
      → AllByRecursion (λ c. c < width) cs → IsMarked flags (place_after targets width j cs)
      → CanStillCome m width s label
  comes [] j u s at stands all marked =
      let (c, (low, shows)) = own j u true at marked in
      (c ∷ [], (low, tt), ((omega arith, tt), sym (shows s stands)))
  comes (c ∷ cs) j u s at stands all marked =
      let e = edge_of j c u at all.0 in
      let (ds, low, shown) = comes cs (slice_index targets (j * width + c)) e.to (m.act s c) e.there
      (e.leads s stands).0 all.1 marked in
      (ds ++ c ∷ [], with_first (λ k. k < width) ds c low all.0, go ds shown all.0)
    where
      go : (ds : List ℕ) → IsShownOn m (m.act s c) label ds → c < width → IsShownOn m s label (ds ++ c ∷ [])
      go [] shown low = absurd shown
      go (d ∷ ds) shown low = (
        (shown.0.0, with_first (λ k. k < m.choices) ds c shown.0.1 (omega arith)),
        rw (shown.1, ← after_first m s ds c),
      )

  pub marked_comes : (j : ℕ) (u : Keyed) (s : m.State) → slice_get vs j ≡ Some u → m.stands (key_of u) s
      → IsMarked marks j → CanStillCome m width s label
  marked_comes j u s at stands marked =
      let p = sound j marked in
      comes p.edges j u s at stands p.are p.marked

  -- a state is that of a visit without a mark
  record IsStuck (s : m.State) : Type 0 where
    place : ℕ
    visit : Keyed
    at : slice_get vs place ≡ Some visit
    stands : m.stands (key_of visit) s
    unmarked : slice_get marks place ≡ Some false

  contrary : {A : Type 0} (k : ℕ) → IsMarked marks k → slice_get marks k ≡ Some false → A
  contrary k h e = absurd (different (cc))
    where
      different : Some true ≡ Some false → ⊥
      different d = cc

  has_mark : (k : ℕ) (v : Keyed) → slice_get vs k ≡ Some v → (IsMarked marks k → ⊥) → slice_get marks k ≡ Some false
  has_mark k v at none =
      let inside : k < length vs = get-below vs k v at in
      let (b, is) = get-some marks k (omega arith) in
      go b is
    where
      go : (b : Bool) → slice_get marks k ≡ Some b → slice_get marks k ≡ Some false
      go true e = absurd (none e)
      go false e = e

  reads : (xs : List ℕ) (i : ℕ) → i < length xs → slice_get xs i ≡ Some (slice_index xs i)
  reads [] i low = absurd (omega arith)
  reads (x ∷ xs) zero low = refl
  reads (x ∷ xs) (suc i) low = reads xs i (omega arith)

  -- by the first choices it stays so
  stuck_on : (s : m.State) (c : ℕ) → IsStuck s → c < width → IsStuck (m.act s c)
  stuck_on s c h low =
      let e = edge_of h.place c h.visit h.at low in
      let n = h.place * width + c in
      let inside : h.place < length vs = get-below vs h.place h.visit h.at in
      let within : n < width * length vs = mul-add-lt h.place width c (length vs) inside low in
      let few : n < length targets = omega arith in
      let row : n / width ≡ h.place = div-mul-add h.place width c low in
      record {
        place = slice_index targets n;
        visit = e.to;
        at = e.there;
        stands = (e.leads s h.stands).0;
        unmarked = has_mark (slice_index targets n) e.to e.there (λ marked. contrary h.place
            (rw (← row) (closed (slice_index targets n) marked n (reads targets n few))) h.unmarked);
      }

  stuck_after : (s : m.State) (cs : List ℕ) → IsStuck s → AllByRecursion (λ c. c < width) cs
      → IsStuck (after_choices m s cs)
  stuck_after s [] h all = h
  stuck_after s (c ∷ cs) h all = stuck_on (after_choices m s cs) c (stuck_after s cs h all.1) all.0

  pub unmarked_lost : (j : ℕ) (u : Keyed) (s : m.State) → slice_get vs j ≡ Some u → m.stands (key_of u) s
      → slice_get marks j ≡ Some false → CanStillCome m width s label → ⊥
  unmarked_lost j u s at stands none ([], all, shown) = shown
  unmarked_lost j u s at stands none (c ∷ cs, all, shown) =
      let h = stuck_after s cs (record { place = j; visit = u; at = at; stands = stands; unmarked = none }) all.1 in
      let inside : h.place < length vs = get-below vs h.place h.visit h.at in
      let (b, is) = get-some flags h.place (omega arith) in
      go h b is (sym shown.1)
    where
      go : (h : IsStuck (after_choices m s cs)) (b : Bool) → slice_get flags h.place ≡ Some b
          → m.label (after_choices m s cs) c ≡ label → ⊥
      go h true is same = contrary h.place (keeps h.place is) h.unmarked
      go h false is same = own h.place h.visit false h.at is c all.0 (after_choices m s cs) h.stands same

-- ---- what is said of a search

module _ (m : Model) (start : List ℕ) (z : Search) (h : HasClosed m start z) (label : List ℕ) (width : ℕ)
    (marks : List Bool) (rows : length marks ≡ length (visits_of z))
    (lasts : (j : ℕ) (u : Keyed) (s : m.State) → slice_get (visits_of z) j ≡ Some u → m.stands (key_of u) s
    → IsMarked marks j → CanStillCome m width s label)
    (ends : (j : ℕ) (u : Keyed) (s : m.State) → slice_get (visits_of z) j ≡ Some u → m.stands (key_of u) s
    → slice_get marks j ≡ Some false → CanStillCome m width s label → ⊥)
    (x : m.State) (stands : m.stands start x) where
  abbrev vs : List Keyed
  vs = visits_of z

  -- all are marked
  pub comes_again : ((j : ℕ) → j < length marks → IsMarked marks j) → CanComeAgain m width x label
  comes_again all = wherever m start z h x stands (λ s. CanStillCome m width s label) (λ j u s at own.
      lasts j u s at own (all j (omega (arith, get-below vs j u at))))

  -- this one isn't, and all before it are
  pub is_lost : (j : ℕ) → slice_get marks j ≡ Some false → ((k : ℕ) → k < j → IsMarked marks k)
      → IsLost m width x label (way_to z.visits.items j)
  is_lost j none before =
      let low : j < length marks = get-below marks j false none in
      let (u, at) = get-some vs j (omega arith) in
      let (can, own) = way_there m start z h x stands j u at in
      record {
        can = can;
        lost = ends j u (after_choices m x (way_to z.visits.items j)) at own none;
        first = none_before m start z h x stands j u at (λ s. CanStillCome m width s label)
            (λ k v s less there is. lasts k v s there is (before k less));
      }
