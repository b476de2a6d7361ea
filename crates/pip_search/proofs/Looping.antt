-- From what was checked of orders and of loops to what is said.
use Rattle.std.proofs.Common.{◌≡◌, ℕ, zero, suc, ◌+◌, ◌*◌, ◌/◌, ◌%◌, ◌^◌, ◌<◌, ◌≤◌, inl, inr, List, [], ◌∷◌}
use Rattle.std.proofs.Common.{◌++◌, length, Some, reverse, slice_get, slice_index, refl, ap, sym, subst, ◌∙◌, arith}
use Rattle.std.proofs.lemmas.List.{length-reverse, reverse-append}
use Rattle.std.proofs.lemmas.Bool.{cases_lt}
use Rattle.std.proofs.lemmas.Nat.{div-mul-add, div_below, mod-mul-add, mul-add-lt}
use Rattle.std.proofs.Math.ListN.{get_or-append}
use Rattle.std.proofs.Math.Seq.{get_or-append_seam}
use Rattle.std.proofs.Common.{length-append, Bool, true, false, Result, Ok, Err, IfOk}
use Rattle.pip_search.specs.Again.{HasClosed, IsEdge, ShowsAt, ShowsOther}
use Rattle.pip_search.specs.Comes.{AreCutEdges, AreFalling, GoesDown, HasEach, IsAvoided, IsCutEdge, IsHidden}
use Rattle.pip_search.specs.Comes.{ComingHolds, IsWalk, PassesRanks, rank_at, times_over}
use Rattle.pip_search.specs.Keys.{Keyed, key_of, step_of, steps_of, visits_of}
use Rattle.pip_search.specs.Reached.{AreChoices, Tells}
use Rattle.pip_search.specs.Stages.{LeadInside, IsSaidBy, IsRankedOrLooped}
use Rattle.pip_search.specs.Systems.{Model, after_choices}
use Rattle.pip_search.specs.Ways.{way_to}
use Rattle.pip_search.specs.declared.searching.Search.{Search}
use Rattle.pip_search.specs.declared.searching.Extent.TheVariants.{Closed}
use Rattle.pip_search.specs.declared.coming.Coming.{Coming}
use Rattle.pip_search.specs.declared.coming.Coming.TheVariants as C
use Rattle.pip_search.specs.declared.stages.Settled.{Settled}
use Rattle.pip_search.specs.declared.stages.Settled.TheVariants.{Looped, Ranked}
use Rattle.pip_search.proofs.Falling.{after_both, must_come}
use Rattle.pip_search.proofs.Making.{at-same}
use Rattle.pip_search.proofs.Picking.{map_at}
use Rattle.pip_search.proofs.Places.{get-below, get-more, get-new, get-some}
use Rattle.pip_search.proofs.Ranking.{trail_same}
use Rattle.pip_search.proofs.Steps.{all_steps, visit_count}
use Rattle.pip_search.proofs.Telling.{closed_tells}
use Rattle.pip_search.proofs.Traced.{are_traced}
use Rattle.pip_search.proofs.Tracing.{way_trail}

-- ---- choices that are cut, one more

module _ (m : Model) (vs : List Keyed) (label : List ℕ) (width : ℕ) where
  pub cut_more : (targets : List ℕ) (i c to : ℕ) (u : Keyed) → AreCutEdges m vs label width targets
      → length targets ≡ i * width + c → c < width → slice_get vs i ≡ Some u → IsCutEdge m vs (key_of u) c label to
      → AreCutEdges m vs label width (targets ++ to ∷ [])
  cut_more targets i c to u all count low at edge e v within there = elim (cases_lt e (length targets)) [
    | inl old ↦ rw (get_or-append targets (to ∷ []) 0 e old) (all e v old there)
    | inr most ↦
        let long = length-append targets (to ∷ []) in
        let is : e ≡ i * width + c = omega arith in
        let row : e / width ≡ i = rw (is, div-mul-add i width c low) in
        let column : e % width ≡ c = rw (is, mod-mul-add i width c low) in
        let same : u ≡ v = at-same vs i u v at (rw (← row, there)) in
        let last : slice_index (targets ++ to ∷ []) e ≡ to = rw (is, ← count, get_or-append_seam targets to [] 0) in
        rw last (subst (λ k. IsCutEdge m vs (key_of v) k label to) (sym column)
        (subst (λ w. IsCutEdge m vs (key_of w) c label to) same edge))
  ]

  pub none_cut : (targets : List ℕ) → targets ≡ [] → AreCutEdges m vs label width targets
  none_cut targets none e u low at = absurd (let z : length targets ≡ 0 = rw none in omega arith)

-- ---- choices that pass

module _ (m : Model) (vs : List Keyed) (label targets : List ℕ) (cut : AreCutEdges m vs label m.choices targets)
    (few : length vs < 2 ^ 32) where
  pub are_falling : (classes ranks helpers : List ℕ) (columns : ℕ) → length targets ≡ length vs * m.choices
      → ((e : ℕ) → e < length targets → PassesRanks classes ranks helpers columns m.choices targets e)
      → AreFalling m vs label classes ranks helpers columns
  are_falling classes ranks helpers columns count passed j c u at low =
      let width = m.choices in
      let e = j * width + c in
      let inside : j < length vs = get-below vs j u at in
      let within : e < width * length vs = mul-add-lt j width c (length vs) inside low in
      let less : e < length targets = omega arith in
      let row : e / width ≡ j = div-mul-add j width c low in
      let column : e % width ≡ c = mod-mul-add j width c low in
      let own : IsCutEdge m vs (key_of u) c label (slice_index targets e) =
      rw column at (cut e u less (ap (slice_get vs) row ∙ at)) in
      let pass = passed e less in
      record {
        ready = rw (← row) pass.ready;
        down = elim own [
          | inl shows ↦ inl shows.1
          | inr edge ↦ elim pass.down [
            | inl end ↦ absurd (let low : slice_index targets e < length vs = get-below vs (slice_index targets e)
                edge.0.to edge.0.there in omega arith)
            | inr goes ↦ inr (
              slice_index targets e,
              (
                edge.0,
                rw row at (subst (λ k. GoesDown classes ranks helpers columns (e / width) k (slice_index targets e))
                    column goes),
              ),
            )
          ]
        ];
      }

  -- each leads to a visit, if it isn't cut
  pub are_inside : (count : ℕ) → length vs ≡ count → length targets ≡ length vs * m.choices → 0 < m.choices
      → LeadInside targets count
  are_inside count is long some e low =
      let first : e / m.choices < length vs = div_below e m.choices (length vs) some (omega arith) in
      let (u, at) = get-some vs (e / m.choices) first in
      elim (cut e u low at) [
        | inl shows ↦ inl shows.0
        | inr edge ↦ inr (let to = get-below vs (slice_index targets e) edge.0.to edge.0.there in omega arith)
      ]

  -- ---- walks

  record IsWalked (s : m.State) (cs : List ℕ) (k : ℕ) : Type 0 where
    visit : Keyed
    at : slice_get vs k ≡ Some visit
    stands : m.stands (key_of visit) (after_choices m s cs)
    can : AreChoices m cs
    hidden : IsHidden m s label cs

  walked : (j : ℕ) (u : Keyed) (s : m.State) (cs : List ℕ) (k : ℕ) → slice_get vs j ≡ Some u → m.stands (key_of u) s
      → IsWalk targets m.choices j cs k → IsWalked s cs k
  walked j u s [] k at stands walk = record {
    visit = u;
    at = rw walk at;
    stands = stands;
    can = tt;
    hidden = tt;
  }
  walked j u s (c ∷ cs) k at stands (i, (before, (low, (less, (is, ne))))) =
      let width = m.choices in
      let p = walked j u s cs i at stands before in
      let e = i * width + c in
      let row : e / width ≡ i = div-mul-add i width c low in
      let column : e % width ≡ c = mod-mul-add i width c low in
      let own : IsCutEdge m vs (key_of p.visit) c label k =
      rw (← is) (subst (λ d. IsCutEdge m vs (key_of p.visit) d label (slice_index targets e)) column
      (cut e p.visit less (ap (slice_get vs) row ∙ p.at))) in
      elim own [
        | inl shows ↦ absurd (ne shows.0)
        | inr edge ↦ record {
          visit = edge.0.to;
          at = edge.0.there;
          stands = (edge.0.leads (after_choices m s cs) p.stands).0;
          can = (low, p.can);
          hidden = (edge.1 (after_choices m s cs) p.stands, p.hidden);
        }
      ]

  hidden_append : (s : m.State) (cs ds : List ℕ) → IsHidden m s label ds
      → IsHidden m (after_choices m s ds) label cs → IsHidden m s label (cs ++ ds)
  hidden_append s [] ds h k = h
  hidden_append s (c ∷ cs) ds h k = (
    rw (after_both m s cs ds) k.0,
    hidden_append s cs ds h k.1,
  )

  -- over and over
  over : (j : ℕ) (u : Keyed) (s : m.State) (cs : List ℕ) → slice_get vs j ≡ Some u → m.stands (key_of u) s
      → IsWalk targets m.choices j cs j → (n : ℕ) → m.stands (key_of u) (after_choices m s (times_over n cs))
      × IsHidden m s label (times_over n cs)
  over j u s cs at stands walk zero = (stands, tt)
  over j u s cs at stands walk (suc n) =
      let (there, hidden) = over j u s cs at stands walk n in
      let w = walked j u (after_choices m s (times_over n cs)) cs j at there walk in
      let same : w.visit ≡ u = at-same vs j w.visit u w.at at in (
        rw (after_both m s cs (times_over n cs)) (subst
            (λ v. m.stands (key_of v) (after_choices m (after_choices m s (times_over n cs)) cs)) same w.stands),
        hidden_append s cs (times_over n cs) hidden w.hidden,
      )

  pub goes_round : (j : ℕ) (u : Keyed) (s : m.State) (cs : List ℕ) → slice_get vs j ≡ Some u → m.stands (key_of u) s
      → IsWalk targets m.choices j cs j → AreChoices m cs × ((n : ℕ) → IsHidden m s label (times_over n cs))
  goes_round j u s cs at stands walk =
      ((walked j u s cs j at stands walk).can, λ n. (over j u s cs at stands walk n).1)

-- ---- in the other order

pub in_reverse : (xs : List ℕ) (p x : ℕ) → slice_get xs p ≡ Some x → (q : ℕ) × (slice_get (reverse xs) q ≡ Some x)
in_reverse [] p x e = absurd cc
in_reverse (y ∷ xs) zero x e = let same : y ≡ x = cc in (
  length (reverse xs),
  rw (reverse-append (y ∷ []) xs, get-new (reverse xs) y, same),
)
in_reverse (y ∷ xs) (suc p) x e =
    let (q, at) = in_reverse xs p x e in
    (q, rw (reverse-append (y ∷ []) xs, get-more (reverse xs) (y ∷ []) q x at))

each_reverse : (classes cs : List ℕ) → HasEach classes cs → HasEach classes (reverse cs)
each_reverse classes cs each c some =
    let h = each c some in
    let (q, at) = in_reverse cs h.place h.choice h.at in
    search

-- ---- what is said of a search

pub is_avoided : (m : Model) (start : List ℕ) (z : Search) → HasClosed m start z → (label classes targets : List ℕ)
    → AreCutEdges m (visits_of z) label m.choices targets → length (visits_of z) < 2 ^ 32 → (j : ℕ)
    → j < length (visits_of z) → (cs : List ℕ) → IsWalk targets m.choices j (reverse cs) j → 0 < length cs
    → HasEach classes cs → (x : m.State) → m.stands start x
    → IsAvoided m classes x label (way_to z.visits.items j) (reverse cs)
is_avoided m start z h label classes targets cut few j low cs walk some each x stands =
    let vs = visits_of z in
    let count = visit_count z h.searching.keyed in
    let all = h.all in
    let t : Tells m x vs z.found.items (Closed 0) = closed_tells m start vs z.found.items h.end 0
    h.searching.exploring h.searching.ranked (omega arith) 0 x stands in
    let (u, at) = get-some vs j low in
    let r = t.reached j u at in
    let traced = are_traced m start vs z.found.items h.end 0 h.searching.exploring in
    let trail = (way_trail (steps_of vs) z.found.items traced (suc j) j (step_of u) (omega arith)
    (map_at step_of vs j u at)).0 in
    let same : r.choices ≡ way_to (steps_of vs) j = trail_same (steps_of vs) r.choices (way_to (steps_of vs) j) j
    r.trail trail in
    let is : r.choices ≡ way_to z.visits.items j = rw (same, all_steps z h.searching.keyed) in
    let (on, never) = goes_round m vs label targets cut few j u (after_choices m x r.choices)
    (reverse cs) at r.stands walk in
    let long = length-reverse cs in
    record {
      can = rw (← is) r.can;
      on = on;
      some = omega arith;
      each = each_reverse classes cs each;
      never = rw (← is) never;
    }

-- ---- what stages say

pub is_settled : (m : Model) (start : List ℕ) (z : Search) → HasClosed m start z → (label classes targets : List ℕ)
    → AreCutEdges m (visits_of z) label m.choices targets → length (visits_of z) < 2 ^ 32
    → length targets ≡ length (visits_of z) * m.choices → 0 < m.choices → (columns : ℕ) (settled : Settled)
    (said : Coming) → IsRankedOrLooped targets classes columns m.choices (length (visits_of z)) settled
    → IsSaidBy columns settled said → (x : m.State) → m.stands start x
    → ComingHolds m classes x label z.visits.items said
is_settled m start z h label classes targets cut few count some columns (Ranked ranks helpers) (C.Within counts) passed
    (long, low) x stands =
    let falling : AreFalling m (visits_of z) label classes ranks.items helpers.items (length counts.items) =
    rw long (are_falling m (visits_of z) label targets cut few classes ranks.items helpers.items columns count passed)
    in
    let below : (j d : ℕ) → d < length counts.items → rank_at ranks.items (length counts.items) j d
    ≤ slice_index counts.items d = rw long low in
    must_come m start z h label classes ranks.items helpers.items counts.items some falling below x stands
is_settled m start z h label classes targets cut few count some columns (Ranked ranks helpers) (C.Avoided place choices)
    passed said x stands = absurd said
is_settled m start z h label classes targets cut few count some columns (Looped place choices) (C.Within counts) passed
    said x stands = absurd said
is_settled m start z h label classes targets cut few count some columns (Looped place choices) (C.Avoided at over)
    passed
    (is, same) x stands =
    let all = visit_count z h.searching.keyed in
    let inside = passed.inside in
    rw (is, same) (
      omega arith,
      is_avoided m start z h label classes targets cut few place inside choices.items passed.walk passed.some
          passed.each
          x stands,
    )

pub said_after : {E : Type 0} (m : Model) (start : List ℕ) (z : Search) → HasClosed m start z
    → (label classes targets : List ℕ) → AreCutEdges m (visits_of z) label m.choices targets
    → length (visits_of z) < 2 ^ 32 → length targets ≡ length (visits_of z) * m.choices → 0 < m.choices
    → (columns : ℕ) (settled : Settled) → IsRankedOrLooped targets classes columns m.choices (length (visits_of z))
    settled
    → (r : Result Coming E) → IfOk r (λ said. IsSaidBy columns settled said)
    → IfOk r (λ said. (x : m.State) → m.stands start x → ComingHolds m classes x label z.visits.items said)
said_after m start z h label classes targets cut few count some columns settled passed (Ok said) by = λ x stands.
    is_settled m start z h label classes targets cut few count some columns settled said passed by x stands
said_after m start z h label classes targets cut few count some columns settled passed (Err e) by = by

-- ---- what is put in place of a visit

pub cut_is : (m : Model) (vs : List Keyed) (key label : List ℕ) (c to t : ℕ) (b : Bool) → IsEdge m vs key c to
    → (b ≡ true → ShowsAt m key c label) → (b ≡ false → ShowsOther m key c label) → (b ≡ true → t ≡ 0xffffffff)
    → (b ≡ false → t ≡ to) → IsCutEdge m vs key c label t
cut_is m vs key label c to t true edge shows other end here = inl (end refl, shows refl)
cut_is m vs key label c to t false edge shows other end here =
    inr (rw (here refl) edge, other refl)

-- ---- one choice of a walk more
