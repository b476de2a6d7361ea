-- Visits of a search that has closed, and what is true of the states for which their keys stand.
use Rattle.std.proofs.Common.{◌≡◌, ℕ, suc, ◌<◌, ◌≤◌, inl, inr, List, Some, slice_get, sym, subst, arith}
use Rattle.std.proofs.lemmas.Bool.{cases_eq, cases_lt}
use Rattle.pip_search.specs.Again.{HasClosed}
use Rattle.pip_search.specs.Keys.{Keyed, key_of, step_of, steps_of, visits_of}
use Rattle.pip_search.specs.Orders.{IsNoLater, IsTrail}
use Rattle.pip_search.specs.Reached.{AreChoices, Tells}
use Rattle.pip_search.specs.Systems.{Model, after_choices}
use Rattle.pip_search.specs.Ways.{way_to}
use Rattle.pip_search.specs.declared.searching.Search.{Search}
use Rattle.pip_search.specs.declared.searching.Extent.TheVariants.{Closed}
use Rattle.pip_search.proofs.Picking.{map_at}
use Rattle.pip_search.proofs.Ranking.{before_trans, trail_before, trail_same}
use Rattle.pip_search.proofs.Steps.{all_steps, visit_count}
use Rattle.pip_search.proofs.Telling.{closed_tells}
use Rattle.pip_search.proofs.Traced.{are_traced}
use Rattle.pip_search.proofs.Tracing.{way_trail}

module _ (m : Model) (start : List ℕ) (z : Search) (h : HasClosed m start z) (x : m.State)
    (stands : m.stands start x) where
  abbrev vs : List Keyed
  vs = visits_of z

  tells_all : Tells m x vs z.found.items (Closed 0)
  tells_all = closed_tells m start vs z.found.items h.end 0 h.searching.exploring h.searching.ranked
      (omega (arith, visit_count z h.searching.keyed)) 0 x stands

  -- what is true of the states of all visits is true wherever choices lead
  pub wherever : (P : m.State → Type 0)
      → ((j : ℕ) (u : Keyed) (s : m.State) → slice_get vs j ≡ Some u → m.stands (key_of u) s → P s)
      → (cs : List ℕ) → AreChoices m cs → P (after_choices m x cs)
  wherever P all cs can = let v = tells_all.all cs can tt in all v.place v.visit (after_choices m x cs) v.at v.stands

  module _ (j : ℕ) (u : Keyed) (at : slice_get vs j ≡ Some u) where
    trail : IsTrail (steps_of vs) j (way_to (steps_of vs) j)
    trail = (way_trail (steps_of vs) z.found.items
        (are_traced m start vs z.found.items h.end 0 h.searching.exploring) (suc j) j (step_of u) (omega arith)
        (map_at step_of vs j u at)).0

    -- the way to a visit leads to a state of its key
    pub way_there : AreChoices m (way_to z.visits.items j)
        × m.stands (key_of u) (after_choices m x (way_to z.visits.items j))
    way_there =
        let r = tells_all.reached j u at in
        let same : r.choices ≡ way_to (steps_of vs) j = trail_same (steps_of vs) r.choices (way_to (steps_of vs) j) j
        r.trail trail in
        rw (← all_steps z h.searching.keyed) (subst
        (λ cs. AreChoices m cs × m.stands (key_of u) (after_choices m x cs)) same (r.can, r.stands))

    -- choices that lead to a state of which something isn't true come no earlier, if it is true of all visits before
    pub none_before : (P : m.State → Type 0)
        → ((k : ℕ) (v : Keyed) (s : m.State) → k < j → slice_get vs k ≡ Some v → m.stands (key_of v) s → P s)
        → (cs : List ℕ) → AreChoices m cs → (P (after_choices m x cs) → ⊥) → IsNoLater (way_to z.visits.items j) cs
    none_before P before cs can off = rw (← all_steps z h.searching.keyed)
        (let v = tells_all.all cs can tt in later v.place v.way v.trail v.first
        (elim (cases_lt v.place j) [
          | inl less ↦ absurd
              (off (before v.place v.visit (after_choices m x cs) less v.at v.stands))
          | inr most ↦ most
        ]))
      where
        later : (k : ℕ) (way : List ℕ) → IsTrail (steps_of vs) k way → IsNoLater way cs → j ≤ k
            → IsNoLater (way_to (steps_of vs) j) cs
        later k way other first le = elim (cases_eq j k) [
          | inl same ↦ rw (← trail_same (steps_of vs) way (way_to (steps_of vs) j) j
              (subst (λ i. IsTrail (steps_of vs) i way) (sym same) other) trail) first
          | inr far ↦
              let b = trail_before (steps_of vs) z.found.items h.end 0 h.searching.ranked (way_to (steps_of vs) j) way j
              k (omega arith) trail other in
              elim first [
                | inl e ↦ inr (rw (← e) b)
                | inr f ↦ inr (before_trans (way_to (steps_of vs) j) way cs b f)
              ]
        ]
