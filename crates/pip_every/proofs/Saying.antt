-- What is said of one label after another.
use Rattle.std.proofs.Common.{◌≡◌, ℕ, zero, suc, refl, arith, length-append, inl, inr, List, [], ◌∷◌, ◌++◌, length}
use Rattle.std.proofs.Common.{Some, slice_get, ap, sym, subst, ◌∙◌}
use Rattle.pip_base.specs.Memory.{Memory}
use Rattle.pip_search.specs.Comes.{MustCome}
use Rattle.pip_search.specs.declared.searching.Extent.{Extent}
use Rattle.pip_search.specs.declared.searching.Extent.TheVariants.{Closed, Stopped, Within}
use Rattle.pip_search.specs.declared.ways.Run.{Run}
use Rattle.pip_search.proofs.Places.{get-back}
use Rattle.pip_every.specs.Again.{AreSaid, IsSaid, shown_line}
use Rattle.pip_every.specs.Comes.{AreComing, IsAvoidedBy, IsComing, own_classes}
use Rattle.pip_every.specs.Menus.{Menu, menu_model, usual_choices}
use Rattle.pip_every.specs.Moments.{Moment}
use Rattle.pip_every.specs.declared.again.Again.{Again}
use Rattle.pip_every.specs.declared.again.Again.TheVariants.{Can, Lost, Unknown}
use Rattle.pip_every.specs.declared.comes.Comes.{Comes}
use Rattle.pip_every.specs.declared.comes.Comes.TheVariants as C

module _ {R : Type 0} (IsAnswer : List ℕ → R → Type 0) (lines : List (List ℕ)) where
  -- so it is said of the first of these lines
  abbrev pub AreYet : List R → Type 0
  AreYet said = (j : ℕ) (line : List ℕ) (r : R) → slice_get lines j ≡ Some line → slice_get said j ≡ Some r
      → IsAnswer line r

  pub one_more_said : (said : List R) (i : ℕ) (r : R) → AreYet said → length said ≡ i
      → ((line : List ℕ) → slice_get lines i ≡ Some line → IsAnswer line r) → AreYet (said ++ r ∷ [])
  one_more_said said i r all count own j line x at is = elim (get-back said r j x is) [
    | inl old ↦ all j line x at old
    | inr new ↦ rw new.1 (own line (ap (slice_get lines) (sym (new.0 ∙ count)) ∙ at))
  ]

-- as many classes as choices
pub classes_count : (n : ℕ) → length (own_classes n) ≡ n
classes_count zero = refl
classes_count (suc n) = let e = classes_count n in simp length-append (omega arith)

-- what is said doesn't depend on the memory with which keys compare
rebased_one : (a b : Memory) (g : Menu) (n : ℕ) (m : Moment) (label : List ℕ) (end : Extent) (r : Again)
    → IsSaid (menu_model a g) n m label end r → IsSaid (menu_model b g) n m label end r
rebased_one a b g n m label (Closed depth) Can h = h
rebased_one a b g n m label (Closed depth) (Lost way) (cs, (is, h)) =
    (cs, (is, assumption))
rebased_one a b g n m label (Closed depth) Unknown h = h
rebased_one a b g n m label (Within depth) r h = h
rebased_one a b g n m label (Stopped depth) r h = h

pub rebased_said : (a b : Memory) (s t : Menu) (n : ℕ) (m : Moment) (lines : List (List ℕ)) (end : Extent)
    (said : List Again) → s ≡ t → n ≡ usual_choices s → AreSaid (menu_model a s) n m lines end said
    → AreSaid (menu_model b t) (usual_choices t) m lines end said
rebased_said a b s t n m lines end said same width h =
    rw (← same) (subst (λ k. AreSaid (menu_model b s) k m lines end said) width
    (record {
      count = h.count;
      each = λ j line r at is. rebased_one a b s n m (shown_line line) end r
          (h.each j line r at is);
    }))

rebased_avoided : (a b : Memory) (g : Menu) (classes : List ℕ) (m : Moment) (label : List ℕ) (way round : List Run)
    → IsAvoidedBy (menu_model a g) classes m label way round → IsAvoidedBy (menu_model b g) classes m label way round
rebased_avoided a b g classes m label way round h = record {
  before = h.before;
  over = h.over;
  way_is = h.way_is;
  round_is = h.round_is;
  avoided = assumption;
}

rebased_must : (a b : Memory) (g : Menu) (classes : List ℕ) (m : Moment) (label counts : List ℕ)
    → MustCome (menu_model a g) classes m label counts → MustCome (menu_model b g) classes m label counts
rebased_must a b g classes m label counts h before cs windows can on wide fair enough =
    let soon = h before cs windows can on wide fair enough in search

rebased_label : (a b : Memory) (g : Menu) (classes : List ℕ) (m : Moment) (label : List ℕ) (end : Extent) (r : Comes)
    → IsComing (menu_model a g) classes m label end r → IsComing (menu_model b g) classes m label end r
rebased_label a b g classes m label (Closed depth) (C.Must counts) h =
    rebased_must a b g classes m label counts.items h
rebased_label a b g classes m label (Closed depth) (C.Avoided way round) h =
    rebased_avoided a b g classes m label way.items round.items h
rebased_label a b g classes m label (Closed depth) C.Unknown h = h
rebased_label a b g classes m label (Within depth) r h = h
rebased_label a b g classes m label (Stopped depth) r h = h

pub rebased_coming : (a b : Memory) (s t : Menu) (n : ℕ) (m : Moment) (lines : List (List ℕ)) (end : Extent)
    (said : List Comes) → s ≡ t → n ≡ usual_choices s → AreComing (menu_model a s) (own_classes n) m lines end said
    → AreComing (menu_model b t) (own_classes (usual_choices t)) m lines end said
rebased_coming a b s t n m lines end said same width h =
    rw (← same) (subst (λ k. AreComing (menu_model b s) (own_classes k) m lines end said) width
    (record {
      count = h.count;
      each = λ j line r at is. rebased_label a b s (own_classes n) m (shown_line line) end
          r (h.each j line r at is);
    }))
