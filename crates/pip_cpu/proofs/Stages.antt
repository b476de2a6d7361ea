-- The acts of a turn, by what its poll and its fetch answered.
use Rattle.std.proofs.Common.{◌≡◌, refl, ℕ, sym, ap, ◌∙◌, subst, [], ◌∷◌}
use Rattle.std.specs.Prelude.{Result, IfOk}
use Rattle.pip_base.specs.declared.outcome.Outcome.{Outcome}
use Rattle.pip_base.specs.declared.outcome.Outcome.TheVariants as O
use Rattle.pip_cpu.proofs.Makings.{after_event, cut_after_event, cut_line}
use Rattle.pip_cpu.specs.Made.{Cut, MadeOrCut}
use Rattle.pip_io.specs.Taken.{Taken, AppendsPart}
use Rattle.pip_model.specs.Acts.{Writes}
use Rattle.pip_model.specs.Events as E
use Rattle.pip_model.specs.Turn.{fetch_acts, acts_after_fetch, fetched_end, moved_line, outcome_of, acts_after_poll}
use Rattle.pip_model.specs.Turn.{polled_end, turn, turn_end, word_acts, world_of}
use Rattle.pip_model.specs.Worlds.{World, runs_on}
use Rattle.pip_model.specs.declared.turn_end.TurnEnd.{TurnEnd}

no_fetch : (w : World) (t cpu : ℕ) (o : Outcome) → ((v : ℕ) → o ≡ O.Word v → ⊥)
    → acts_after_fetch w t cpu o ≡ Writes (moved_line t cpu o) ∷ []
no_fetch w t cpu (O.Word v) n = absurd (n v refl)
no_fetch w t cpu O.Done n = refl
no_fetch w t cpu (O.Reply s v) n = refl
no_fetch w t cpu (O.Switched f to k) n = refl
no_fetch w t cpu (O.Parked f k) n = refl
no_fetch w t cpu O.Idle n = refl

-- a poll that did not switch, where something runs
pub goes_on : (w : World) (t cpu : ℕ) (o : Outcome) → ((f to k : ℕ) → o ≡ O.Switched f to k → ⊥) → (o ≡ O.Idle → ⊥)
    → acts_after_poll w t cpu o ≡ fetch_acts w t cpu
goes_on w t cpu (O.Word v) n m = refl
goes_on w t cpu O.Done n m = refl
goes_on w t cpu (O.Reply s v) n m = refl
goes_on w t cpu (O.Switched f to k) n m = absurd (n f to k refl)
goes_on w t cpu (O.Parked f k) n m = refl
goes_on w t cpu O.Idle n m = absurd (m refl)

goes_end : (w : World) (cpu : ℕ) (o : Outcome) → ((f to k : ℕ) → o ≡ O.Switched f to k → ⊥) → (o ≡ O.Idle → ⊥)
    → polled_end w cpu o ≡ fetched_end (outcome_of w (E.Fetch cpu))
goes_end w cpu (O.Word v) n m = refl
goes_end w cpu O.Done n m = refl
goes_end w cpu (O.Reply s v) n m = refl
goes_end w cpu (O.Switched f to k) n m = absurd (n f to k refl)
goes_end w cpu (O.Parked f k) n m = refl
goes_end w cpu O.Idle n m = absurd (m refl)

module _ (S : World → Type 0) (old new : Taken) (w : World) (t cpu : ℕ) (o : Outcome) where
  -- the word that was fetched was not run to its end
  pub fetched_cut : (v : ℕ) → o ≡ outcome_of w (E.Fetch cpu) → o ≡ O.Word v
      → Cut S old new (world_of w (E.Fetch cpu))
      (word_acts (world_of w (E.Fetch cpu)) t cpu v (runs_on (world_of w (E.Fetch cpu)) cpu))
      → Cut S old new w (fetch_acts w t cpu)
  fetched_cut v e i h =
      cut_after_event S old new w (E.Fetch cpu) _ (subst (λ p.
      Cut S old new (world_of w (E.Fetch cpu)) (acts_after_fetch (world_of w (E.Fetch cpu)) t cpu p)) (sym i ∙ e) h)

  -- the fetch gave no word, and its line was not written whole
  pub fetch_cut : ((v : ℕ) → o ≡ O.Word v → ⊥) → (o ≡ outcome_of w (E.Fetch cpu)) × S (world_of w (E.Fetch cpu))
      → AppendsPart old new (moved_line t cpu o) → Cut S old new w (fetch_acts w t cpu)
  fetch_cut n h s =
      let same = ap (λ p. acts_after_fetch (world_of w (E.Fetch cpu)) t cpu p) (sym h.0)
      ∙ no_fetch (world_of w (E.Fetch cpu)) t cpu o n in
      cut_after_event S old new w (E.Fetch cpu) _ (subst (λ k. Cut S old new (world_of w (E.Fetch cpu)) k) (sym same)
      (cut_line S old new (world_of w (E.Fetch cpu)) _ [] h.1 s))

  -- the poll switched, and its line was not written whole
  pub poll_cut : (f to k : ℕ) → o ≡ O.Switched f to k → (o ≡ outcome_of w (E.Poll cpu)) × S (world_of w (E.Poll cpu))
      → AppendsPart old new (moved_line t cpu o) → Cut S old new w (turn w cpu t)
  poll_cut f to k i h s =
      let line = subst (λ p. AppendsPart old new (moved_line t cpu p)) i s in
      let cut = cut_line S old new (world_of w (E.Poll cpu)) (moved_line t cpu (O.Switched f to k)) [] h.1 line in
      cut_after_event S old new w (E.Poll cpu) _ (subst (λ p.
      Cut S old new (world_of w (E.Poll cpu)) (acts_after_poll (world_of w (E.Poll cpu)) t cpu p)) (sym i ∙ h.0) cut)

-- the poll did not switch, and what comes after it was made or cut
pub polled_on : {T X : Type 0} (r : Result T X) (S : World → Type 0)
    (old new : Taken) (w : World) (t cpu : ℕ) (o : Outcome)
    → ((f to k : ℕ) → o ≡ O.Switched f to k → ⊥) → (o ≡ O.Idle → ⊥) → o ≡ outcome_of w (E.Poll cpu)
    → MadeOrCut r S old new (world_of w (E.Poll cpu)) (fetch_acts (world_of w (E.Poll cpu)) t cpu)
    → MadeOrCut r S old new w (turn w cpu t)
polled_on r S old new w t cpu o n m e h =
    let v = world_of w (E.Poll cpu) in
    let same = ap (λ p. acts_after_poll v t cpu p) (sym e) ∙ goes_on v t cpu o n m in
    after_event S old new w r (E.Poll cpu) _ (subst (λ k. MadeOrCut r S old new v k) (sym same) h)

pub polled_end_on : {X : Type 0} (r : Result TurnEnd X) (w : World) (cpu : ℕ) (o : Outcome)
    → ((f to k : ℕ) → o ≡ O.Switched f to k → ⊥) → (o ≡ O.Idle → ⊥) → o ≡ outcome_of w (E.Poll cpu)
    → IfOk r (λ e. e ≡ fetched_end (outcome_of (world_of w (E.Poll cpu)) (E.Fetch cpu)))
    → IfOk r (λ e. e ≡ turn_end w cpu)
polled_end_on r w cpu o n m e h =
    let v = world_of w (E.Poll cpu) in
    subst (λ k. IfOk r (λ x. x ≡ k)) (sym (ap (polled_end v cpu) (sym e) ∙ goes_end v cpu o n m)) h
