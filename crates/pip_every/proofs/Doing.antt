-- The acts of what runs on a processor: it waits for a line, or does a deed.
use Rattle.std.proofs.Common.{◌≡◌, refl, ℕ, sym, ap, ◌∙◌, subst, Option, Some}
use Rattle.std.specs.Prelude.{Result}
use Rattle.pip_base.specs.declared.outcome.Outcome.{Outcome}
use Rattle.pip_base.specs.declared.outcome.Outcome.TheVariants as O
use Rattle.pip_cpu.proofs.Makings.{after_event, line_alone}
use Rattle.pip_cpu.specs.Made.{MadeOrCut}
use Rattle.pip_io.specs.Taken.{Taken, Wrote}
use Rattle.pip_model.specs.Events as E
use Rattle.pip_model.specs.Turn.{moved_line, outcome_of, world_of}
use Rattle.pip_model.specs.Worlds.{World}
use Rattle.pip_every.specs.Menus.{acts_after_line, deed_acts, deed_event, deed_line, hostile_acts}
use Rattle.pip_every.specs.declared.menus.Deed.{Deed}

-- no line came
no_line : (w : World) (cpu : ℕ) (d : Deed) (o : Outcome) → ((f to k : ℕ) → o ≡ O.Switched f to k → ⊥)
    → acts_after_line w cpu (Some d) o ≡ deed_acts w cpu d
no_line w cpu d (O.Switched f to k) n = absurd (n f to k refl)
no_line w cpu d o n = refl

-- r: what writing the line answered. old, new: the bytes of the sink
module _ {T X : Type 0} (r : Result T X) (S : World → Type 0) (old new : Taken) (w : World) (cpu : ℕ) where
  pub deed_done : (d : Deed) (o : Outcome) → (o ≡ outcome_of w (deed_event cpu d)) × S (world_of w (deed_event cpu d))
      → Wrote r old new (deed_line cpu d o) → MadeOrCut r S old new w (deed_acts w cpu d)
  deed_done d o h s = after_event S old new w r (deed_event cpu d) _
      (line_alone S old new (world_of w (deed_event cpu d)) r _ h.1
      (rw (← h.0) s))

  pub line_came : (d : Option Deed) (o : Outcome) (f to k : ℕ) → o ≡ O.Switched f to k
      → (o ≡ outcome_of w (E.Poll cpu)) × S (world_of w (E.Poll cpu)) → Wrote r old new (moved_line 0 cpu o)
      → MadeOrCut r S old new w (hostile_acts w cpu d)
  line_came d o f to k i h s =
      let v = world_of w (E.Poll cpu) in
      let line = subst (λ p. Wrote r old new (moved_line 0 cpu p)) i s in
      after_event S old new w r (E.Poll cpu) _ (rw (← h.0, i)
      (line_alone S old new v r (moved_line 0 cpu (O.Switched f to k)) h.1 line))

  pub did : (d : Deed) (o : Outcome) → ((f to k : ℕ) → o ≡ O.Switched f to k → ⊥) → o ≡ outcome_of w (E.Poll cpu)
      → MadeOrCut r S old new (world_of w (E.Poll cpu)) (deed_acts (world_of w (E.Poll cpu)) cpu d)
      → MadeOrCut r S old new w (hostile_acts w cpu (Some d))
  did d o n e h =
      let v = world_of w (E.Poll cpu) in
      let same = ap (λ p. acts_after_line v cpu (Some d) p) (sym e) ∙ no_line v cpu d o n in
      after_event S old new w r (E.Poll cpu) _ (rw same h)
