-- The acts of an effect, by what the machine answered.
use Rattle.std.proofs.Common.{◌≡◌, refl, ℕ, sym, ap, ◌∙◌, subst, [], ◌∷◌, Option, None, Some}
use Rattle.std.specs.Prelude.{Result, option_map, slice_get, slice_set, unwrap_or}
use Rattle.pip_io.proofs.Taken.{Appends-nil}
use Rattle.pip_base.specs.declared.outcome.Outcome.{Outcome}
use Rattle.pip_base.specs.declared.outcome.Outcome.TheVariants as O
use Rattle.pip_base.specs.declared.types.Ctx.{Ctx}
use Rattle.pip_base.specs.declared.types.Size.{Size}
use Rattle.pip_cpu.proofs.Makings.{after_event, line_alone}
use Rattle.pip_cpu.specs.Made.{Made, MadeOrCut}
use Rattle.pip_model.specs.Acts.{Makes, Writes}
use Rattle.pip_model.specs.Answers.{Five}
use Rattle.pip_model.specs.Effects.{next, at_next, word_effect}
use Rattle.pip_model.specs.InstrRead.{instr_of}
use Rattle.pip_model.proofs.Events.Outcomes.{load_same, store_same}
use Rattle.pip_model.specs.Events as E
use Rattle.pip_model.specs.Port.{Follows}
use Rattle.pip_model.specs.Turn.{arguments, call_line, effect_acts, load_acts, moved_line, outcome_of, store_acts}
use Rattle.pip_model.specs.Turn.{word_acts, world_of}
use Rattle.pip_model.specs.Worlds.{World, ctx_of, ctx_on}
use Rattle.pip_model.specs.declared.processors.Occupant.{Occupant}
use Rattle.pip_model.specs.declared.effect.Effect.TheVariants as F
use Rattle.pip_io.specs.Taken.{Taken, Wrote}

-- an access that gave no word, or was not done
no_word : (t cpu : ℕ) (x : Ctx) (a : ℕ) (o : Outcome) → ((v : ℕ) → o ≡ O.Word v → ⊥)
    → load_acts t cpu x a o ≡ Writes (moved_line t cpu o) ∷ []
no_word t cpu x a (O.Word v) n = absurd (n v refl)
no_word t cpu x a O.Done n = refl
no_word t cpu x a (O.Reply s v) n = refl
no_word t cpu x a (O.Switched f to k) n = refl
no_word t cpu x a (O.Parked f k) n = refl
no_word t cpu x a O.Idle n = refl

not_done : (t cpu : ℕ) (x : Ctx) (o : Outcome) → (o ≡ O.Done → ⊥)
    → store_acts t cpu x o ≡ Writes (moved_line t cpu o) ∷ []
not_done t cpu x (O.Word v) n = refl
not_done t cpu x O.Done n = absurd (n refl)
not_done t cpu x (O.Reply s v) n = refl
not_done t cpu x (O.Switched f to k) n = refl
not_done t cpu x (O.Parked f k) n = refl
not_done t cpu x O.Idle n = refl

-- r: what writing the line answered. old, new: the bytes of the sink
module _ {T X : Type 0} (r : Result T X) (old new : Taken) (w : World) (t cpu : ℕ) (x : Ctx) where
  -- an event that wrote the line of its outcome
  moved_by : (S : World → Type 0) (e : E.Event) (o : Outcome) → (o ≡ outcome_of w e) × S (world_of w e)
      → Wrote r old new (moved_line t cpu o)
      → MadeOrCut r S old new w (Makes e ∷ Writes (moved_line t cpu (outcome_of w e)) ∷ [])
  moved_by S e o h s = after_event S old new w r e _
      (line_alone S old new (world_of w e) r _ h.1 (subst (λ p. Wrote r old new (moved_line t cpu p)) h.0 s))

  pub trapped : (S : World → Type 0) (k a b : ℕ) (o : Outcome)
      → (o ≡ outcome_of w (E.Trap cpu k a b)) × S (world_of w (E.Trap cpu k a b)) → Wrote r old new
      (moved_line t cpu o)
      → MadeOrCut r S old new w (effect_acts w t cpu x (F.Traps k a b))
  trapped S k a b o h s = moved_by S (E.Trap cpu k a b) o h s

  pub load_moved : (S : World → Type 0) (a va : ℕ) (size : Size) (o : Outcome) → ((v : ℕ) → o ≡ O.Word v → ⊥)
      → (o ≡ outcome_of w (E.Load cpu va size)) × S (world_of w (E.Load cpu va size))
      → Wrote r old new (moved_line t cpu o)
      → MadeOrCut r S old new w (effect_acts w t cpu x (F.Loads a va size))
  load_moved S a va size o n h s =
      let same = ap (λ p. moved_line t cpu p) (sym h.0) in
      subst (λ k. MadeOrCut r S old new w (Makes (E.Load cpu va size) ∷ k))
      (ap (λ l. Writes l ∷ []) same ∙ sym (no_word t cpu x a o n) ∙ ap (load_acts t cpu x a) h.0)
      (moved_by S (E.Load cpu va size) o h s)

  pub store_moved : (S : World → Type 0) (va : ℕ) (size : Size) (word : ℕ) (o : Outcome) → (o ≡ O.Done → ⊥)
      → (o ≡ outcome_of w (E.Store cpu va size word)) × S (world_of w (E.Store cpu va size word))
      → Wrote r old new (moved_line t cpu o)
      → MadeOrCut r S old new w (effect_acts w t cpu x (F.Stores va word size))
  store_moved S va size word o n h s =
      let same = ap (λ p. moved_line t cpu p) (sym h.0) in
      subst (λ k. MadeOrCut r S old new w (Makes (E.Store cpu va size word) ∷ k))
      (ap (λ l. Writes l ∷ []) same ∙ sym (not_done t cpu x o n) ∙ ap (store_acts t cpu x) h.0)
      (moved_by S (E.Store cpu va size word) o h s)

  -- pc goes on, and then a trap or a call is made. S1 stands between
  module _ (S1 S2 : World → Type 0) (pc : ℕ) (same : pc ≡ next x)
      (stands : S1 (world_of w (E.SetContext cpu (record x { pc = pc })))) where
    between : S1 (world_of w (E.SetContext cpu (at_next x)))
    between = subst (λ z. S1 (world_of w (E.SetContext cpu (record x { pc = z })))) same stands

    pub interrupted : (k : ℕ) (o : Outcome) → Follows S1 S2 (E.Trap cpu k 0 0) o → Wrote r old new
        (moved_line t cpu o)
        → MadeOrCut r S2 old new w (effect_acts w t cpu x (F.Interrupts k))
    interrupted k o f s =
        let v = world_of w (E.SetContext cpu (at_next x)) in
        let g = f v between in
        after_event S2 old new w r (E.SetContext cpu (at_next x)) _ (after_event S2 old new v r (E.Trap cpu k 0 0) _
        (line_alone S2 old new _ r _ g.1 (subst (λ p. Wrote r old new (moved_line t cpu p)) g.0 s)))

    pub called : (n : ℕ) (five : Five) (o : Outcome) → five ≡ arguments x → Follows S1 S2 (E.Call cpu n five) o
        → Wrote r old new (call_line t cpu n o)
        → MadeOrCut r S2 old new w (effect_acts w t cpu x (F.Calls n))
    called n five o args f s =
        let v = world_of w (E.SetContext cpu (at_next x)) in
        let g = subst (λ a. Follows S1 S2 (E.Call cpu n a) o) args f v between in
        after_event S2 old new w r (E.SetContext cpu (at_next x)) _
        (after_event S2 old new v r (E.Call cpu n (arguments x)) _
        (line_alone S2 old new _ r _ g.1 (subst (λ p. Wrote r old new (call_line t cpu n p)) g.0 s)))

-- ---- what runs gets another context

module _ (S : World → Type 0) (old : Taken) (w : World) (cpu : ℕ) where
  -- a register and pc
  pub register_set : (a v pc : ℕ) (y : Ctx) → record { pc = pc; regs = slice_set (ctx_on w cpu).regs a v } ≡ y
      → S (world_of w (E.SetContext cpu (record { pc = pc; regs = slice_set (ctx_on w cpu).regs a v })))
      → Made S old old w (Makes (E.SetContext cpu y) ∷ [])
  register_set a v pc y e s =
      record { world = subst (λ z. S (world_of w (E.SetContext cpu z))) e s; text = Appends-nil old }

-- ---- by what runs
