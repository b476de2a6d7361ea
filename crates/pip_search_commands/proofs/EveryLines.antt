-- The lines of `every` are those of runs: a turn's line at another step differs in the step alone.
use Rattle.std.proofs.Common.{◌≡◌, ◌≢◌, ℕ, List, [], ◌∷◌, ◌++◌, inl, inr, Option, None, Some}
use Rattle.std.proofs.Common.{refl, sym, subst, arith, append-nil, append_assoc, decimal}
use Rattle.std.specs.Prelude.{codes}
use Rattle.std.proofs.lemmas.Fmt.{decimal_digit}
use Rattle.pip_base.specs.Status.{status_number}
use Rattle.pip_base.specs.declared.types.Ctx.{Ctx}
use Rattle.pip_base.specs.declared.outcome.Outcome.{Outcome}
use Rattle.pip_base.specs.declared.outcome.Outcome.TheVariants as O
use Rattle.pip_model.specs.Acts.{text_of}
use Rattle.pip_model.specs.Effects.{at_next, word_effect}
use Rattle.pip_model.specs.Events as E
use Rattle.pip_model.specs.InstrRead.{instr_of}
use Rattle.pip_model.specs.Text.{word_text}
use Rattle.pip_model.specs.Turn.{arguments, call_line, effect_acts, acts_after_fetch, head, load_acts, moved_line}
use Rattle.pip_model.specs.Turn.{out_line, outcome_of, acts_after_poll, store_acts, word_acts, world_of}
use Rattle.pip_model.specs.Worlds.{World, runs_on}
use Rattle.pip_model.specs.declared.effect.Effect.{Effect}
use Rattle.pip_model.specs.declared.effect.Effect.TheVariants as F
use Rattle.pip_model.specs.declared.processors.Occupant.{Occupant}
use Rattle.pip_every.proofs.LabelLines.{inner_of}
use Rattle.pip_every.specs.Texts.{inner}
use Rattle.pip_search_commands.specs.EveryLaw.{IsLineAt, LinesAreOfRuns}

at_step : (t : ℕ) (rest : List ℕ) → IsLineAt t (decimal 0 ++ (rest ++ 10 ∷ [])) (decimal t ++ (rest ++ 10 ∷ []))
at_step t rest =
    let body : inner (decimal 0 ++ (rest ++ 10 ∷ [])) ≡ rest =
    rw (decimal_digit 0 (omega arith), inner_of 48 10 rest) in
    let zero_is : decimal 0 ≡ 48 ∷ [] = decimal_digit 0 (omega arith) in
    let some : decimal 0 ++ (rest ++ 10 ∷ []) ≢ [] = λ e.
    let none : 48 ∷ (rest ++ 10 ∷ []) ≡ [] = cc in absurd cc in
    inr (some, cc (append_assoc (decimal t) rest (10 ∷ [])))

-- a line of a processor, by what comes after the head
line_form : (t cpu : ℕ) (x : List ℕ)
    → head t cpu ++ (x ++ 10 ∷ []) ≡ decimal t ++ (((codes " " ++ decimal cpu) ++ x) ++ 10 ∷ [])
line_form t cpu x = simp append_assoc

stepped : (t cpu : ℕ) (x : List ℕ) → IsLineAt t (head 0 cpu ++ (x ++ 10 ∷ [])) (head t cpu ++ (x ++ 10 ∷ []))
stepped t cpu x =
    rw (line_form t cpu x) (subst (λ l. IsLineAt t l (decimal t ++ (((codes " " ++ decimal cpu) ++ x) ++ 10 ∷ [])))
    (sym (line_form 0 cpu x)) (at_step t ((codes " " ++ decimal cpu) ++ x)))

-- so is a line that is put together in another way
alike : (t cpu : ℕ) (x : List ℕ) (line : ℕ → List ℕ) → ((s : ℕ) → line s ≡ head s cpu ++ (x ++ 10 ∷ []))
    → IsLineAt t (line 0) (line t)
alike t cpu x line is =
    rw (is t) (subst (λ l. IsLineAt t l (head t cpu ++ (x ++ 10 ∷ []))) (sym (is 0)) (stepped t cpu x))

alone : (t : ℕ) (a b : List ℕ) → IsLineAt t a b → IsLineAt t (a ++ []) (b ++ [])
alone t a b is =
    rw (append-nil b) (subst (λ l. IsLineAt t l b) (sym (append-nil a)) is)

-- ---- the lines

pub moved_at : (t cpu : ℕ) (o : Outcome) → IsLineAt t (moved_line 0 cpu o) (moved_line t cpu o)
moved_at t cpu (O.Switched from to k) =
    stepped t cpu (codes " switch " ++ decimal from ++ codes " " ++ decimal to ++ codes " " ++ decimal k)
moved_at t cpu (O.Parked from k) = stepped t cpu (codes " park " ++ decimal from ++ codes " " ++ decimal k)
moved_at t cpu (O.Word v) = inl (refl, refl)
moved_at t cpu O.Done = inl (refl, refl)
moved_at t cpu (O.Reply s v) = inl (refl, refl)
moved_at t cpu O.Idle = inl (refl, refl)

pub call_at : (t cpu n : ℕ) (o : Outcome) → IsLineAt t (call_line 0 cpu n o) (call_line t cpu n o)
call_at t cpu n (O.Reply s v) =
    alike t cpu
    (codes " call " ++ decimal n ++ codes " reply " ++ decimal (status_number s) ++ codes " " ++ word_text v)
    (λ k. call_line k cpu n (O.Reply s v)) (λ k. simp append_assoc)
call_at t cpu n (O.Switched from to k) =
    alike t cpu (codes " call " ++ decimal n ++ codes " switch " ++ decimal from ++ codes " " ++ decimal to ++ codes " "
    ++ decimal k) (λ j. call_line j cpu n (O.Switched from to k)) (λ j. simp append_assoc)
call_at t cpu n (O.Parked from k) = inl (refl, refl)
call_at t cpu n (O.Word v) = inl (refl, refl)
call_at t cpu n O.Done = inl (refl, refl)
call_at t cpu n O.Idle = inl (refl, refl)

out_at : (t cpu v : ℕ) → IsLineAt t (out_line 0 cpu v) (out_line t cpu v)
out_at t cpu v = alike t cpu (codes " out " ++ word_text v) (λ k. out_line k cpu v) (λ k. simp append_assoc)

-- ---- the texts

moved_text : (t cpu : ℕ) (o : Outcome) → IsLineAt t (moved_line 0 cpu o ++ []) (moved_line t cpu o ++ [])
moved_text t cpu o = alone t (moved_line 0 cpu o) (moved_line t cpu o) (moved_at t cpu o)

load_text : (t cpu : ℕ) (x : Ctx) (a : ℕ) (o : Outcome)
    → IsLineAt t (text_of (load_acts 0 cpu x a o)) (text_of (load_acts t cpu x a o))
load_text t cpu x a (O.Word v) = inl (refl, refl)
load_text t cpu x a O.Done = moved_text t cpu O.Done
load_text t cpu x a (O.Reply s v) = moved_text t cpu (O.Reply s v)
load_text t cpu x a (O.Switched from to k) = moved_text t cpu (O.Switched from to k)
load_text t cpu x a (O.Parked from k) = moved_text t cpu (O.Parked from k)
load_text t cpu x a O.Idle = moved_text t cpu O.Idle

store_text : (t cpu : ℕ) (x : Ctx) (o : Outcome)
    → IsLineAt t (text_of (store_acts 0 cpu x o)) (text_of (store_acts t cpu x o))
store_text t cpu x O.Done = inl (refl, refl)
store_text t cpu x (O.Word v) = moved_text t cpu (O.Word v)
store_text t cpu x (O.Reply s v) = moved_text t cpu (O.Reply s v)
store_text t cpu x (O.Switched from to k) = moved_text t cpu (O.Switched from to k)
store_text t cpu x (O.Parked from k) = moved_text t cpu (O.Parked from k)
store_text t cpu x O.Idle = moved_text t cpu O.Idle

effect_text : (w : World) (t cpu : ℕ) (x : Ctx) (e : Effect)
    → IsLineAt t (text_of (effect_acts w 0 cpu x e)) (text_of (effect_acts w t cpu x e))
effect_text w t cpu x (F.Sets a v) = inl (refl, refl)
effect_text w t cpu x (F.Goes pc) = inl (refl, refl)
effect_text w t cpu x (F.Links a pc) = inl (refl, refl)
effect_text w t cpu x (F.Loads a va size) = load_text t cpu x a (outcome_of w (E.Load cpu va size))
effect_text w t cpu x (F.Stores va v size) = store_text t cpu x (outcome_of w (E.Store cpu va size v))
effect_text w t cpu x (F.Traps k a b) = moved_text t cpu (outcome_of w (E.Trap cpu k a b))
effect_text w t cpu x (F.Interrupts k) =
    moved_text t cpu (outcome_of (world_of w (E.SetContext cpu (at_next x))) (E.Trap cpu k 0 0))
effect_text w t cpu x (F.Calls n) =
    let o = outcome_of (world_of w (E.SetContext cpu (at_next x))) (E.Call cpu n (arguments x)) in
    alone t (call_line 0 cpu n o) (call_line t cpu n o) (call_at t cpu n o)
effect_text w t cpu x (F.Shows v) = alone t (out_line 0 cpu v) (out_line t cpu v) (out_at t cpu v)

word_acts_text : (w : World) (t cpu v : ℕ) (o : Option Occupant)
    → IsLineAt t (text_of (word_acts w 0 cpu v o)) (text_of (word_acts w t cpu v o))
word_acts_text w t cpu v None = inl (refl, refl)
word_acts_text w t cpu v (Some r) = effect_text w t cpu r.ctx (word_effect r.ctx v (instr_of v))

fetched_text : (w : World) (t cpu : ℕ) (o : Outcome)
    → IsLineAt t (text_of (acts_after_fetch w 0 cpu o)) (text_of (acts_after_fetch w t cpu o))
fetched_text w t cpu (O.Word v) = word_acts_text w t cpu v (runs_on w cpu)
fetched_text w t cpu O.Done = moved_text t cpu O.Done
fetched_text w t cpu (O.Reply s v) = moved_text t cpu (O.Reply s v)
fetched_text w t cpu (O.Switched from to k) = moved_text t cpu (O.Switched from to k)
fetched_text w t cpu (O.Parked from k) = moved_text t cpu (O.Parked from k)
fetched_text w t cpu O.Idle = moved_text t cpu O.Idle

polled_text : (w : World) (t cpu : ℕ) (o : Outcome)
    → IsLineAt t (text_of (acts_after_poll w 0 cpu o)) (text_of (acts_after_poll w t cpu o))
polled_text w t cpu (O.Switched from to k) = moved_text t cpu (O.Switched from to k)
polled_text w t cpu O.Idle = inl (refl, refl)
polled_text w t cpu (O.Word v) = fetched_text (world_of w (E.Fetch cpu)) t cpu (outcome_of w (E.Fetch cpu))
polled_text w t cpu O.Done = fetched_text (world_of w (E.Fetch cpu)) t cpu (outcome_of w (E.Fetch cpu))
polled_text w t cpu (O.Reply s v) = fetched_text (world_of w (E.Fetch cpu)) t cpu (outcome_of w (E.Fetch cpu))
polled_text w t cpu (O.Parked from k) = fetched_text (world_of w (E.Fetch cpu)) t cpu (outcome_of w (E.Fetch cpu))

pub lines_are_of_runs : LinesAreOfRuns
lines_are_of_runs w cpu t = polled_text (world_of w (E.Poll cpu)) t cpu (outcome_of w (E.Poll cpu))
