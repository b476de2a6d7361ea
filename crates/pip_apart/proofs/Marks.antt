-- No line of a trace begins with the mark.
use Rattle.std.proofs.Common.{◌≡◌, ◌≢◌, ℕ, arith, List, [], ◌∷◌, ◌++◌, append_assoc, sym, ap, ◌∙◌, Option, Some, None}
use Rattle.std.specs.Prelude.{codes, decimal}
use Rattle.std.proofs.lemmas.Fmt.{decimal_digit}
use Rattle.pip_base.specs.Status.{status_number}
use Rattle.pip_base.specs.declared.outcome.Outcome.{Outcome}
use Rattle.pip_base.specs.declared.outcome.Outcome.TheVariants as O
use Rattle.pip_base.specs.declared.types.Ctx.{Ctx}
use Rattle.pip_model.specs.Acts.{Writes, text_of}
use Rattle.pip_model.specs.Effects.{at_next, word_effect}
use Rattle.pip_model.specs.Events as E
use Rattle.pip_model.specs.InstrRead.{instr_of}
use Rattle.pip_model.specs.Turn.{acts_after_fetch, acts_after_poll, arguments, call_line, effect_acts, fetch_acts, head}
use Rattle.pip_model.specs.Turn.{park_text, switch_text}
use Rattle.pip_model.specs.Turn.{load_acts, move_acts, outcome_of, store_acts, turn, word_acts, world_of}
use Rattle.pip_model.specs.Text.{word_text}
use Rattle.pip_model.specs.Worlds.{World, runs_on}
use Rattle.pip_model.specs.declared.effect.Effect.{Effect}
use Rattle.pip_model.specs.declared.effect.Effect.TheVariants as F
use Rattle.pip_model.specs.declared.processors.Occupant.{Occupant}
use Rattle.pip_apart.specs.Alone.{mark}

-- a text begins with another byte, or is empty
abbrev IsUnmarked : List ℕ → Type 0
IsUnmarked text = (rest : List ℕ) → text ≢ mark ∷ rest

nothing_unmarked : IsUnmarked []
nothing_unmarked rest e = cc

-- a text begins with the step 0
abbrev IsHeaded : List ℕ → Type 0
IsHeaded text = (rest : List ℕ) × (text ≡ decimal 0 ++ rest)

unmarked : (text : List ℕ) → IsHeaded text → IsUnmarked text
unmarked text h rest e =
    let zero_first : decimal 0 ++ h.0 ≡ 48 ∷ h.0 = rw (decimal_digit 0 (omega arith)) in
    let both : 48 ∷ h.0 ≡ mark ∷ rest = rw (← zero_first, ← h.1, e) in
    let first : ◌≡◌ {A = ℕ} 48 33 = cc in
    absurd (omega arith)

-- more may come after it
more : (x y : List ℕ) → IsHeaded x → IsHeaded (x ++ y)
more x y h = (h.0 ++ y, rw (h.1, append_assoc (decimal 0) h.0 y))

module _ (cpu : ℕ) where
  abbrev top : List ℕ
  top = head 0 cpu

  headed : IsHeaded top
  headed = (codes " " ++ decimal cpu, append_assoc (decimal 0) (codes " ") (decimal cpu))

  ended : (rest : List ℕ) → IsUnmarked ((top ++ rest) ++ [])
  ended rest = unmarked ((top ++ rest) ++ []) (more (top ++ rest) [] (more top rest headed))

  moved_unmarked : (o : Outcome) → IsUnmarked (text_of (move_acts 0 cpu o))
  moved_unmarked (O.Switched from to k) = ended (switch_text from to k)
  moved_unmarked (O.Parked from k) = ended (park_text from k)
  moved_unmarked (O.Word u) = nothing_unmarked
  moved_unmarked O.Done = nothing_unmarked
  moved_unmarked (O.Reply s u) = nothing_unmarked
  moved_unmarked O.Idle = nothing_unmarked

  call_unmarked : (n : ℕ) (o : Outcome) → IsUnmarked (text_of (Writes (call_line 0 cpu n o) ∷ []))
  call_unmarked n (O.Switched from to k) =
      let a = codes " call " in
      let b = decimal n in
      let c = switch_text from to k in
      unmarked (top ++ a ++ b ++ c ++ []) (more (top ++ a ++ b ++ c) [] (more (top ++ a ++ b) c (more (top ++ a) b
      (more top a headed))))
  call_unmarked n (O.Reply s u) =
      let a = codes " call " in
      let b = decimal n in
      let c = codes " reply " in
      let d = decimal (status_number s) in
      let e = codes " " in
      let f = word_text u in
      let g = codes "\n" in
      unmarked (top ++ a ++ b ++ c ++ d ++ e ++ f ++ g ++ []) (more (top ++ a ++ b ++ c ++ d ++ e ++ f ++ g) []
      (more (top ++ a ++ b ++ c ++ d ++ e ++ f) g (more (top ++ a ++ b ++ c ++ d ++ e) f
      (more (top ++ a ++ b ++ c ++ d) e (more (top ++ a ++ b ++ c) d (more (top ++ a ++ b) c (more (top ++ a) b
      (more top a headed))))))))
  call_unmarked n (O.Parked from k) = nothing_unmarked
  call_unmarked n (O.Word u) = nothing_unmarked
  call_unmarked n O.Done = nothing_unmarked
  call_unmarked n O.Idle = nothing_unmarked

  load_unmarked : (x : Ctx) (a : ℕ) (o : Outcome) → IsUnmarked (text_of (load_acts 0 cpu x a o))
  load_unmarked x a (O.Word u) = nothing_unmarked
  load_unmarked x a O.Done = nothing_unmarked
  load_unmarked x a (O.Reply s u) = nothing_unmarked
  load_unmarked x a (O.Switched from to k) = ended (switch_text from to k)
  load_unmarked x a (O.Parked from k) = ended (park_text from k)
  load_unmarked x a O.Idle = nothing_unmarked

  store_unmarked : (x : Ctx) (o : Outcome) → IsUnmarked (text_of (store_acts 0 cpu x o))
  store_unmarked x O.Done = nothing_unmarked
  store_unmarked x (O.Word u) = nothing_unmarked
  store_unmarked x (O.Reply s u) = nothing_unmarked
  store_unmarked x (O.Switched from to k) = ended (switch_text from to k)
  store_unmarked x (O.Parked from k) = ended (park_text from k)
  store_unmarked x O.Idle = nothing_unmarked

  effect_unmarked : (w : World) (x : Ctx) (f : Effect) → IsUnmarked (text_of (effect_acts w 0 cpu x f))
  effect_unmarked w x (F.Sets a n) = nothing_unmarked
  effect_unmarked w x (F.Goes pc) = nothing_unmarked
  effect_unmarked w x (F.Links a pc) = nothing_unmarked
  effect_unmarked w x (F.Loads a va z) = load_unmarked x a (outcome_of w (E.Load cpu va z))
  effect_unmarked w x (F.Stores va n z) = store_unmarked x (outcome_of w (E.Store cpu va z n))
  effect_unmarked w x (F.Traps k a b) = moved_unmarked (outcome_of w (E.Trap cpu k a b))
  effect_unmarked w x (F.Interrupts k) =
      moved_unmarked (outcome_of (world_of w (E.SetContext cpu (at_next x))) (E.Trap cpu k 0 0))
  effect_unmarked w x (F.Calls n) =
      call_unmarked n (outcome_of (world_of w (E.SetContext cpu (at_next x))) (E.Call cpu n (arguments x)))
  effect_unmarked w x (F.Shows n) =
      let a = codes " out " in
      let b = word_text n in
      let c = codes "\n" in
      unmarked (top ++ a ++ b ++ c ++ []) (more (top ++ a ++ b ++ c) [] (more (top ++ a ++ b) c (more (top ++ a) b
      (more top a headed))))

  word_unmarked : (w : World) (u : ℕ) (o : Option Occupant) → IsUnmarked (text_of (word_acts w 0 cpu u o))
  word_unmarked w u None = nothing_unmarked
  word_unmarked w u (Some q) = effect_unmarked w q.ctx (word_effect q.ctx u (instr_of u))

  fetched_unmarked : (w : World) (o : Outcome) → IsUnmarked (text_of (acts_after_fetch w 0 cpu o))
  fetched_unmarked w (O.Word u) = word_unmarked w u (runs_on w cpu)
  fetched_unmarked w O.Done = nothing_unmarked
  fetched_unmarked w (O.Reply s u) = nothing_unmarked
  fetched_unmarked w (O.Switched from to k) = ended (switch_text from to k)
  fetched_unmarked w (O.Parked from k) = ended (park_text from k)
  fetched_unmarked w O.Idle = nothing_unmarked

  fetch_unmarked : (w : World) → IsUnmarked (text_of (fetch_acts w 0 cpu))
  fetch_unmarked w = fetched_unmarked (world_of w (E.Fetch cpu)) (outcome_of w (E.Fetch cpu))

  polled_unmarked : (w : World) (o : Outcome) → IsUnmarked (text_of (acts_after_poll w 0 cpu o))
  polled_unmarked w (O.Switched from to k) = ended (switch_text from to k)
  polled_unmarked w O.Idle = nothing_unmarked
  polled_unmarked w (O.Word u) = fetch_unmarked w
  polled_unmarked w O.Done = fetch_unmarked w
  polled_unmarked w (O.Reply s u) = fetch_unmarked w
  polled_unmarked w (O.Parked from k) = fetch_unmarked w

  pub no_mark : (w : World) → IsUnmarked (text_of (turn w cpu 0))
  no_mark w = polled_unmarked (world_of w (E.Poll cpu)) (outcome_of w (E.Poll cpu))
