-- The number of a step is in the heads of its lines, and nowhere else.
use Rattle.std.proofs.Common.{◌≡◌, ℕ, List, [], ◌∷◌, ◌++◌, append_assoc, drop, length, map, refl, sym, ap, ap₂, ◌∙◌}
use Rattle.std.proofs.Common.{Option, Some, None}
use Rattle.std.specs.Prelude.{codes, decimal}
use Rattle.std.proofs.Math.Seq.{drop-append_seam, drop-nil}
use Rattle.pip_base.specs.Status.{status_number}
use Rattle.pip_base.specs.declared.outcome.Outcome.{Outcome}
use Rattle.pip_base.specs.declared.outcome.Outcome.TheVariants as O
use Rattle.pip_base.specs.declared.types.Ctx.{Ctx}
use Rattle.pip_model.specs.Acts.{Act, Makes, Writes, after_acts, events_made}
use Rattle.pip_model.specs.Effects.{at_next, word_effect}
use Rattle.pip_model.specs.Events.{Event, IsEvent}
use Rattle.pip_model.specs.Events as E
use Rattle.pip_model.specs.Happens.{after}
use Rattle.pip_model.specs.InstrRead.{instr_of}
use Rattle.pip_model.specs.Text.{word_text}
use Rattle.pip_model.specs.Turn.{arguments, call_line, head, park_text, switch_text, effect_acts, fetch_acts}
use Rattle.pip_model.specs.Turn.{acts_after_fetch, load_acts, move_acts, outcome_of, acts_after_poll, store_acts, turn}
use Rattle.pip_model.specs.Turn.{word_acts, world_of}
use Rattle.pip_model.specs.Worlds.{World, runs_on}
use Rattle.pip_model.specs.declared.effect.Effect.{Effect}
use Rattle.pip_model.specs.declared.effect.Effect.TheVariants as F
use Rattle.pip_model.specs.declared.processors.Occupant.{Occupant}
use Rattle.pip_model.proofs.OnLists.Acts.{after-events}
use Rattle.pip_guests.specs.Programs.{Slot, StepsDoNotMatter, bare_turns, turn_of, without_head}

-- ---- the steps don't matter

-- a head before several parts
after_head_3 : (h a b c : List ℕ) → h ++ a ++ b ++ c ≡ h ++ (a ++ b ++ c)
after_head_3 h a b c = simp append_assoc

after_head_7 : (h a b c d e f g : List ℕ)
    → h ++ a ++ b ++ c ++ d ++ e ++ f ++ g ≡ h ++ (a ++ b ++ c ++ d ++ e ++ f ++ g)
after_head_7 h a b c d e f g = simp append_assoc

module _ (cpu t r : ℕ) where
  abbrev here : Slot
  here = record { step = t; cpu = cpu }

  abbrev there : Slot
  there = record { step = r; cpu = cpu }

  heads : (x : List ℕ) → drop (length (head t cpu)) (head t cpu ++ x) ≡ drop (length (head r cpu)) (head r cpu ++ x)
  heads x = cc (drop-append_seam (head t cpu) x, drop-append_seam (head r cpu) x)

  -- two lines, each a head and one rest, are equal after their heads
  heads_of : (x y rest : List ℕ) → x ≡ head t cpu ++ rest → y ≡ head r cpu ++ rest
      → drop (length (head t cpu)) x ≡ drop (length (head r cpu)) y
  heads_of x y rest e f = rw (e, heads rest, ← f)

  abbrev no_line : List ℕ
  no_line = []

  no_heads : drop (length (head t cpu)) no_line ≡ drop (length (head r cpu)) no_line
  no_heads = cc (drop-nil {A = ℕ} (length (head t cpu)), drop-nil {A = ℕ} (length (head r cpu)))

  writes : {x y : List ℕ} → x ≡ y → ◌≡◌ {A = List Act} (Writes x ∷ []) (Writes y ∷ [])
  writes e = rw e

  moved_bare : (o : Outcome) → map (without_head here) (move_acts t cpu o) ≡ map (without_head there)
      (move_acts r cpu o)
  moved_bare (O.Switched from to k) = writes (heads (switch_text from to k))
  moved_bare (O.Parked from k) = writes (heads (park_text from k))
  moved_bare (O.Word u) = writes no_heads
  moved_bare O.Done = writes no_heads
  moved_bare (O.Reply s u) = writes no_heads
  moved_bare O.Idle = writes no_heads

  call_bare : (n : ℕ) (o : Outcome) → map (without_head here) (Writes (call_line t cpu n o) ∷ [])
      ≡ map (without_head there) (Writes (call_line r cpu n o) ∷ [])
  call_bare n (O.Reply s u) =
      let a = codes " call " in
      let c = codes " reply " in
      let e = codes " " in
      let g = codes "\n" in
      writes (heads_of _ _ _ (after_head_7 (head t cpu) a (decimal n) c (decimal (status_number s)) e (word_text u) g)
      (after_head_7 (head r cpu) a (decimal n) c (decimal (status_number s)) e (word_text u) g))
  call_bare n (O.Switched from to k) = writes (heads_of _ _ _ (after_head_3 (head t cpu) (codes " call ") (decimal n)
      (switch_text from to k)) (after_head_3 (head r cpu) (codes " call ") (decimal n) (switch_text from to k)))
  call_bare n (O.Parked from k) = writes no_heads
  call_bare n (O.Word u) = writes no_heads
  call_bare n O.Done = writes no_heads
  call_bare n O.Idle = writes no_heads

  load_bare : (x : Ctx) (a : ℕ) (o : Outcome)
      → map (without_head here) (load_acts t cpu x a o) ≡ map (without_head there) (load_acts r cpu x a o)
  load_bare x a (O.Word u) = refl
  load_bare x a O.Done = moved_bare O.Done
  load_bare x a (O.Reply s u) = moved_bare (O.Reply s u)
  load_bare x a (O.Switched from to k) = moved_bare (O.Switched from to k)
  load_bare x a (O.Parked from k) = moved_bare (O.Parked from k)
  load_bare x a O.Idle = moved_bare O.Idle

  store_bare : (x : Ctx) (o : Outcome)
      → map (without_head here) (store_acts t cpu x o) ≡ map (without_head there) (store_acts r cpu x o)
  store_bare x O.Done = refl
  store_bare x (O.Word u) = moved_bare (O.Word u)
  store_bare x (O.Reply s u) = moved_bare (O.Reply s u)
  store_bare x (O.Switched from to k) = moved_bare (O.Switched from to k)
  store_bare x (O.Parked from k) = moved_bare (O.Parked from k)
  store_bare x O.Idle = moved_bare O.Idle

  effect_bare : (w : World) (x : Ctx) (f : Effect)
      → map (without_head here) (effect_acts w t cpu x f) ≡ map (without_head there) (effect_acts w r cpu x f)
  effect_bare w x (F.Sets a n) = refl
  effect_bare w x (F.Goes pc) = refl
  effect_bare w x (F.Links a pc) = refl
  effect_bare w x (F.Loads a va z) =
      rw (load_bare x a (outcome_of w (E.Load cpu va z)))
  effect_bare w x (F.Stores va n z) =
      rw (store_bare x (outcome_of w (E.Store cpu va z n)))
  effect_bare w x (F.Traps k a b) =
      rw (moved_bare (outcome_of w (E.Trap cpu k a b)))
  effect_bare w x (F.Interrupts k) = rw (moved_bare
      (outcome_of (world_of w (E.SetContext cpu (at_next x))) (E.Trap cpu k 0 0)))
  effect_bare w x (F.Calls n) =
      rw (call_bare n (outcome_of (world_of w (E.SetContext cpu (at_next x))) (E.Call cpu n (arguments x))))
  effect_bare w x (F.Shows n) = rw (heads_of _ _ _
      (after_head_3 (head t cpu) (codes " out ") (word_text n) (codes "\n"))
      (after_head_3 (head r cpu) (codes " out ") (word_text n) (codes "\n")))

  word_bare : (w : World) (u : ℕ) (o : Option Occupant)
      → map (without_head here) (word_acts w t cpu u o) ≡ map (without_head there) (word_acts w r cpu u o)
  word_bare w u None = refl
  word_bare w u (Some q) = effect_bare w q.ctx (word_effect q.ctx u (instr_of u))

  fetched_bare : (w : World) (o : Outcome)
      → map (without_head here) (acts_after_fetch w t cpu o) ≡ map (without_head there) (acts_after_fetch w r cpu o)
  fetched_bare w (O.Word u) = word_bare w u (runs_on w cpu)
  fetched_bare w O.Done = moved_bare O.Done
  fetched_bare w (O.Reply s u) = moved_bare (O.Reply s u)
  fetched_bare w (O.Switched from to k) = moved_bare (O.Switched from to k)
  fetched_bare w (O.Parked from k) = moved_bare (O.Parked from k)
  fetched_bare w O.Idle = moved_bare O.Idle

  pub fetch_bare : (w : World)
      → map (without_head here) (fetch_acts w t cpu) ≡ map (without_head there) (fetch_acts w r cpu)
  fetch_bare w =
      rw (fetched_bare (world_of w (E.Fetch cpu)) (outcome_of w (E.Fetch cpu)))

  polled_bare : (w : World) (o : Outcome)
      → map (without_head here) (acts_after_poll w t cpu o) ≡ map (without_head there) (acts_after_poll w r cpu o)
  polled_bare w (O.Switched from to k) = moved_bare (O.Switched from to k)
  polled_bare w O.Idle = refl
  polled_bare w (O.Word u) = fetch_bare w
  polled_bare w O.Done = fetch_bare w
  polled_bare w (O.Reply s u) = fetch_bare w
  polled_bare w (O.Parked from k) = fetch_bare w

  pub turn_bare : (w : World) → map (without_head here) (turn w cpu t) ≡ map (without_head there) (turn w cpu r)
  turn_bare w = rw (polled_bare (world_of w (E.Poll cpu)) (outcome_of w (E.Poll cpu)))

-- without their heads the events are the same
pub bare_events : (s : Slot) (acts : List Act) → events_made (map (without_head s) acts) ≡ events_made acts
bare_events s [] = refl
bare_events s (Makes e ∷ acts) = rw (bare_events s acts)
bare_events s (Writes line ∷ acts) = bare_events s acts

pub turn_after : (w : World) (cpu t r : ℕ) → after_acts w (turn w cpu t) ≡ after_acts w (turn w cpu r)
turn_after w cpu t r =
    after-events w (turn w cpu t)
    ∙ ap (after w) (sym (bare_events (record { step = t; cpu = cpu }) (turn w cpu t))
    ∙ ap events_made (turn_bare cpu t r w) ∙ bare_events (record { step = r; cpu = cpu }) (turn w cpu r))
    ∙ sym (after-events w (turn w cpu r))

pub steps_do_not_matter : StepsDoNotMatter
steps_do_not_matter w [] [] e = refl
steps_do_not_matter w [] (r ∷ rs) e = cc
steps_do_not_matter w (s ∷ ss) [] e = cc
steps_do_not_matter w (s ∷ ss) (r ∷ rs) e =
    let same : s.cpu ≡ r.cpu = cc in
    let others : map (λ s. s.cpu) ss ≡ map (λ s. s.cpu) rs = cc in
    ap₂ (λ x y. x ++ y) (turn_bare s.cpu s.step r.step w
    ∙ ap (λ c. map (without_head (record { step = r.step; cpu = c })) (turn w c r.step)) same)
    (rw (turn_after w s.cpu s.step r.step, same, steps_do_not_matter (after_acts w (turn_of w r)) ss rs others))
