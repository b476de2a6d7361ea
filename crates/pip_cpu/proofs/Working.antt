-- In how many steps an instruction is carried out.
use Rattle.std.proofs.Common.{◌≡◌, ℕ, ◌+◌, ◌≤◌, List, [], ◌∷◌, ◌++◌, sym, ap, ◌∙◌, subst, arith}
use Rattle.pip_base.specs.declared.outcome.Outcome.{Outcome}
use Rattle.pip_base.specs.declared.outcome.Outcome.TheVariants as O
use Rattle.pip_base.specs.declared.types.Size.{Size}
use Rattle.pip_cpu.proofs.Stages.{goes_on}
use Rattle.pip_cpu.specs.Made.{IsNext}
use Rattle.pip_model.specs.Acts.{Act, Makes, Writes, after_acts, events_made}
use Rattle.pip_model.specs.Answers.{Five}
use Rattle.pip_model.specs.Effects.{at_next}
use Rattle.pip_model.specs.Events as E
use Rattle.pip_model.specs.Events.{Event}
use Rattle.pip_model.specs.Happens.{event}
use Rattle.pip_model.specs.Port.{Changes, Follows, TakesAtMost, TakesNoMore}
use Rattle.pip_model.specs.Turn.{acts_after_fetch, acts_after_poll, arguments, effect_acts, fetch_acts, turn, word_acts}
use Rattle.pip_model.specs.Turn.{world_of}
use Rattle.pip_model.specs.Work.{event_work, events_work}
use Rattle.pip_model.specs.Worlds.{World, ctx_on, runs_on}
use Rattle.pip_model.specs.declared.effect.Effect.TheVariants as F

-- acts and more acts
pub work_append : (w : World) (xs ys : List Act) → events_work w (events_made (xs ++ ys))
    ≡ events_work w (events_made xs) + events_work (after_acts w xs) (events_made ys)
work_append w [] ys = omega arith
work_append w (Makes e ∷ xs) ys = let rest = work_append (event w e).world xs ys in omega (arith, rest)
work_append w (Writes line ∷ xs) ys = work_append w xs ys

module _ (S : World → Type 0) (t cpu before after : ℕ) where
  -- the one event that reads
  pub load_takes : (a va : ℕ) (size : Size) → TakesAtMost S (E.Load cpu va size) before after
      → TakesNoMore S (λ w. effect_acts w t cpu (ctx_on w cpu) (F.Loads a va size)) before after
  load_takes a va size one w h = let so = one w h in omega (arith, so)

  pub store_takes : (va x : ℕ) (size : Size) → TakesAtMost S (E.Store cpu va size x) before after
      → TakesNoMore S (λ w. effect_acts w t cpu (ctx_on w cpu) (F.Stores va x size)) before after
  store_takes va x size one w h = let so = one w h in omega (arith, so)

  pub trap_takes : (k a b : ℕ) → TakesAtMost S (E.Trap cpu k a b) before after
      → TakesNoMore S (λ w. effect_acts w t cpu (ctx_on w cpu) (F.Traps k a b)) before after
  trap_takes k a b one w h = let so = one w h in omega (arith, so)

  -- the first of several
  pub fetch_takes : TakesAtMost S (E.Fetch cpu) before after → TakesNoMore S (λ w. fetch_acts w t cpu) before after
  fetch_takes one w h = let so = one w h in omega (arith, so)

  pub poll_takes : TakesAtMost S (E.Poll cpu) before after → TakesNoMore S (λ w. turn w cpu t) before after
  poll_takes one w h = let so = one w h in omega (arith, so)

  -- pc goes on, and then there is an event
  module _ (T : World → Type 0) (pc : ℕ) (changes : Changes S T cpu (λ x. record x { pc = pc })) (is : IsNext S cpu pc)
    where
      next_takes : (e : Event) → TakesAtMost T e before after → (w : World) → S w
          → after ≤ before + event_work (world_of w (E.SetContext cpu (at_next (ctx_on w cpu)))) e
      next_takes e one w h = subst (λ p.
          after ≤ before + event_work (world_of w (E.SetContext cpu (record (ctx_on w cpu) { pc = p }))) e) (is w h)
          (one _ (changes w h))

      pub interrupt_takes : (k : ℕ) → TakesAtMost T (E.Trap cpu k 0 0) before after
          → TakesNoMore S (λ w. effect_acts w t cpu (ctx_on w cpu) (F.Interrupts k)) before after
      interrupt_takes k one w h = let so = next_takes (E.Trap cpu k 0 0) one w h in omega (arith, so)

      pub call_takes : (n : ℕ) (five : Five) → ((w : World) → S w → five ≡ arguments (ctx_on w cpu))
          → TakesAtMost T (E.Call cpu n five) before after
          → TakesNoMore S (λ w. effect_acts w t cpu (ctx_on w cpu) (F.Calls n)) before after
      call_takes n five args one w h =
          let so = subst (λ a. after ≤ before + event_work (world_of w (E.SetContext cpu (at_next (ctx_on w cpu))))
          (E.Call cpu n a)) (args w h) (next_takes (E.Call cpu n five) one w h) in
          omega (arith, so)

-- an event, and what comes after it
module _ (S T : World → Type 0) (t cpu : ℕ) (o : Outcome) (before between after : ℕ) where
  -- a word was fetched, and it is run
  pub fetched_takes : Follows S T (E.Fetch cpu) o → (v : ℕ) → o ≡ O.Word v → TakesAtMost S (E.Fetch cpu) before between
      → TakesNoMore T (λ w. word_acts w t cpu v (runs_on w cpu)) between after
      → TakesNoMore S (λ w. fetch_acts w t cpu) before after
  fetched_takes follows v is one more w h =
      let f = follows w h in
      let u = world_of w (E.Fetch cpu) in
      let first = one w h in
      let last = subst (λ p. after ≤ between + events_work u (events_made (acts_after_fetch u t cpu p))) (sym is ∙ f.0)
      (more u f.1) in
      omega (arith, first, last)

  -- the poll didn't switch, and a fetch comes after it
  pub polled_takes : Follows S T (E.Poll cpu) o → ((f to k : ℕ) → o ≡ O.Switched f to k → ⊥) → (o ≡ O.Idle → ⊥)
      → TakesAtMost S (E.Poll cpu) before between → TakesNoMore T (λ w. fetch_acts w t cpu) between after
      → TakesNoMore S (λ w. turn w cpu t) before after
  polled_takes follows n m one more w h =
      let f = follows w h in
      let u = world_of w (E.Poll cpu) in
      let first = one w h in
      let same = sym (goes_on u t cpu o n m) ∙ ap (acts_after_poll u t cpu) f.0 in
      let last = subst (λ k. after ≤ between + events_work u (events_made k)) same (more u f.1) in
      omega (arith, first, last)
