-- The events of a turn, one after another.
use Rattle.std.proofs.Common.{◌≡◌, ℕ, ◌&&◌, Bool, true, false, List, refl, sym, ap, ◌∙◌, Option, Some, None}
use Rattle.std.specs.Prelude.{option_map}
use Rattle.pip_base.specs.declared.outcome.Outcome.{Outcome}
use Rattle.pip_base.specs.declared.outcome.Outcome.TheVariants as O
use Rattle.pip_base.specs.declared.types.Ctx.{Ctx}
use Rattle.pip_base.specs.declared.types.Size.{Size}
use Rattle.pip_cpu.proofs.Stages.{goes_on}
use Rattle.pip_model.specs.Acts.{events_made}
use Rattle.pip_model.specs.Effects.{at_next, word_effect}
use Rattle.pip_model.specs.Events as E
use Rattle.pip_model.specs.Happens.{event}
use Rattle.pip_model.specs.InstrRead.{instr_of}
use Rattle.pip_model.specs.Turn.{acts_after_fetch, acts_after_poll, arguments, effect_acts, fetch_acts, load_acts}
use Rattle.pip_model.specs.Turn.{outcome_of, store_acts, turn, word_acts, world_of}
use Rattle.pip_model.specs.Worlds.{World, ctx_of, ctx_on, runs_on}
use Rattle.pip_model.specs.declared.effect.Effect.{Effect}
use Rattle.pip_model.specs.declared.effect.Effect.TheVariants as F
use Rattle.pip_model.specs.declared.processors.Occupant.{Occupant}
use Rattle.pip_guests.specs.Sights.{Sight}
use Rattle.pip_guests.specs.Sights as T

and_true : (b : Bool) → (b && true) ≡ b
and_true true = refl
and_true false = refl

module _ (own : List ℕ) (sight : Sight) (w : World) (cpu : ℕ) where
  -- ---- effects

  after_load : (v : World) (x : Ctx) (a : ℕ) (o : Outcome)
      → T.events_pass own sight v (events_made (load_acts 0 cpu x a o)) ≡ true
  after_load v x a (O.Word n) = refl
  after_load v x a O.Done = refl
  after_load v x a (O.Reply s n) = refl
  after_load v x a (O.Switched f to k) = refl
  after_load v x a (O.Parked f k) = refl
  after_load v x a O.Idle = refl

  after_store : (v : World) (x : Ctx) (o : Outcome)
      → T.events_pass own sight v (events_made (store_acts 0 cpu x o)) ≡ true
  after_store v x (O.Word n) = refl
  after_store v x O.Done = refl
  after_store v x (O.Reply s n) = refl
  after_store v x (O.Switched f to k) = refl
  after_store v x (O.Parked f k) = refl
  after_store v x O.Idle = refl

  abbrev effect_reads : Effect → Bool
  effect_reads f = T.events_pass own sight w (events_made (effect_acts w 0 cpu (ctx_on w cpu) f))

  module _ (f : Effect) where
    pub of_load : (a va : ℕ) (z : Size) → f ≡ F.Loads a va z
        → T.event_passes own sight w (E.Load cpu va z) ≡ effect_reads f
    of_load a va z e = sym (ap effect_reads e ∙ ap (λ b. T.event_passes own sight w (E.Load cpu va z) && b)
        (after_load (world_of w (E.Load cpu va z)) (ctx_on w cpu) a (outcome_of w (E.Load cpu va z)))
        ∙ and_true (T.event_passes own sight w (E.Load cpu va z)))

    pub of_store : (va n : ℕ) (z : Size) → f ≡ F.Stores va n z
        → T.event_passes own sight w (E.Store cpu va z n) ≡ effect_reads f
    of_store va n z e = sym (ap effect_reads e ∙ ap (λ b. T.event_passes own sight w (E.Store cpu va z n) && b)
        (after_store (world_of w (E.Store cpu va z n)) (ctx_on w cpu) (outcome_of w (E.Store cpu va z n)))
        ∙ and_true (T.event_passes own sight w (E.Store cpu va z n)))

    pub of_trap : (k a b : ℕ) → f ≡ F.Traps k a b → T.event_passes own sight w (E.Trap cpu k a b) ≡ effect_reads f
    of_trap k a b e = sym (ap effect_reads e ∙ and_true (T.event_passes own sight w (E.Trap cpu k a b)))

    -- the pc has gone on before an interrupt and a call
    module _ (x : Ctx) (is : ctx_on w cpu ≡ x) where
      pub of_interrupt : (k : ℕ) → f ≡ F.Interrupts k
          → T.event_passes own sight (event w (E.SetContext cpu (at_next x))).world (E.Trap cpu k 0 0)
          ≡ effect_reads f
      of_interrupt k e =
          sym (ap effect_reads e
          ∙ ap (λ z. T.event_passes own sight (event w (E.SetContext cpu (at_next z))).world (E.Trap cpu k 0 0)
          && true) is
          ∙ and_true (T.event_passes own sight (event w (E.SetContext cpu (at_next x))).world (E.Trap cpu k 0 0)))

      pub of_call : (n : ℕ) → f ≡ F.Calls n
          → T.event_passes own sight (event w (E.SetContext cpu (at_next x))).world (E.Call cpu n (arguments x))
          ≡ effect_reads f
      of_call n e =
          sym (ap effect_reads e
          ∙ ap (λ z. T.event_passes own sight (event w (E.SetContext cpu (at_next z))).world
          (E.Call cpu n (arguments z)) && true) is
          ∙ and_true (T.event_passes own sight (event w (E.SetContext cpu (at_next x))).world
          (E.Call cpu n (arguments x))))

    -- the others make no event that reads
    pub of_sets : (a v : ℕ) → f ≡ F.Sets a v → true ≡ effect_reads f
    of_sets a v e = sym (ap effect_reads e)

    pub of_goes : (pc : ℕ) → f ≡ F.Goes pc → true ≡ effect_reads f
    of_goes pc e = sym (ap effect_reads e)

    pub of_links : (a pc : ℕ) → f ≡ F.Links a pc → true ≡ effect_reads f
    of_links a pc e = sym (ap effect_reads e)

    pub of_shows : (v : ℕ) → f ≡ F.Shows v → true ≡ effect_reads f
    of_shows v e = sym (ap effect_reads e)

  -- ---- a fetch

  abbrev fetched : World
  fetched = world_of w (E.Fetch cpu)

  abbrev fetch_reads : Bool
  fetch_reads = T.events_pass own sight w (events_made (fetch_acts w 0 cpu))

  pub fetch_off : T.event_passes own sight w (E.Fetch cpu) ≡ false → false ≡ fetch_reads
  fetch_off e = sym (ap (λ b. b && T.events_pass own sight fetched
      (events_made (acts_after_fetch fetched 0 cpu (outcome_of w (E.Fetch cpu))))) e)

  no_word : (o : Outcome) → ((v : ℕ) → o ≡ O.Word v → ⊥)
      → T.events_pass own sight fetched (events_made (acts_after_fetch fetched 0 cpu o)) ≡ true
  no_word (O.Word v) n = absurd (n v refl)
  no_word O.Done n = refl
  no_word (O.Reply s v) n = refl
  no_word (O.Switched f to k) n = refl
  no_word (O.Parked f k) n = refl
  no_word O.Idle n = refl

  module _ (on : T.event_passes own sight w (E.Fetch cpu) ≡ true) (o : Outcome)
      (is : o ≡ outcome_of w (E.Fetch cpu)) where
    fetch_rest : fetch_reads
        ≡ T.events_pass own sight fetched (events_made (acts_after_fetch fetched 0 cpu o))
    fetch_rest = ap (λ b. b && T.events_pass own sight fetched
        (events_made (acts_after_fetch fetched 0 cpu (outcome_of w (E.Fetch cpu))))) on
        ∙ ap (λ z. T.events_pass own sight fetched (events_made (acts_after_fetch fetched 0 cpu z))) (sym is)

    pub fetch_other : ((v : ℕ) → o ≡ O.Word v → ⊥) → true ≡ fetch_reads
    unfolding fetch_rest
    fetch_other n = sym (fetch_rest ∙ no_word o n)

    pub fetch_word : (v : ℕ) → o ≡ O.Word v
        → T.events_pass own sight fetched (events_made (word_acts fetched 0 cpu v (runs_on fetched cpu)))
        ≡ fetch_reads
    unfolding fetch_rest
    fetch_word v word = sym (fetch_rest
        ∙ ap (λ z. T.events_pass own sight fetched (events_made (acts_after_fetch fetched 0 cpu z))) word)

  -- ---- a word

  pub word_nobody : (v : ℕ) → option_map (λ r. r.ctx) (runs_on w cpu) ≡ None
      → true ≡ T.events_pass own sight w (events_made (word_acts w 0 cpu v (runs_on w cpu)))
  word_nobody v none = sym (go (runs_on w cpu) none)
    where
      go : (r : Option Occupant) → option_map (λ r. r.ctx) r ≡ None
          → T.events_pass own sight w (events_made (word_acts w 0 cpu v r)) ≡ true
      go None e = refl
      go (Some r) e = cc

  pub word_ran : (v : ℕ) (x : Ctx) → option_map (λ r. r.ctx) (runs_on w cpu) ≡ Some x → (f : Effect)
      → f ≡ word_effect x v (instr_of v)
      → effect_reads f ≡ T.events_pass own sight w (events_made (word_acts w 0 cpu v (runs_on w cpu)))
  word_ran v x some f e = sym (go (runs_on w cpu) refl some)
    where
      go : (r : Option Occupant) → runs_on w cpu ≡ r → option_map (λ r. r.ctx) r ≡ Some x
          → T.events_pass own sight w (events_made (word_acts w 0 cpu v r)) ≡ effect_reads f
      go None k q = cc
      go (Some r) k q =
          let here : r.ctx ≡ x = cc in
          let on : ctx_on w cpu ≡ r.ctx = ap ctx_of k in
          let same : f ≡ word_effect r.ctx v (instr_of v) = e ∙ ap (λ z. word_effect z v (instr_of v)) (sym here) in
          ap (λ g. T.events_pass own sight w (events_made (effect_acts w 0 cpu r.ctx g))) (sym same)
          ∙ ap (λ z. T.events_pass own sight w (events_made (effect_acts w 0 cpu z f))) (sym on)

  -- what runs has this context
  pub runs_with : (x : Ctx) → option_map (λ r. r.ctx) (runs_on w cpu) ≡ Some x → ctx_on w cpu ≡ x
  runs_with x e = go (runs_on w cpu) e
    where
      go : (r : Option Occupant) → option_map (λ r. r.ctx) r ≡ Some x → ctx_of r ≡ x
      go None q = cc
      go (Some r) q = cc

  -- ---- a poll

  abbrev polled : World
  polled = world_of w (E.Poll cpu)

  abbrev turn_reads : Bool
  turn_reads = T.events_pass own sight w (events_made (turn w cpu 0))

  pub turn_off : T.event_passes own sight w (E.Poll cpu) ≡ false → false ≡ turn_reads
  turn_off e = sym (ap (λ b. b && T.events_pass own sight polled
      (events_made (acts_after_poll polled 0 cpu (outcome_of w (E.Poll cpu))))) e)

  module _ (on : T.event_passes own sight w (E.Poll cpu) ≡ true) (o : Outcome)
      (is : o ≡ outcome_of w (E.Poll cpu)) where
    poll_rest : turn_reads ≡ T.events_pass own sight polled (events_made (acts_after_poll polled 0 cpu o))
    poll_rest = ap (λ b. b && T.events_pass own sight polled
        (events_made (acts_after_poll polled 0 cpu (outcome_of w (E.Poll cpu))))) on
        ∙ ap (λ z. T.events_pass own sight polled (events_made (acts_after_poll polled 0 cpu z))) (sym is)

    pub turn_moved : (f to k : ℕ) → o ≡ O.Switched f to k → true ≡ turn_reads
    unfolding poll_rest
    turn_moved f to k e = sym (poll_rest
        ∙ ap (λ z. T.events_pass own sight polled (events_made (acts_after_poll polled 0 cpu z))) e)

    pub turn_idle : o ≡ O.Idle → true ≡ turn_reads
    unfolding poll_rest
    turn_idle e = sym (poll_rest
        ∙ ap (λ z. T.events_pass own sight polled (events_made (acts_after_poll polled 0 cpu z))) e)

    pub turn_on : ((f to k : ℕ) → o ≡ O.Switched f to k → ⊥) → (o ≡ O.Idle → ⊥)
        → T.events_pass own sight polled (events_made (fetch_acts polled 0 cpu)) ≡ turn_reads
    unfolding poll_rest
    turn_on n m = sym (poll_rest
        ∙ ap (λ acts. T.events_pass own sight polled (events_made acts)) (goes_on polled 0 cpu o n m))
