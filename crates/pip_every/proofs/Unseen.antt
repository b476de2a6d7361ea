-- No turn and no line depends on the caches: worlds that differ in them alone make the same acts, and differ in them
-- alone again.
use Rattle.std.proofs.Common.{◌≡◌, ℕ, refl, ap, ap₂, List, [], ◌∷◌, Option, Some, None}
use Rattle.pip_base.specs.declared.outcome.Outcome.{Outcome}
use Rattle.pip_base.specs.declared.outcome.Outcome.TheVariants as O
use Rattle.pip_base.specs.declared.types.Ctx.{Ctx}
use Rattle.pip_model.specs.Acts.{Act, Makes, Writes, after_acts}
use Rattle.pip_model.specs.Events as E
use Rattle.pip_model.specs.Events.{Event}
use Rattle.pip_model.specs.Effects.{at_next, word_effect}
use Rattle.pip_model.specs.InstrRead.{instr_of}
use Rattle.pip_model.specs.Turn.{arguments, call_line, effect_acts, fetch_acts, acts_after_fetch, fetched_end}
use Rattle.pip_model.specs.Turn.{load_acts, move_acts, outcome_of, acts_after_poll, polled_end, store_acts, turn}
use Rattle.pip_model.specs.Turn.{turn_end, word_acts, world_of}
use Rattle.pip_model.specs.Tree.{Tree}
use Rattle.pip_model.specs.Worlds.{World, runs_on}
use Rattle.pip_model.specs.declared.effect.Effect.{Effect}
use Rattle.pip_model.specs.declared.effect.Effect.TheVariants as F
use Rattle.pip_model.specs.declared.processors.Occupant.{Occupant}
use Rattle.pip_model.proofs.Events.Unseen.{caches_tell_nothing}
use Rattle.pip_every.specs.Menus.{acts_after_line, deed_acts, deed_event, deed_line, hostile_acts}
use Rattle.pip_every.specs.declared.menus.Deed.{Deed}

-- two worlds that differ in their caches at most
pub record IsBut (w v : World) : Type 0 where
  pub tree : w.tree ≡ v.tree
  pub cpus : w.cpus ≡ v.cpus

-- the second is the first with other caches
pub other : (w v : World) → IsBut w v → record w { caches = v.caches } ≡ v
other w v b =
    let f : Tree → List (Option Occupant) → World = λ t cs. record { tree = t; cpus = cs; caches = v.caches } in
    ap₂ f b.tree b.cpus

pub event_same : (w v : World) (e : Event) → IsBut w v
    → (outcome_of w e ≡ outcome_of v e) × IsBut (world_of w e) (world_of v e)
event_same w v e b =
    let d = caches_tell_nothing w v.caches e in
    let o = other w v b in (
      rw (← d.outcome, o),
      record {
        tree = rw (← d.tree, o);
        cpus = rw (← d.cpus, o);
      },
    )

-- after the same acts
pub acts_same : (es : List Act) (w v : World) → IsBut w v → IsBut (after_acts w es) (after_acts v es)
acts_same [] w v b = b
acts_same (Makes e ∷ es) w v b = acts_same es (world_of w e) (world_of v e) (event_same w v e b).1
acts_same (Writes line ∷ es) w v b = acts_same es w v b

runs_same : (w v : World) (cpu : ℕ) → IsBut w v → runs_on w cpu ≡ runs_on v cpu
runs_same w v cpu b = rw b.cpus

effect_same : (w v : World) (t cpu : ℕ) (x : Ctx) (f : Effect) → IsBut w v
    → effect_acts w t cpu x f ≡ effect_acts v t cpu x f
effect_same w v t cpu x (F.Sets a k) b = refl
effect_same w v t cpu x (F.Goes pc) b = refl
effect_same w v t cpu x (F.Links a pc) b = refl
effect_same w v t cpu x (F.Loads a va size) b = ap (λ o. Makes (E.Load cpu va size) ∷ load_acts t cpu x a o)
    (event_same w v (E.Load cpu va size) b).0
effect_same w v t cpu x (F.Stores va k size) b = ap (λ o. Makes (E.Store cpu va size k) ∷ store_acts t cpu x o)
    (event_same w v (E.Store cpu va size k) b).0
effect_same w v t cpu x (F.Traps k a c) b = ap (λ o. Makes (E.Trap cpu k a c) ∷ move_acts t cpu o)
    (event_same w v (E.Trap cpu k a c) b).0
effect_same w v t cpu x (F.Interrupts k) b =
    let s = event_same w v (E.SetContext cpu (at_next x)) b in
    ap (λ o. Makes (E.SetContext cpu (at_next x)) ∷ Makes (E.Trap cpu k 0 0) ∷ move_acts t cpu o)
    (event_same (world_of w (E.SetContext cpu (at_next x))) (world_of v (E.SetContext cpu (at_next x)))
    (E.Trap cpu k 0 0) s.1).0
effect_same w v t cpu x (F.Calls n) b =
    let s = event_same w v (E.SetContext cpu (at_next x)) b in
    ap (λ o. Makes (E.SetContext cpu (at_next x)) ∷ Makes (E.Call cpu n (arguments x)) ∷ Writes (call_line t cpu n o)
    ∷ [])
    (event_same (world_of w (E.SetContext cpu (at_next x))) (world_of v (E.SetContext cpu (at_next x)))
    (E.Call cpu n (arguments x)) s.1).0
effect_same w v t cpu x (F.Shows k) b = refl

word_same : (w v : World) (t cpu k : ℕ) (o : Option Occupant) → IsBut w v
    → word_acts w t cpu k o ≡ word_acts v t cpu k o
word_same w v t cpu k None b = refl
word_same w v t cpu k (Some r) b = effect_same w v t cpu r.ctx (word_effect r.ctx k (instr_of k)) b

fetched_same : (w v : World) (t cpu : ℕ) (o : Outcome) → IsBut w v → acts_after_fetch w t cpu o
    ≡ acts_after_fetch v t cpu o
fetched_same w v t cpu (O.Word k) b =
    rw (word_same w v t cpu k (runs_on w cpu) b, runs_same w v cpu b)
fetched_same w v t cpu O.Done b = refl
fetched_same w v t cpu (O.Reply s k) b = refl
fetched_same w v t cpu (O.Switched f to k) b = refl
fetched_same w v t cpu (O.Parked f k) b = refl
fetched_same w v t cpu O.Idle b = refl

fetch_same : (w v : World) (t cpu : ℕ) → IsBut w v → fetch_acts w t cpu ≡ fetch_acts v t cpu
fetch_same w v t cpu b =
    let s = event_same w v (E.Fetch cpu) b in
    rw (fetched_same (world_of w (E.Fetch cpu)) (world_of v (E.Fetch cpu)) t cpu (outcome_of w (E.Fetch cpu)) s.1, s.0)

polled_same : (w v : World) (t cpu : ℕ) (o : Outcome) → IsBut w v → acts_after_poll w t cpu o
    ≡ acts_after_poll v t cpu o
polled_same w v t cpu (O.Word k) b = fetch_same w v t cpu b
polled_same w v t cpu O.Done b = fetch_same w v t cpu b
polled_same w v t cpu (O.Reply s k) b = fetch_same w v t cpu b
polled_same w v t cpu (O.Switched f to k) b = refl
polled_same w v t cpu (O.Parked f k) b = fetch_same w v t cpu b
polled_same w v t cpu O.Idle b = refl

pub turn_same : (w v : World) (cpu t : ℕ) → IsBut w v → turn w cpu t ≡ turn v cpu t
turn_same w v cpu t b =
    let s = event_same w v (E.Poll cpu) b in
    rw (polled_same (world_of w (E.Poll cpu)) (world_of v (E.Poll cpu)) t cpu (outcome_of w (E.Poll cpu)) s.1, s.0)

end_polled : (w v : World) (cpu : ℕ) (o : Outcome) → IsBut w v → polled_end w cpu o ≡ polled_end v cpu o
end_polled w v cpu (O.Word k) b = ap fetched_end (event_same w v (E.Fetch cpu) b).0
end_polled w v cpu O.Done b = ap fetched_end (event_same w v (E.Fetch cpu) b).0
end_polled w v cpu (O.Reply s k) b = ap fetched_end (event_same w v (E.Fetch cpu) b).0
end_polled w v cpu (O.Switched f to k) b = refl
end_polled w v cpu (O.Parked f k) b = ap fetched_end (event_same w v (E.Fetch cpu) b).0
end_polled w v cpu O.Idle b = refl

pub end_same : (w v : World) (cpu : ℕ) → IsBut w v → turn_end w cpu ≡ turn_end v cpu
end_same w v cpu b =
    let s = event_same w v (E.Poll cpu) b in
    rw (end_polled (world_of w (E.Poll cpu)) (world_of v (E.Poll cpu)) cpu (outcome_of w (E.Poll cpu)) s.1, s.0)

deed_same : (w v : World) (cpu : ℕ) (d : Deed) → IsBut w v → deed_acts w cpu d ≡ deed_acts v cpu d
deed_same w v cpu d b = ap (λ o. Makes (deed_event cpu d) ∷ Writes (deed_line cpu d o) ∷ [])
    (event_same w v (deed_event cpu d) b).0

line_same : (w v : World) (cpu : ℕ) (d : Option Deed) (o : Outcome) → IsBut w v
    → acts_after_line w cpu d o ≡ acts_after_line v cpu d o
line_same w v cpu d (O.Switched f to k) b = refl
line_same w v cpu None o b = refl
line_same w v cpu (Some d) o b = deed_same w v cpu d b

pub hostile_same : (w v : World) (cpu : ℕ) (d : Option Deed) → IsBut w v → hostile_acts w cpu d ≡ hostile_acts v cpu d
hostile_same w v cpu d b =
    let s = event_same w v (E.Poll cpu) b in
    rw (line_same (world_of w (E.Poll cpu)) (world_of v (E.Poll cpu)) cpu d (outcome_of w (E.Poll cpu)) s.1, s.0)
