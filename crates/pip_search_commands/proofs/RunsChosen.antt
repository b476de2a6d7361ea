-- Runs are choices: each step of a run is the raises that are due, and then a turn.
use Rattle.std.proofs.Common.{◌≡◌, ◌≢◌, ℕ, zero, suc, ◌+◌, ◌-◌, ◌<◌, ◌≤◌, inl, inr, min, List, [], ◌∷◌, ◌++◌}
use Rattle.std.proofs.Common.{Bool, true, false, length, Option, None, Some, refl, sym, ap, ap₂, subst, arith}
use Rattle.std.proofs.Common.{append-nil, append_assoc, slice_index, nat_lt, if◌then◌else◌}
use Rattle.std.proofs.lemmas.Bool.{cases_lt}
use Rattle.std.proofs.lemmas.Bool.Decides.{nat_tests}
use Rattle.pip_base.specs.Memory.{Memory}
use Rattle.pip_base.specs.declared.outcome.Outcome.{Outcome}
use Rattle.pip_base.specs.declared.outcome.Outcome.TheVariants as O
use Rattle.pip_base.specs.declared.types.Ctx.{Ctx}
use Rattle.pip_base.specs.declared.types.Plan.{Plan}
use Rattle.pip_every.specs.Keys.{model_of}
use Rattle.pip_every.specs.Moments.{Moment, Scope, choice_acts, turns_after}
use Rattle.pip_every.proofs.Choosing.{more_turns, raise_chosen, same_turns, turn_chosen}
use Rattle.pip_guests.proofs.Programs.{runs_go_on}
use Rattle.pip_model.specs.Acts.{Act, Makes, Writes, after_acts, events_made, text_of}
use Rattle.pip_model.specs.Due.{is_due}
use Rattle.pip_model.specs.Effects.{word_effect}
use Rattle.pip_model.specs.Events as E
use Rattle.pip_model.specs.InstrRead.{instr_of}
use Rattle.pip_model.specs.Images.{Image}
use Rattle.pip_model.specs.Lists.{In}
use Rattle.pip_model.specs.Run.{image_world, raises, schedule, step, steps, trace_image_line}
use Rattle.pip_model.specs.Turn.{acts_after_fetch, acts_after_poll, effect_acts, fetch_acts, load_acts, outcome_of}
use Rattle.pip_model.specs.Turn.{store_acts, turn, turn_end, word_acts, world_of}
use Rattle.pip_model.specs.Worlds.{World, runs_on}
use Rattle.pip_model.specs.declared.effect.Effect.{Effect}
use Rattle.pip_model.specs.declared.effect.Effect.TheVariants as F
use Rattle.pip_model.specs.declared.processors.Occupant.{Occupant}
use Rattle.pip_model.specs.declared.turn_end.TurnEnd.{TurnEnd}
use Rattle.pip_model.specs.declared.turn_end.TurnEnd.TheVariants as N
use Rattle.pip_model.proofs.OnLists.Acts.{after-append, after-events, text-append, text-raises, text-trace}
use Rattle.pip_search.specs.Reached.{IsCovered}
use Rattle.pip_search.specs.Systems.{after_choices}
use Rattle.pip_search.specs.declared.searching.Extent.{Extent}
use Rattle.pip_search.specs.declared.searching.Extent.TheVariants.{Closed, Stopped, Within}
use Rattle.pip_search_commands.specs.MenuText.{no_menu}
use Rattle.pip_search_commands.specs.SearchDues.{begun_moment, begun_world, image_scope}
use Rattle.pip_search_commands.specs.declared.start.Start.{Start}
use Rattle.pip_search_commands.specs.RunLaw.{AreChosen, AreLinesOf, ArePlansFrom, CanComeBy, ClosedNamesRuns}
use Rattle.pip_search_commands.specs.RunLaw.{CoveredNamesRuns, IsNamedBy, IsQuietIn, RunsAreChoices, TracesGoOn}
use Rattle.pip_search_commands.specs.RunLaw.{acts_chosen, choices_in, lines_raised, steps_from}
use Rattle.pip_command_contracts.specs.Planned.{lines_planned}
use Rattle.pip_command_contracts.proofs.Accepted.{accepted}
use Rattle.pip_search_commands.proofs.EveryLines.{lines_are_of_runs}
use Rattle.pip_search_commands.proofs.EveryOnce.{told_every}

-- ---- a turn makes the same events at each step

load_events : (t cpu : ℕ) (x : Ctx) (a : ℕ) (o : Outcome)
    → events_made (load_acts t cpu x a o) ≡ events_made (load_acts 0 cpu x a o)
load_events t cpu x a (O.Word v) = refl
load_events t cpu x a O.Done = refl
load_events t cpu x a (O.Reply s v) = refl
load_events t cpu x a (O.Switched from to k) = refl
load_events t cpu x a (O.Parked from k) = refl
load_events t cpu x a O.Idle = refl

store_events : (t cpu : ℕ) (x : Ctx) (o : Outcome)
    → events_made (store_acts t cpu x o) ≡ events_made (store_acts 0 cpu x o)
store_events t cpu x (O.Word v) = refl
store_events t cpu x O.Done = refl
store_events t cpu x (O.Reply s v) = refl
store_events t cpu x (O.Switched from to k) = refl
store_events t cpu x (O.Parked from k) = refl
store_events t cpu x O.Idle = refl

effect_events : (w : World) (t cpu : ℕ) (x : Ctx) (e : Effect)
    → events_made (effect_acts w t cpu x e) ≡ events_made (effect_acts w 0 cpu x e)
effect_events w t cpu x (F.Sets a v) = refl
effect_events w t cpu x (F.Goes pc) = refl
effect_events w t cpu x (F.Links a pc) = refl
effect_events w t cpu x (F.Loads a va size) =
    rw (load_events t cpu x a (outcome_of w (E.Load cpu va size)))
effect_events w t cpu x (F.Stores va v size) =
    rw (store_events t cpu x (outcome_of w (E.Store cpu va size v)))
effect_events w t cpu x (F.Traps k a b) = refl
effect_events w t cpu x (F.Interrupts k) = refl
effect_events w t cpu x (F.Calls n) = refl
effect_events w t cpu x (F.Shows v) = refl

word_events : (w : World) (t cpu v : ℕ) (o : Option Occupant)
    → events_made (word_acts w t cpu v o) ≡ events_made (word_acts w 0 cpu v o)
word_events w t cpu v None = refl
word_events w t cpu v (Some r) = effect_events w t cpu r.ctx (word_effect r.ctx v (instr_of v))

fetched_events : (w : World) (t cpu : ℕ) (o : Outcome)
    → events_made (acts_after_fetch w t cpu o) ≡ events_made (acts_after_fetch w 0 cpu o)
fetched_events w t cpu (O.Word v) = word_events w t cpu v (runs_on w cpu)
fetched_events w t cpu O.Done = refl
fetched_events w t cpu (O.Reply s v) = refl
fetched_events w t cpu (O.Switched from to k) = refl
fetched_events w t cpu (O.Parked from k) = refl
fetched_events w t cpu O.Idle = refl

fetch_events : (w : World) (t cpu : ℕ) → events_made (fetch_acts w t cpu) ≡ events_made (fetch_acts w 0 cpu)
fetch_events w t cpu = rw (fetched_events (world_of w (E.Fetch cpu)) t cpu (outcome_of w (E.Fetch cpu)))

polled_events : (w : World) (t cpu : ℕ) (o : Outcome)
    → events_made (acts_after_poll w t cpu o) ≡ events_made (acts_after_poll w 0 cpu o)
polled_events w t cpu (O.Switched from to k) = refl
polled_events w t cpu O.Idle = refl
polled_events w t cpu (O.Word v) = fetch_events w t cpu
polled_events w t cpu O.Done = fetch_events w t cpu
polled_events w t cpu (O.Reply s v) = fetch_events w t cpu
polled_events w t cpu (O.Parked from k) = fetch_events w t cpu

pub turn_events : (w : World) (cpu t : ℕ) → events_made (turn w cpu t) ≡ events_made (turn w cpu 0)
turn_events w cpu t =
    rw (polled_events (world_of w (E.Poll cpu)) t cpu (outcome_of w (E.Poll cpu)))

events-append : (xs ys : List Act) → events_made (xs ++ ys) ≡ events_made xs ++ events_made ys
events-append [] ys = refl
events-append (Makes e ∷ xs) ys = rw (events-append xs ys)
events-append (Writes l ∷ xs) ys = events-append xs ys

-- ---- one choice more

-- where a number stands in a list
pub record StandsAt (xs : List ℕ) (x : ℕ) : Type 0 where
  pub place : ℕ
  pub within : place < length xs
  pub is : slice_index xs place ≡ x

pub place_in : (x : ℕ) (xs : List ℕ) → In x xs → StandsAt xs x
place_in x [] i = absurd i
place_in x (y ∷ ys) (inl e) = record { place = 0; within = omega arith; is = sym e }
place_in x (y ∷ ys) (inr i) =
    let s : StandsAt ys x = place_in x ys i in
    record { place = suc s.place; within = omega arith; is = s.is }

-- a line that is due after step t0 is so after all of the quiet steps
pub due_late : (t0 from : ℕ) (p : Plan) (t : ℕ) → IsQuietIn t0 from p → t0 ≤ t → is_due p t ≡ true → from ≤ t - t0
due_late t0 from p t quiet since due = elim (cases_lt t (t0 + from)) [
  | inl early ↦
      let z : true ≡ false = cc (quiet t since early) in
      absurd cc
  | inr late ↦ omega arith
]

-- after a turn one more was made, as far as they are counted
counted : (from n t : ℕ) → min t from ≤ n → min (t + 1) from ≤ (if nat_lt n from then suc n else n)
counted from n t h = grind (arith, nat_tests)

late_after : (t0 from n t : ℕ) (e : TurnEnd) → t0 ≤ t → min (t - t0) from ≤ n
    → min ((t + 1) - t0) from ≤ turns_after from n e
late_after t0 from n t (N.Polled O.Idle) since h = omega arith
late_after t0 from n t e since h =
    let one : (t - t0) + 1 ≡ (t + 1) - t0 = omega arith in
    rw (← one) (counted from n (t - t0) h)

module _ (first : Memory) (g : Scope) (m : Moment) (t0 : ℕ) where
  -- the moment after choices
  abbrev at : List ℕ → Moment
  at cs = after_choices (model_of first g) m cs

  -- acts from step t0 up to step t are those of k choices, by which as many turns were made as have to be counted
  record IsAt (acts : List Act) (t k : ℕ) : Type 0 where
    chosen : AreChosen first g m k acts
    since : t0 ≤ t
    late : min (t - t0) g.from ≤ (at chosen.choices).turns

  -- acts that make the events of one choice more
  more : (acts new : List Act) (c k : ℕ) (h : AreChosen first g m k acts) → c < g.cpus + length g.lines
      → events_made new ≡ events_made (choice_acts g (at h.choices) c) → AreChosen first g m (k + 1) (acts ++ new)
  more acts new c k h can same = record {
    choices = c ∷ h.choices;
    count = omega arith;
    can = (can, h.can);
    events = rw (
      events-append acts new,
      ap₂ (λ a b. a ++ b) h.events same,
      ← events-append
          (acts_chosen first g m h.choices) (choice_acts g (at h.choices) c),
    );
    world = rw (
      after-append m.world acts new,
      h.world,
      after-events (at h.choices).world new,
      same,
      ← after-events
          (at h.choices).world (choice_acts g (at h.choices) c),
    );
  }

  -- a line is raised
  raised : (acts : List Act) (t k j : ℕ) → In j g.lines → g.from ≤ t - t0 → IsAt acts t k
      → IsAt (acts ++ Makes (E.Raise j) ∷ []) t (k + 1)
  unfolding more
  raised acts t k j i time h =
      let s : StandsAt g.lines j = place_in j g.lines i in
      let c : ℕ = g.cpus + s.place in
      let above : g.cpus ≤ c = omega arith in
      let there : c - g.cpus ≡ s.place = omega arith in
      let now : g.from ≤ (at h.chosen.choices).turns = omega arith in
      let is : choice_acts g (at h.chosen.choices) c ≡ Makes (E.Raise j) ∷ [] =
      rw (raise_chosen g (at h.chosen.choices) c above now, there, s.is) in
      record {
        chosen = more acts (Makes (E.Raise j) ∷ []) c k h.chosen (omega arith) (cc);
        since = h.since;
        late = rw (same_turns g (at h.chosen.choices) c above) h.late;
      }

  -- the lines that are due are raised
  all_raised : (ps : List Plan) (acts : List Act) (t k : ℕ) → ArePlansFrom g.lines t0 g.from ps → IsAt acts t k
      → IsAt (acts ++ raises ps t) t (k + length (raises ps t))
  all_raised [] acts t k are h =
      let sum : k ≡ k + 0 = omega arith in
      rw (append-nil acts) (subst (IsAt acts t) sum h)
  all_raised (p ∷ ps) acts t k are h = by (is_due p t) refl (λ v n. all_raised ps v t n are.1)
    where
      by : (b : Bool) → is_due p t ≡ b → ((v : List Act) (n : ℕ) → IsAt v t n
          → IsAt (v ++ raises ps t) t (n + length (raises ps t)))
          → IsAt (acts ++ (if b then Makes (E.Raise p.line) ∷ raises ps t else raises ps t)) t
          (k + length (if b then Makes (E.Raise p.line) ∷ raises ps t else raises ps t))
      by true due others =
          let late : g.from ≤ t - t0 = due_late t0 g.from p t are.0.1 h.since due in
          let one : List Act = Makes (E.Raise p.line) ∷ [] in
          let sum : (k + 1) + length (raises ps t) ≡ k + suc (length (raises ps t)) = omega arith in
          rw (← append_assoc acts one (raises ps t))
          (subst (λ n. IsAt ((acts ++ one) ++ raises ps t) t n) sum
          (others (acts ++ one) (k + 1) (raised acts t k p.line are.0.0 late h)))
      by false due others = others acts k h

  -- a processor has its turn
  turned : (acts : List Act) (t k c : ℕ) → c < g.cpus → (h : IsAt acts t k)
      → IsAt (acts ++ turn (after_acts m.world acts) c t) (t + 1) (k + 1)
  unfolding more
  turned acts t k c lt h =
      let here = at h.chosen.choices in
      let is : choice_acts g here c ≡ turn (after_acts m.world acts) c 0 =
      cc (turn_chosen g here c lt, h.chosen.world) in
      record {
        chosen = more acts (turn (after_acts m.world acts) c t) c k h.chosen (omega arith)
            (cc (turn_events (after_acts m.world acts) c t));
        since = omega arith;
        late = rw (more_turns g here c lt) (late_after t0 g.from here.turns t (turn_end here.world c) h.since h.late);
      }

  -- what it shows can come by one choice more
  shown : (acts : List Act) (t k c most : ℕ) → c < g.cpus → IsAt acts t k → k + 1 ≤ most
      → CanComeBy first g m most (text_of (turn (after_acts m.world acts) c 0))
  shown acts t k c most lt h few =
      let here = at h.chosen.choices in
      let is : choice_acts g here c ≡ turn (after_acts m.world acts) c 0 =
      cc (turn_chosen g here c lt, h.chosen.world) in (
        c ∷ h.chosen.choices,
        omega arith,
        (
          (omega arith, h.chosen.can),
          rw (← is),
        ),
      )

  -- ---- the steps

  module _ (ps : List Plan) (seed : ℕ) (are : ArePlansFrom g.lines t0 g.from ps) (some : 1 ≤ g.cpus) where
    -- after some acts: n steps more, by that many choices in all
    on : (n t k most : ℕ) (acts : List Act) → IsAt acts t k → k + (n + lines_raised ps n t) ≡ most
        → AreChosen first g m most (acts ++ steps (after_acts m.world acts) ps seed g.cpus n t)
        × AreLinesOf (CanComeBy first g m most) t n (text_of (steps (after_acts m.world acts) ps seed g.cpus n t))
    on zero t k most acts h sum = (
      rw (append-nil acts) (subst (λ n. AreChosen first g m n acts) (omega (arith, sum)) h.chosen),
      refl,
    )
    on (suc n) t k most acts h sum =
        let w : World = after_acts m.world acts in
        let c : ℕ = schedule seed g.cpus t in
        let lt : c < g.cpus = omega arith in
        let rs : List Act = raises ps t in
        let j : ℕ = k + length rs in
        let r : IsAt (acts ++ rs) t j = all_raised ps acts t k are h in
        let w' : World = after_acts w rs in
        let same : after_acts m.world (acts ++ rs) ≡ w' = after-append m.world acts rs in
        let turn_is : List Act = turn w' c t in
        let one : IsAt ((acts ++ rs) ++ turn_is) (t + 1) (j + 1) =
        subst (λ v. IsAt ((acts ++ rs) ++ turn v c t) (t + 1) (j + 1)) same (turned (acts ++ rs) t j c lt r) in
        let st : List Act = step w ps c t in
        let all : (acts ++ rs) ++ turn_is ≡ acts ++ st = append_assoc acts rs turn_is in
        let next : IsAt (acts ++ st) (t + 1) (j + 1) = rw (← all) one in
        let there : after_acts m.world (acts ++ st) ≡ after_acts w st = after-append m.world acts st in
        let left : (j + 1) + (n + lines_raised ps n (t + 1)) ≡ most = omega arith in
        let rest = on n (t + 1) (j + 1) most (acts ++ st) next left in
        let others : List Act = steps (after_acts w st) ps seed g.cpus n (t + 1) in
        let label : CanComeBy first g m most (text_of (turn w' c 0)) =
        subst (λ v. CanComeBy first g m most (text_of (turn v c 0))) same
        (shown (acts ++ rs) t j c most lt r (omega arith)) in (
          rw (← append_assoc acts st others) (subst
              (λ v. AreChosen first g m most ((acts ++ st) ++ steps v ps seed g.cpus n (t + 1))) there rest.0),
          record {
            label = text_of (turn w' c 0);
            line = text_of turn_is;
            rest = text_of others;
            whole = rw (text-append st others, text-append rs turn_is, text-raises ps t);
            same = lines_are_of_runs w' c t;
            known = λ _. label;
            goes_on = rw (← there) rest.1;
          },
        )

-- what steps from where a search begins do and write, as choices do
abbrev IsChosenRun : Image → ℕ → Start → List Plan → ℕ → ℕ → Memory → Type 0
IsChosenRun i from start ps seed n first =
    AreChosen first (image_scope i from) (begun_moment i start) (choices_in ps start.count n)
    (steps_from i start ps seed n)
    × AreLinesOf (CanComeBy first (image_scope i from) (begun_moment i start) (choices_in ps start.count n))
    start.count n (text_of (steps_from i start ps seed n))

chosen_run : (i : Image) (from : ℕ) (start : Start) (ps : List Plan) (seed n : ℕ) (first : Memory) → 1 ≤ i.cpus
    → ArePlansFrom (lines_planned i.plans) start.count from ps → IsChosenRun i from start ps seed n first
chosen_run i from start ps seed n first some are =
    let g : Scope = image_scope i from in
    let m : Moment = begun_moment i start in
    on first g m start.count ps seed are some n start.count 0 (choices_in ps start.count n) [] (record {
      chosen = record { choices = []; count = refl; can = tt; events = refl; world = refl };
      since = omega arith;
      late = omega arith;
    }) (omega arith)

pub runs_are_choices : RunsAreChoices
runs_are_choices input i from start ps seed n first bytes is are =
    chosen_run i from start ps seed n first (accepted input i bytes is).cpus_least are

-- ---- a trace

pub traces_go_on : TracesGoOn
traces_go_on i start n =
    let w : World = image_world i in
    let line : List ℕ = trace_image_line i.frames i.cpus (length i.plans) (length i.pages) in
    let first : List Act = steps w i.plans start.seed i.cpus start.count 0 in
    let others : List Act = steps_from i start i.plans start.seed n in
    let sum : 0 + start.count ≡ start.count = omega arith in
    let at = ap (λ t. first ++ steps (begun_world i start) i.plans start.seed i.cpus n t) sum in
    rw (
      text-trace w line i.plans start.seed i.cpus (start.count + n),
      runs_go_on w i.plans start.seed i.cpus
          start.count n 0,
      at,
      text-append first others,
    )

-- ---- what a search says

pub lines_known : (P Q : List ℕ → Type 0) (n t : ℕ) (text : List ℕ)
    → ((label : List ℕ) → label ≢ [] → P label → Q label) → AreLinesOf P t n text → AreLinesOf Q t n text
lines_known P Q zero t text f h = h
lines_known P Q (suc n) t text f h = record {
  label = h.label;
  line = h.line;
  rest = h.rest;
  whole = h.whole;
  same = h.same;
  known = λ some. f h.label some (h.known some);
  goes_on = lines_known P Q n (t + 1) h.rest f h.goes_on;
}

-- fewer choices are covered, too
fewer_covered : (d : Extent) (j k : ℕ) → j ≤ k → IsCovered d k → IsCovered d j
fewer_covered (Closed depth) j k le h = tt
fewer_covered (Within depth) j k le h = omega arith
fewer_covered (Stopped depth) j k le h = omega arith

pub covered_names_runs : CoveredNamesRuns
covered_names_runs states from most start i v s ps seed n are far =
    let g : Scope = image_scope i from in
    let m : Moment = begun_moment i start in
    let all : ℕ = choices_in ps start.count n in
    let told = told_every no_menu states from most start i v s refl in
    let k = told.counted.all [] tt (fewer_covered s.verdict 0 all (omega arith) far) in
    let some : 1 ≤ i.cpus = omega arith in
    let r = chosen_run i from start ps seed n s.first some are in
    lines_known (CanComeBy s.first g m all) (IsNamedBy s.found) n start.count
    (text_of (steps_from i start ps seed n))
    (λ label nonempty can.
    let w = told.all label can.0 can.2 nonempty (fewer_covered s.verdict (length can.0) all can.1 far) in
    search) r.1

pub closed_names_runs : ClosedNamesRuns
closed_names_runs states from depth most start i v s closed ps seed n are =
    covered_names_runs states from most start i v s ps seed n are
    (rw closed tt)
