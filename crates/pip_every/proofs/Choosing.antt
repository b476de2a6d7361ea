-- What a choice makes of a machine at a moment.
use Rattle.std.proofs.Common.{◌≡◌, ℕ, ◌-◌, ◌<◌, ◌≤◌, nat_lt, if◌then◌else◌, List, [], ◌∷◌, Option, Some}
use Rattle.std.proofs.Common.{slice_index, refl, sym, subst, ◌∙◌}
use Rattle.std.proofs.lemmas.Bool.{lt-ltb, le-ltb}
use Rattle.std.proofs.lemmas.List.{append-nil}
use Rattle.pip_base.specs.declared.outcome.Outcome.{Outcome}
use Rattle.pip_base.specs.Memory.{Memory}
use Rattle.pip_cpu.specs.Made.{Made}
use Rattle.pip_io.specs.Taken.{plain}
use Rattle.pip_model.specs.Acts.{Act, Makes, after_acts}
use Rattle.pip_model.specs.Events as E
use Rattle.pip_model.specs.Port.{Follows}
use Rattle.pip_model.specs.Turn.{turn, turn_end}
use Rattle.pip_model.specs.Worlds.{World}
use Rattle.pip_model.specs.declared.processors.Occupant.{Occupant}
use Rattle.pip_model.specs.declared.turn_end.TurnEnd.{TurnEnd}
use Rattle.pip_model.specs.declared.turn_end.TurnEnd.TheVariants as N
use Rattle.pip_switch.specs.Standing.{StandsAs, StandsFor, State}
use Rattle.pip_switch.proofs.Elsewhere.{bare_with}
use Rattle.pip_every.specs.Choosing.{HasChosen, HasPicked, IsAtWorld}
use Rattle.pip_every.specs.Menus.{Hostile, Menu, hostile_acts}
use Rattle.pip_every.specs.Moments.{Moment, Scope, choice_acts, moment_after, choice_label, turns_after, turns_chosen}
use Rattle.pip_every.specs.declared.menus.Deed.{Deed}
use Rattle.pip_every.proofs.Unseen.{IsBut, acts_same, end_same, hostile_same, other, turn_same}

-- frames and processors that stand for a world stand for one that differs in its caches
but_stands : (n : Memory) (cs : List (Option Occupant)) (v w : World) → IsBut v w → StandsFor n cs w
    → StandsFor n cs v
but_stands n cs v w b s = rw (← other w v (record { tree = sym b.tree; cpus = sym b.cpus }))
    (bare_with n cs w v.caches s)

-- and a machine that is at a world is at one that differs in its caches
but_at : (q : State) (v w : World) → IsBut v w → StandsAs q w → IsAtWorld q v
but_at q v w b s = rw s.caches at (subst (StandsAs q) (sym (other v w b)) s)

pub turn_chosen : (g : Scope) (m : Moment) (k : ℕ) → k < g.cpus → choice_acts g m k ≡ turn m.world k 0
turn_chosen g m k lt = rw (lt-ltb k g.cpus lt)

line_chosen : (g : Scope) (m : Moment) (k : ℕ) → g.cpus ≤ k → choice_acts g m k
    ≡ (if nat_lt m.turns g.from then [] else Makes (E.Raise (slice_index g.lines (k - g.cpus))) ∷ [])
line_chosen g m k le = rw (le-ltb k g.cpus le)

pub raise_chosen : (g : Scope) (m : Moment) (k : ℕ) → g.cpus ≤ k → g.from ≤ m.turns
    → choice_acts g m k ≡ Makes (E.Raise (slice_index g.lines (k - g.cpus))) ∷ []
raise_chosen g m k le open_now = rw (line_chosen g m k le, le-ltb m.turns g.from open_now)

none_chosen : (g : Scope) (m : Moment) (k : ℕ) → g.cpus ≤ k → m.turns < g.from → choice_acts g m k ≡ []
none_chosen g m k le early = rw (line_chosen g m k le, lt-ltb m.turns g.from early)

pub same_turns : (g : Scope) (m : Moment) (k : ℕ) → g.cpus ≤ k → turns_chosen g m k ≡ m.turns
same_turns g m k le = rw (le-ltb k g.cpus le)

pub more_turns : (g : Scope) (m : Moment) (k : ℕ) → k < g.cpus
    → turns_chosen g m k ≡ turns_after g.from m.turns (turn_end m.world k)
more_turns g m k lt = rw (lt-ltb k g.cpus lt)

-- before its time a line changes nothing, and shows nothing
pub nothing_chosen : (g : Scope) (m : Moment) (k : ℕ) → g.cpus ≤ k → m.turns < g.from
    → (moment_after g m k ≡ m) × (choice_label g m k ≡ [])
nothing_chosen g m k le early =
    let none = none_chosen g m k le early in
    let f : List Act → ℕ → Moment = λ acts n. record { world = after_acts m.world acts; turns = n } in (
      rw (none, same_turns g m k le),
      rw none,
    )

-- a machine that stands for the world after the acts of a choice, from a world with other caches
at_after : (g : Scope) (m : Moment) (k : ℕ) (q : State) (v : World) (acts : List Act) → IsBut m.world v
    → choice_acts g m k ≡ acts → StandsAs q (after_acts v acts) → IsAtWorld q (moment_after g m k).world
at_after g m k q v acts b are s =
    rw are (but_at q (after_acts m.world acts) (after_acts v acts) (acts_same acts m.world v b) s)

bare : (m : Moment) (p : State) → IsBut m.world (record m.world { caches = p.caches })
bare m p = record { tree = refl; cpus = refl }

-- the frames and processors of a machine that is at a world stand for it
pub at_bare : (m : Moment) (p : State) → IsAtWorld p m.world → StandsFor p.memory p.cpus m.world
at_bare m p at = but_stands p.memory p.cpus m.world (record m.world { caches = p.caches }) (bare m p) at.bare

-- a line was raised
pub chosen_raise : (g : Scope) (m : Moment) (k : ℕ) (p q : State) (turns line : ℕ) (label : List ℕ) (o : Outcome)
    → g.cpus ≤ k → g.from ≤ turns → turns ≡ m.turns → line ≡ slice_index g.lines (k - g.cpus) → label ≡ []
    → Follows (StandsAs p) (StandsAs q) (E.Raise line) o → IsAtWorld p m.world → HasChosen g m k q turns label
chosen_raise g m k p q turns line label o le open_now same is none follows at =
    let open_at : g.from ≤ m.turns = rw (← same) open_now in
    let are : choice_acts g m k ≡ Makes (E.Raise line) ∷ [] = rw (raise_chosen g m k le open_at, ← is) in
    record {
      world = at_after g m k q (record m.world { caches = p.caches }) (Makes (E.Raise line) ∷ []) (bare m p) are
          (follows (record m.world { caches = p.caches }) at).1;
      turns_are = cc (same_turns g m k le);
      label_is = cc;
    }

-- a processor had its turn
pub chosen_turn : (g : Scope) (m : Moment) (k : ℕ) (p q : State) (turns after : ℕ) (old new : List ℕ) (e : TurnEnd)
    → k < g.cpus → turns ≡ m.turns → after ≡ turns_after g.from turns e → old ≡ []
    → e ≡ turn_end (record m.world { caches = p.caches }) k
    → Made (StandsAs q) (plain (Some old)) (plain (Some new)) (record m.world { caches = p.caches })
    (turn (record m.world { caches = p.caches }) k 0) → HasChosen g m k q after new
chosen_turn g m k p q turns after old new e lt same is none ended made =
    let v : World = record m.world { caches = p.caches } in
    let are : choice_acts g m k ≡ turn v k 0 = turn_chosen g m k lt ∙ turn_same m.world v k 0 (bare m p) in
    let (front, grew, whole) = made.text.sends in
    record {
      world = at_after g m k q v (turn v k 0) (bare m p) are made.world;
      turns_are = rw (is, same, ended, ← end_same m.world v k (bare m p)) (sym (more_turns g m k lt));
      label_is = rw (grew, none, ← append-nil front, whole, ← are);
    }

-- what runs on a processor waited, or did a deed
pub chosen_from_menu : (g : Menu) (m : Moment) (k : ℕ) (p q : State) (cpu : ℕ) (d : Option Deed) (turns after : ℕ)
    (old new : List ℕ) → turns ≡ m.turns → after ≡ turns_after g.scope.from turns N.Ran → old ≡ []
    → Made (StandsAs q) (plain (Some old)) (plain (Some new)) (record m.world { caches = p.caches })
    (hostile_acts (record m.world { caches = p.caches }) cpu d) → HasPicked g m k (Hostile cpu d) q after new
chosen_from_menu g m k p q cpu d turns after old new same is none made =
    let v : World = record m.world { caches = p.caches } in
    let acts : List Act = hostile_acts v cpu d in
    let are : hostile_acts m.world cpu d ≡ acts = hostile_same m.world v cpu d (bare m p) in
    let (front, grew, whole) = made.text.sends in
    record {
      world = rw are (but_at q (after_acts m.world acts) (after_acts v acts) (acts_same acts m.world v (bare m p))
          made.world);
      turns_are = rw (is, same);
      label_is = rw (grew, none, ← append-nil front, whole, ← are);
    }
