-- What choices show is shown by turns and raises that keep the time: an idle turn that stands for many is made as
-- often.
use Rattle.std.proofs.Common.{◌≡◌, ◌≢◌, ℕ, zero, suc, ◌+◌, ◌-◌, ◌<◌, ◌≤◌, inl, inr, List, [], ◌∷◌, length}
use Rattle.std.proofs.Common.{Bool, true, false, cond, Option, None, Some, refl, sym, ap, ◌∙◌, subst, arith, nat_lt}
use Rattle.std.proofs.Common.{slice_index, if◌then◌else◌}
use Rattle.std.proofs.lemmas.Bool.{cases_lt, le-ltb, lt-ltb}
use Rattle.std.proofs.lemmas.Bool.Decides.{nat_tests}
use Rattle.std.specs.List.{AllByRecursion}
use Rattle.pip_base.specs.Memory.{Memory}
use Rattle.pip_base.specs.declared.outcome.Outcome.{Outcome}
use Rattle.pip_base.specs.declared.outcome.Outcome.TheVariants as O
use Rattle.pip_base.specs.declared.types.Ctx.{Ctx}
use Rattle.pip_every.specs.Keys.{model_of}
use Rattle.pip_every.specs.Moments.{Moment, Scope, choice_acts, turns_after}
use Rattle.pip_every.proofs.Choosing.{more_turns, nothing_chosen, raise_chosen, same_turns, turn_chosen}
use Rattle.pip_model.specs.Acts.{Makes, after_acts, text_of}
use Rattle.pip_model.specs.Events as E
use Rattle.pip_model.specs.Handlers.{handler}
use Rattle.pip_model.specs.Poll.{lowest_line, may_take, none_taken, poll, poll_line, take_line}
use Rattle.pip_model.specs.Turn.{acts_after_poll, fetched_end, outcome_of, polled_end, turn, turn_end, world_of}
use Rattle.pip_model.specs.Worlds.{World, runs_on}
use Rattle.pip_model.specs.declared.processors.Occupant.{Occupant}
use Rattle.pip_model.specs.declared.turn_end.TurnEnd.{TurnEnd}
use Rattle.pip_model.specs.declared.turn_end.TurnEnd.TheVariants as N
use Rattle.pip_search.specs.Reached.{AreChoices}
use Rattle.pip_search.specs.Systems.{after_choices}
use Rattle.pip_search_commands.specs.RunLaw.{ChoicesKeepTime, IsShownInTime, KeepsTime, acts_in, turns_made_by}
use Rattle.pip_search_commands.specs.RunLaw.{world_in}

-- ---- an idle turn

-- a poll is idle only where nothing happens
poll_idle : (w : World) (cpu : ℕ) (o : Option Occupant) → (poll w cpu o).outcome ≡ O.Idle → (poll w cpu o).world ≡ w
poll_idle w cpu o = go (may_take w cpu o) (lowest_line w w.tree.root.pending)
  where
    none : (o : Option Occupant) → (none_taken w o).world ≡ w
    none None = refl
    none (Some r) = refl

    take : (j : ℕ) (h : Option Ctx) → (take_line w cpu o j h).outcome ≡ O.Idle → (take_line w cpu o j h).world ≡ w
    take j None e = none o
    take j (Some c) e = cc

    go : (b : Bool) (j : Option ℕ) → (cond b (poll_line w cpu o j) (none_taken w o)).outcome ≡ O.Idle
        → (cond b (poll_line w cpu o j) (none_taken w o)).world ≡ w
    go false j e = none o
    go true None e = none o
    go true (Some j) e = take j (handler w.tree w.tree.root.name (32 + j)) e

polled_same : (w : World) (cpu : ℕ) → outcome_of w (E.Poll cpu) ≡ O.Idle → world_of w (E.Poll cpu) ≡ w
polled_same w cpu e = ap {A = World} (λ v. record v { caches = w.caches }) (poll_idle w cpu (runs_on w cpu) e)

fetch_ends : (o : Outcome) → fetched_end o ≡ N.Polled O.Idle → ⊥
fetch_ends (O.Word v) e = cc
fetch_ends O.Done e = cc
fetch_ends (O.Reply s v) e = cc
fetch_ends (O.Switched from to k) e = cc
fetch_ends (O.Parked from k) e = cc
fetch_ends O.Idle e = cc

-- so an idle turn changes nothing
idle_turn : (w : World) (k : ℕ) → turn_end w k ≡ N.Polled O.Idle → after_acts w (turn w k 0) ≡ w
idle_turn w k = go (outcome_of w (E.Poll k)) refl
  where
    go : (o : Outcome) → outcome_of w (E.Poll k) ≡ o → polled_end (world_of w (E.Poll k)) k o ≡ N.Polled O.Idle
        → after_acts (world_of w (E.Poll k)) (acts_after_poll (world_of w (E.Poll k)) 0 k o) ≡ w
    go O.Idle q e = polled_same w k q
    go (O.Switched from to v) q e = cc
    go (O.Word v) q e = absurd (fetch_ends _ e)
    go O.Done q e = absurd (fetch_ends _ e)
    go (O.Reply s v) q e = absurd (fetch_ends _ e)
    go (O.Parked from v) q e = absurd (fetch_ends _ e)

-- ---- one choice more

-- a choice, a number of times
again : ℕ → ℕ → List ℕ → List ℕ
again zero c cs = cs
again (suc n) c cs = c ∷ again n c cs

-- after a turn that isn't idle at most one more is counted
at_most_one : (from n k : ℕ) → n ≤ k → (if nat_lt n from then suc n else n) ≤ suc k
at_most_one from n k h = grind (arith, nat_tests)

module _ (g : Scope) (w : World) (first : Memory) where
  abbrev at : List ℕ → Moment
  at cs = after_choices (model_of first g) (record { world = w; turns = 0 }) cs

  turn_in : (v : World) (k : ℕ) → k < g.cpus → acts_in g v k ≡ turn v k 0
  turn_in v k lt = rw (lt-ltb k g.cpus lt)

  raise_in : (v : World) (k : ℕ) → g.cpus ≤ k
      → acts_in g v k ≡ Makes (E.Raise (slice_index g.lines (k - g.cpus))) ∷ []
  raise_in v k le = rw (le-ltb k g.cpus le)

  one_turn : (c : ℕ) (cs : List ℕ) → c < g.cpus → turns_made_by g.cpus (c ∷ cs) ≡ suc (turns_made_by g.cpus cs)
  one_turn c cs lt = rw (lt-ltb c g.cpus lt)

  no_turn : (c : ℕ) (cs : List ℕ) → g.cpus ≤ c → turns_made_by g.cpus (c ∷ cs) ≡ turns_made_by g.cpus cs
  no_turn c cs le = rw (le-ltb c g.cpus le)

  -- an order that keeps the time leads to the world to which choices lead, and has as many turns as they count
  record Ordered (cs : List ℕ) : Type 0 where
    order : List ℕ
    can : AllByRecursion (λ c. c < g.cpus + length g.lines) order
    keeps : KeepsTime g order
    world : (at cs).world ≡ world_in g w order
    count : (at cs).turns ≤ turns_made_by g.cpus order

  -- an idle turn is made again and again
  idle_again : (n c : ℕ) (os : List ℕ) → c < g.cpus → turn_end (world_in g w os) c ≡ N.Polled O.Idle
      → world_in g w (again n c os) ≡ world_in g w os
  unfolding again
  idle_again zero c os lt idle = refl
  idle_again (suc n) c os lt idle =
      cc (idle_again n c os lt idle, turn_in (world_in g w os) c lt, idle_turn (world_in g w os) c idle)

  can_again : (n c : ℕ) (os : List ℕ) → c < g.cpus → AllByRecursion (λ c. c < g.cpus + length g.lines) os
      → AllByRecursion (λ c. c < g.cpus + length g.lines) (again n c os)
  unfolding again
  can_again zero c os lt h = h
  can_again (suc n) c os lt h = (omega arith, can_again n c os lt h)

  keeps_again : (n c : ℕ) (os : List ℕ) → c < g.cpus → KeepsTime g os → KeepsTime g (again n c os)
  unfolding again
  keeps_again zero c os lt h = h
  keeps_again (suc n) c os lt h = ((λ le. absurd (omega arith)), keeps_again n c os lt h)

  count_again : (n c : ℕ) (os : List ℕ) → c < g.cpus → n ≤ turns_made_by g.cpus (again n c os)
  unfolding again
  count_again zero c os lt = omega arith
  count_again (suc n) c os lt =
      let h : n ≤ turns_made_by g.cpus (again n c os) = count_again n c os lt in
      rw (one_turn c (again n c os) lt) (omega (arith, h))

  turned : (c : ℕ) (cs : List ℕ) → c < g.cpus → Ordered cs → Ordered (c ∷ cs)
  turned c cs lt h = go (turn_end (at cs).world c) refl
    where
      acts : choice_acts g (at cs) c ≡ turn (at cs).world c 0
      acts = turn_chosen g (at cs) c lt

      after : (at (c ∷ cs)).world ≡ after_acts (world_in g w h.order) (turn (world_in g w h.order) c 0)
      after = ap (after_acts (at cs).world) acts ∙ ap (λ v. after_acts v (turn v c 0)) h.world

      once : (e : TurnEnd) → turn_end (at cs).world c ≡ e
          → turns_after g.from (at cs).turns e ≤ suc (turns_made_by g.cpus h.order) → Ordered (c ∷ cs)
      once e q few = record {
        order = c ∷ h.order;
        can = (omega arith, h.can);
        keeps = ((λ le. absurd (omega arith)), h.keeps);
        world = after ∙ ap (after_acts (world_in g w h.order)) (sym (turn_in (world_in g w h.order) c lt));
        count = rw (more_turns g (at cs) c lt, q) (subst (λ n. turns_after g.from (at cs).turns e ≤ n)
            (sym (one_turn c h.order lt)) few);
      }

      go : (e : TurnEnd) → turn_end (at cs).world c ≡ e → Ordered (c ∷ cs)
      go (N.Polled O.Idle) q =
          let idle : turn_end (world_in g w h.order) c ≡ N.Polled O.Idle =
          cc (h.world) in
          record {
            order = again g.from c h.order;
            can = can_again g.from c h.order lt h.can;
            keeps = keeps_again g.from c h.order lt h.keeps;
            world = rw (after, idle_turn (world_in g w h.order) c idle, ← idle_again g.from c h.order lt idle);
            count = rw (more_turns g (at cs) c lt, q) (count_again g.from c h.order lt);
          }
      go e q = once e q (at_most_one g.from (at cs).turns (turns_made_by g.cpus h.order) h.count)

  raised : (c : ℕ) (cs : List ℕ) → g.cpus ≤ c → c < g.cpus + length g.lines → Ordered cs → Ordered (c ∷ cs)
  raised c cs le can h = elim (cases_lt (at cs).turns g.from) [
    | inl early ↦
        let same = (nothing_chosen g (at cs) c le early).0 in
        record {
          order = h.order;
          can = h.can;
          keeps = h.keeps;
          world = cc (h.world);
          count = rw (← same) at h.count;
        }
    | inr late ↦ record {
      order = c ∷ h.order;
      can = (can, h.can);
      keeps = ((λ x. omega arith), h.keeps);
      world = cc (raise_chosen g (at cs) c le late, h.world, raise_in (world_in g w h.order) c le);
      count = rw (same_turns g (at cs) c le) (subst (λ n. (at cs).turns ≤ n) (sym (no_turn c h.order le)) h.count);
    }
  ]

  ordered : (cs : List ℕ) → AreChoices (model_of first g) cs → Ordered cs
  ordered [] can = record { order = []; can = tt; keeps = tt; world = refl; count = omega arith }
  ordered (c ∷ cs) can = elim (cases_lt c g.cpus) [
    | inl lt ↦ turned c cs lt (ordered cs can.1)
    | inr le ↦ raised c cs le can.0 (ordered cs can.1)
  ]

  -- a turn alone shows something
  shown : (c : ℕ) (cs : List ℕ) (label : List ℕ) → label ≢ [] → AreChoices (model_of first g) (c ∷ cs)
      → label ≡ text_of (choice_acts g (at cs) c) → IsShownInTime g w label
  shown c cs label some can is = elim (cases_lt c g.cpus) [
    | inl lt ↦
        let h : Ordered cs = ordered cs can.1 in
        record {
          last = c;
          before = h.order;
          can = (can.0, h.can);
          keeps = ((λ le. absurd (omega arith)), h.keeps);
          shows = cc (turn_chosen g (at cs) c lt, h.world, turn_in (world_in g w h.order) c lt);
        }
    | inr le ↦ absurd (some (is ∙ elim (cases_lt (at cs).turns g.from) [
      | inl early ↦ (nothing_chosen g (at cs) c le early).1
      | inr late ↦ rw (raise_chosen g (at cs) c le late)
    ]))
  ]

pub choices_keep_time : ChoicesKeepTime
choices_keep_time g w first label some ([], h) = absurd h
choices_keep_time g w first label some (c ∷ cs, h) = shown g w first c cs label some h.0 h.1
