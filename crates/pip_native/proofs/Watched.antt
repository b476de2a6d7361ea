-- A step of the monitor: its call, and the line of its decision.
use Rattle.std.proofs.Common.{◌≡◌, refl, ℕ, ◌+◌, ◌≤◌, ◌==◌, Bool, true, false, cond, List, [], ◌∷◌, ◌++◌, length, sym}
use Rattle.std.proofs.Common.{ap, ◌∙◌, subst, Option, Some, None}
use Rattle.std.specs.Prelude.{IsSome, Result}
use Rattle.pip_io.specs.Taken.{Taken, Wrote}
use Rattle.pip_cpu.specs.Made.{MadeOrCut}
use Rattle.pip_cpu.proofs.Makings.{after_event, line_alone}
use Rattle.pip_model.specs.Acts.{Makes, Writes, after_acts, events_made}
use Rattle.pip_model.specs.Happens.{event}
use Rattle.pip_model.specs.Port.{TakesNoMore}
use Rattle.pip_model.specs.Turn.{turn}
use Rattle.pip_model.specs.Work.{events_work}
use Rattle.pip_model.specs.Worlds.{World, runs_on}
use Rattle.pip_model.specs.declared.processors.Occupant.{Occupant}
use Rattle.pip_native.specs.Monitoring.{Children, choice, decision_in, monitor_after, visit, visit_acts}
use Rattle.pip_native.specs.declared.decision.Decision.{Decision}
use Rattle.pip_native.specs.Watching.{decision_line, is_root, monitor_next, root_runs, watch_step}

-- where the root runs on processor 0, something does
pub root_some : (w : World) (here : Bool) → here ≡ true → here ≡ root_runs w → IsSome (runs_on w 0)
root_some w here on is = go (runs_on w 0) (sym on ∙ is)
  where
    go : (o : Option Occupant) → true ≡ is_root w.tree o → IsSome o
    go None e = cc
    go (Some r) e = refl

visited : {T X : Type 0} (S : World → Type 0) (old new : Taken) (w : World) (m : Children) (r : Result T X)
    (line : List ℕ) → S (after_acts w (visit_acts 0 m)) → Wrote r old new line
    → MadeOrCut r S old new w (visit_acts 0 m ++ Writes line ∷ [])
visited S old new w m r line s a = go (choice m == length m.children) s
  where
    go : (b : Bool) → S (after_acts w (cond b [] (Makes (visit 0 m) ∷ [])))
        → MadeOrCut r S old new w (cond b [] (Makes (visit 0 m) ∷ []) ++ Writes line ∷ [])
    go true s = line_alone S old new w r line s a
    go false s = after_event S old new w r (visit 0 m)
        (Writes line ∷ []) (line_alone S old new (event w (visit 0 m)).world r line s a)

module _ {T X : Type 0} (S : World → Type 0)
    (old new : Taken) (w : World) (m : Children) (t : ℕ) (here : Bool) (is : here ≡ root_runs w) where
  -- the monitor decided
  pub decided : (r : Result T X) (d : Decision) → here ≡ true → d ≡ decision_in w 0 m
      → S (after_acts w (visit_acts 0 m)) → Wrote r old new (decision_line t d)
      → MadeOrCut r S old new w (watch_step w m t)
  decided r d e q s a =
      subst (λ b. MadeOrCut r S old new w
      (cond b (visit_acts 0 m ++ Writes (decision_line t (decision_in w 0 m)) ∷ []) (turn w 0 t))) (sym e ∙ is)
      (visited S old new w m r (decision_line t (decision_in w 0 m)) s
      (subst (λ d. Wrote r old new (decision_line t d)) q a))

-- and the monitor then
module _ (w : World) (m : Children) (here : Bool) (is : here ≡ root_runs w) where
  pub monitor_decided : (n : Children) → here ≡ true → n ≡ monitor_after w 0 m → n ≡ monitor_next w m
  monitor_decided n e q = q ∙ ap (λ b. cond b (monitor_after w 0 m) m) (sym e ∙ is)

-- in how many steps
module _ (S : World → Type 0) (m : Children) (t : ℕ) (here : Bool) (is : (w : World) → S w → here ≡ root_runs w)
    (before after : ℕ) where
  pub decided_takes : here ≡ true → TakesNoMore S (λ w. visit_acts 0 m) before after
      → TakesNoMore S (λ w. watch_step w m t) before after
  decided_takes e one w h =
      subst (λ b. after ≤ before + events_work w (events_made
      (cond b (visit_acts 0 m ++ Writes (decision_line t (decision_in w 0 m)) ∷ []) (turn w 0 t)))) (sym e ∙ is w h)
      (go (choice m == length m.children) (one w h))
    where
      go : (b : Bool) → after ≤ before + events_work w (events_made (cond b [] (Makes (visit 0 m) ∷ [])))
          → after ≤ before + events_work w (events_made
          (cond b [] (Makes (visit 0 m) ∷ []) ++ Writes (decision_line t (decision_in w 0 m)) ∷ []))
      go true k = k
      go false k = k
