-- A call of yield by what runs on a processor is refused or switches, so a child is run exactly where it switches.
use Rattle.std.specs.Prelude.{◌≡◌, ◌≢◌, ℕ, Bool, true, false, ◌==◌, ◌↔◌, if◌then◌else◌, Option, Some, None, IsSome}
use Rattle.std.specs.Prelude.{is_none, length}
use Rattle.std.proofs.Common.{refl, eqb-true, arith}
use Rattle.pip_base.specs.declared.types.Ctx.{Ctx}
use Rattle.pip_base.specs.declared.outcome.Status.{Status}
use Rattle.pip_base.specs.declared.outcome.Status.TheVariants as S
use Rattle.pip_base.specs.declared.outcome.Outcome.{Outcome}
use Rattle.pip_base.specs.declared.outcome.Outcome.TheVariants as O
use Rattle.pip_model.specs.Answers.{Five, first_met}
use Rattle.pip_model.specs.Handlers.{handler}
use Rattle.pip_model.specs.Happens.{event, on_running}
use Rattle.pip_model.specs.Switching.{node_name, reply_unless, target_node, yield, yield_refusals, yield_happens}
use Rattle.pip_model.specs.Worlds.{World, Happened, runs_on}
use Rattle.pip_model.specs.declared.processors.Occupant.{Occupant}
use Rattle.pip_native.specs.declared.decision.Decision.TheVariants as D
use Rattle.pip_model.proofs.Trees.Free.{passed}
use Rattle.pip_native.specs.Monitoring.{Children, RunsChild, HasSwitched, choice, decision_in, decision_of, visit}
use Rattle.pip_native.specs.Monitoring.{visit_words}

-- refused, or switched
abbrev IsAnswered : Outcome → Type 0
IsAnswered (O.Reply status value) = Unit {0}
IsAnswered o = HasSwitched o

yielded-answered : (w : World) (cpu : ℕ) (r : Occupant) (a : Five) (q : ℕ) (o : Option Ctx) → is_none o ≡ false
    → IsAnswered (yield_happens w cpu r a q o).outcome
yielded-answered w cpu r a q None e = cc
yielded-answered w cpu r a q (Some c) e = tt

unless-answered : (w : World) (cpu : ℕ) (r : Occupant) (o : Option Status) (h : Happened)
    → (o ≡ None → IsAnswered h.outcome) → IsAnswered (reply_unless w cpu r o h).outcome
unless-answered w cpu r None h f = f refl
unless-answered w cpu r (Some s) h f = tt

yield-answered : (w : World) (cpu : ℕ) (r : Occupant) (a : Five) → IsAnswered (yield w cpu r a).outcome
yield-answered w cpu r a =
    let q = target_node w.tree r.name a.x0 in
    let cs = yield_refusals w r.name a q in
    unless-answered w cpu r (first_met cs) _
    (λ e. yielded-answered w cpu r a (node_name q) (handler w.tree (node_name q) a.x1) (passed cs e S.NoHandler))

running-answered : (w : World) (cpu : ℕ) (o : Option Occupant) (a : Five) → IsSome o
    → IsAnswered (on_running w cpu o (λ r. yield w cpu r a)).outcome
running-answered w cpu None a s = cc
running-answered w cpu (Some r) a s = yield-answered w cpu r a

by_outcome : (i : ℕ) (o : Outcome) → IsAnswered o → RunsChild (decision_of i o) ↔ HasSwitched o
by_outcome i (O.Reply status value) h = (λ x. x, λ x. x)
by_outcome i (O.Switched from to vector) h = (λ x. x, λ x. x)
by_outcome i o h = absurd h

by_choice : (b : Bool) (i n : ℕ) (o : Outcome) → IsAnswered o → (i == n) ≡ b
    → RunsChild (if b then D.Nobody else decision_of i o) ↔ (i ≢ n) × HasSwitched o
by_choice true i n o h e = (λ x. absurd x, λ x. absurd (x.0 (eqb-true i n e)))
by_choice false i n o h e =
    let k = by_outcome i o h in
    (λ x. (λ q. grind (arith, q, e), k.0 x), λ x. k.1 x.1)

-- a child is run exactly where one is chosen and the call switches
pub run-switched : (w : World) (cpu : ℕ) (m : Children) → IsSome (runs_on w cpu)
    → RunsChild (decision_in w cpu m) ↔ (choice m ≢ length m.children) × HasSwitched (event w (visit cpu m)).outcome
run-switched w cpu m s = by_choice (choice m == length m.children) (choice m) (length m.children)
    (event w (visit cpu m)).outcome (running-answered w cpu (runs_on w cpu) (visit_words m) s) refl
