-- In how many steps what runs on a processor makes an event, and a machine a run.
use Rattle.std.proofs.Common.{◌≡◌, ℕ, ◌+◌, ◌*◌, ◌≤◌, List, [], ◌∷◌, length, sym, ◌∙◌, arith, Option, Some}
use Rattle.pip_base.specs.Memory.{Memory}
use Rattle.pip_model.specs.Answers.{Five}
use Rattle.pip_model.specs.Happens.{call_named, event}
use Rattle.pip_model.specs.Partitions.{InEach}
use Rattle.pip_model.specs.Tree.{Node, Tree, chain, find_node}
use Rattle.pip_model.specs.Work.{call_work, memory_work, runner_work}
use Rattle.pip_model.specs.Worlds.{World, running, runs_on}
use Rattle.pip_model.specs.declared.call_name.CallName.{CallName}
use Rattle.pip_model.specs.declared.call_name.MemoryCall.{MemoryCall}
use Rattle.pip_model.specs.declared.processors.Occupant.{Occupant}
use Rattle.pip_switch.specs.Occupied.{names_on, on_cpu, part_on}
use Rattle.pip_switch.specs.Standing.{StandsFor}
use Rattle.pip_switch.specs.Work.{RunsTakeNoMore}
use Rattle.pip_switch.proofs.Running.{part_found, part_of, runs_there}

module _ (m : Memory) (cs : List (Option Occupant)) (cpu part : ℕ) (on : part_on cs cpu ≡ Some part)
    (before after : ℕ) where
  -- what is said of the partition is said of what runs there
  runner_takes : (f : World → ℕ → ℕ)
      → ((w : World) (x : Node) → StandsFor m cs w → find_node w.tree part ≡ Some x → after ≤ before + f w part)
      → (w : World) → StandsFor m cs w → after ≤ before + runner_work (runs_on w cpu) (f w)
  runner_takes f h w s =
      let (r, is, name) = part_of (on_cpu cs cpu) part on in
      let (x, found) = part_found m cs cpu w s part on in
      rw (runs_there m cs cpu w s ∙ is, name) (h w x s found)

  -- what may be delivered
  pub delivers_in : (k : ℕ) → InEach m part (λ t x. after ≤ before + 8 * length (chain t part) + k) → (w : World)
      → StandsFor m cs w → after ≤ before + runner_work (runs_on w cpu) (λ p. 8 * length (chain w.tree p) + k)
  delivers_in k h = runner_takes (λ w p. 8 * length (chain w.tree p) + k)
      (λ w x s found. let so = h w.tree x s.sound.tree s.shows.laid found in omega (arith, so))

  -- a call
  pub calls_in : (name : CallName) (number : ℕ) (a : Five) → name ≡ call_named number
      → InEach m part (λ t x. after ≤ before + call_work name t (names_on cs) part a) → (w : World) → StandsFor m cs w
      → after ≤ before + runner_work (runs_on w cpu) (λ p. call_work (call_named number) w.tree (running w) p a)
  calls_in name number a is h = runner_takes (λ w p. call_work (call_named number) w.tree (running w) p a)
      (λ w x s found. rw (sym is, s.shows.cpus) (h w.tree x s.sound.tree s.shows.laid found))

-- the call is the one that was told apart
pub same_work : (call name : MemoryCall) → call ≡ name → (t : Tree) (rs : List ℕ) (p : ℕ) (a : Five) (before after : ℕ)
    → after ≤ before + memory_work name t rs p a → after ≤ before + memory_work call t rs p a
same_work call name is t rs p a before after so = rw is so

-- ---- runs

pub runs_take_no_more : RunsTakeNoMore
runs_take_no_more p q [] [] before after h w s = let same = h.1 in omega (arith, same)
runs_take_no_more p q [] (o ∷ os) before after h w s = absurd h
runs_take_no_more p q (e ∷ es) [] before after h w s = absurd h
runs_take_no_more p q (e ∷ es) (o ∷ os) before after h w s =
    let (r, between, takes, works, others) = h in
    let first = works w s in
    let rest = runs_take_no_more r q es os between after others (event w e).world (takes w s).1 in
    omega (arith, first, rest)
