-- What a yield leads to.
use Rattle.std.proofs.Common.{◌≡◌, ◌==◌, cond, false, ℕ, ◌<◌, List, [], ◌∷◌, length, refl, sym, ap, ap₂, ◌∙◌, subst}
use Rattle.std.proofs.Common.{arith, Option, Some, None}
use Rattle.std.specs.Prelude.{slice_set}
use Rattle.std.specs.List.{AllByRecursion}
use Rattle.std.proofs.lemmas.List.{set-set}
use Rattle.pip_base.specs.Memory.{Memory}
use Rattle.pip_base.specs.declared.outcome.Outcome.TheVariants as O
use Rattle.pip_base.specs.declared.outcome.Status.{Status}
use Rattle.pip_base.specs.declared.types.Ctx.{Ctx}
use Rattle.pip_model.specs.Answers.{Five, first_met}
use Rattle.pip_model.specs.Handlers.{handler, saved_to}
use Rattle.pip_model.specs.Layout.{LaysOut}
use Rattle.pip_model.specs.Partitions.{HasPartition}
use Rattle.pip_model.specs.Reach.{Reached}
use Rattle.pip_model.specs.Sound.{IsContext, IsSound, IsWord}
use Rattle.pip_model.specs.Switching.{node_name, reply_unless, target_node, with_reply, with_zeros, yield, yield_place}
use Rattle.pip_model.specs.Switching.{yield_refusals, yield_happens}
use Rattle.pip_model.specs.Tree.{Node, find_node}
use Rattle.pip_model.specs.Worlds.{Happened, World, runs_on, with_masked}
use Rattle.pip_model.specs.declared.processors.Occupant.{Occupant}
use Rattle.pip_model.proofs.Events.Soundness.{saved-sound}
use Rattle.pip_switch.specs.Occupied.{on_cpu, part_on, with_answer}
use Rattle.pip_switch.specs.Standing.{Came, StandsFor}
use Rattle.pip_switch.proofs.Happening.{came_so}
use Rattle.pip_switch.proofs.Placed.{put_there}
use Rattle.pip_switch.proofs.Replying.{came_refused}
use Rattle.pip_switch.proofs.Running.{part_of, runs_there}

-- ---- contexts with a reply

reply_length : (s v : ℕ) (rs : List ℕ) → length (with_reply s v rs) ≡ length rs
reply_length s v [] = refl
reply_length s v (a ∷ []) = refl
reply_length s v (a ∷ b ∷ rs) = refl

reply_words : (s v : ℕ) (rs : List ℕ) → IsWord s → IsWord v → AllByRecursion IsWord rs
    → AllByRecursion IsWord (with_reply s v rs)
reply_words s v [] x y h = h
reply_words s v (a ∷ []) x y h = h
reply_words s v (a ∷ b ∷ rs) x y h = (x, (y, h.1.1))

zeros_context : (c : Ctx) → IsContext c → IsContext (with_zeros c)
zeros_context c k = record {
  pc = k.pc;
  count = reply_length 0 0 c.regs ∙ k.count;
  regs = reply_words 0 0 c.regs (omega arith) (omega arith) k.regs;
}

-- what runs on a processor, with zeros in r0 and r1
abbrev pub zeroed : Occupant → Occupant
zeroed r = record r { ctx = with_zeros r.ctx }

pub zeroed_there : (cs bs : List (Option Occupant)) (cpu : ℕ) → cpu < length cs
    → ((r : Occupant) → on_cpu cs cpu ≡ Some r → bs ≡ slice_set cs cpu (Some (zeroed r))) → (r : Occupant)
    → on_cpu cs cpu ≡ Some r → on_cpu bs cpu ≡ Some (zeroed r)
zeroed_there cs bs cpu low set r is = ap (λ k. on_cpu k cpu) (set r is) ∙ put_there cs cpu (Some (zeroed r)) low

-- the tree after the save is sound
pub saved_sound : (m : Memory) (cs : List (Option Occupant)) (w : World) → StandsFor m cs w → (cpu : ℕ) (r : Occupant)
    → runs_on w cpu ≡ Some r → (q : Reached) → IsSound (saved_to w.tree (with_zeros r.ctx) q)
saved_sound m cs w s cpu r runs q =
    saved-sound w.tree (with_zeros r.ctx) q (zeros_context r.ctx (s.sound.contexts cpu r runs)) s.sound.tree

-- and the caller is in it still
pub saved_stands : (m k : Memory) (cs : List (Option Occupant)) (w : World) → StandsFor m cs w
    → (cpu : ℕ) (r : Occupant) → runs_on w cpu ≡ Some r → (p : ℕ) (q : Reached) (x : Node) → find_node w.tree p ≡ Some x
    → LaysOut (saved_to w.tree (with_zeros r.ctx) q) k → HasPartition k p
saved_stands m k cs w s cpu r runs p q x found laid = record {
  tree = saved_to w.tree (with_zeros r.ctx) q;
  node = x;
  sound = saved_sound m cs w s cpu r runs q;
  laid = laid;
  found = found;
}

-- ---- the call, by the name of the caller

yield_by : World → ℕ → Occupant → Five → ℕ → Happened
yield_by w cpu r a p =
    reply_unless w cpu r (first_met (yield_refusals w p a (target_node w.tree p a.x0)))
    (yield_happens w cpu r a (node_name (target_node w.tree p a.x0))
    (handler w.tree (node_name (target_node w.tree p a.x0)) a.x1))

module _ (m n : Memory) (cs ds : List (Option Occupant)) (w : World) (s : StandsFor m cs w)
    (cpu : ℕ) (r : Occupant) (runs : runs_on w cpu ≡ Some r) (p : ℕ) (on : part_on cs cpu ≡ Some p) (a : Five) where
  pub here : on_cpu cs cpu ≡ Some r
  here = sym (runs_there m cs cpu w s) ∙ runs

  name : r.name ≡ p
  unfolding here
  name = let (q, is, named) = part_of (on_cpu cs cpu) p on in let same : Some r ≡ Some q = sym here ∙ is in
      let one : r ≡ q = cc in ap (λ z. z.name) one ∙ named

  yield_is : yield w cpu r a ≡ yield_by w cpu r a p
  unfolding yield_by name
  yield_is = ap (λ q. yield_by w cpu r a q) name

  pub yield_refused : (status : Status) → first_met (yield_refusals w p a (target_node w.tree p a.x0)) ≡ Some status
      → n ≡ m
      → ((q : Occupant) → on_cpu cs cpu ≡ Some q → ds ≡ slice_set cs cpu (Some (with_answer status 0 q)))
      → Came (yield w cpu r a) (O.Reply status 0) n ds
  unfolding yield_by yield_is here
  yield_refused status met same set =
      came_so _ _ (O.Reply status 0) n ds yield_is (came_refused m n cs ds w s cpu r _ _ status met same (set r here))

  -- the caller is saved with zeros in r0 and r1, and the target runs
  module _ (bs : List (Option Occupant))
      (set : (q : Occupant) → on_cpu cs cpu ≡ Some q → bs ≡ slice_set cs cpu (Some (zeroed q))) where
    pub came_yielded : (y : Occupant) → first_met (yield_refusals w p a (target_node w.tree p a.x0)) ≡ None
        → node_name (target_node w.tree p a.x0) ≡ y.name
        → handler w.tree (node_name (target_node w.tree p a.x0)) a.x1 ≡ Some y.ctx
        → LaysOut (with_masked w.tree.root.name (cond (p == w.tree.root.name) false w.tree.root.masked)
        (saved_to w.tree (with_zeros r.ctx) (yield_place w.tree p a.x2))) n
        → ds ≡ slice_set bs cpu (Some y) → Came (yield w cpu r a) (O.Switched p y.name a.x1) n ds
    unfolding yield_by yield_is here name
    came_yielded y met to_is has_it laid is =
        came_so _ _ (O.Switched p y.name a.x1) n ds
        (yield_is ∙ ap₂ (λ z i. reply_unless w cpu r z (yield_happens w cpu r a (node_name (target_node w.tree p a.x0))
        i))
        met has_it ∙ ap (λ k. yield_happens w cpu r a k (Some y.ctx)) to_is)
        (record {
          outcome = ap (λ q. O.Switched q y.name a.x1) (sym name);
          shows = record {
            laid = subst (λ q.
                LaysOut (with_masked w.tree.root.name (cond (q == w.tree.root.name) false w.tree.root.masked)
                (saved_to w.tree (with_zeros r.ctx) (yield_place w.tree q a.x2))) n) (sym name) laid;
            cpus = ap (λ k. slice_set k cpu (Some y)) s.shows.cpus ∙ sym (set-set cs cpu (Some (zeroed r)) (Some y))
                ∙ ap (λ k. slice_set k cpu (Some y)) (sym (set r here)) ∙ sym is;
          };
        })
