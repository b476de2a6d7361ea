-- An interrupt line that takes a processor from a guest is an input of the guest.
use Rattle.std.proofs.Common.{◌≡◌, ◌≢◌, ℕ, ◌+◌, Bool, true, false, not, cond, ◌==◌, refl, sym, ap, ◌∙◌, subst, Option}
use Rattle.std.proofs.Common.{Some, None}
use Rattle.std.specs.Prelude.{filter}
use Rattle.pip_base.specs.declared.outcome.Outcome.TheVariants as O
use Rattle.pip_base.specs.declared.types.Ctx.{Ctx}
use Rattle.pip_model.specs.Events as E
use Rattle.pip_model.specs.Handlers.{handler, save, save_place}
use Rattle.pip_model.specs.Happens.{event}
use Rattle.pip_model.specs.Lists.{In}
use Rattle.pip_model.specs.Poll.{lowest_line, may_take, none_taken, poll, poll_line, take_line}
use Rattle.pip_model.specs.Sound.{IsSound}
use Rattle.pip_model.specs.Tree.{ancestry}
use Rattle.pip_model.specs.Worlds.{IsSoundWorld, World, runs_on, handler_context}
use Rattle.pip_model.specs.declared.processors.Occupant.{Occupant}
use Rattle.pip_model.proofs.Events.Soundness.{event-sound, saved-sound}
use Rattle.pip_model.proofs.Locality.Agree.{AgreeTrees}
use Rattle.pip_model.proofs.Locality.OneEvent.{at_set_here, at_set_other, to_worlds}
use Rattle.pip_model.proofs.Trees.Free.{IsName}
use Rattle.pip_guests.specs.Inputs.{InterruptsAreInputs}
use Rattle.pip_guests.proofs.Lines.{agree_sym, agree_trans, below_before, line_top, not_top, top_alone}
use Rattle.pip_guests.proofs.Taking.{trees}
use Rattle.pip_guests.proofs.Inside.{actor_runs, saves_agree}
use Rattle.pip_guests.proofs.Elsewhere.{entered_agrees, name_after}
use Rattle.pip_guests.proofs.Leaving.{one_left}

-- one world after a line was taken where r ran
record Taken (p cpu : ℕ) (r : Occupant) (w after : World) : Type 0 where
  trees : AgreeTrees p (save w.tree r.name 63 r.ctx) after.tree
  here : (z : Occupant) → runs_on after cpu ≡ Some z → z.name ≡ w.tree.root.name
  cpus : (i : ℕ) → i ≢ cpu → runs_on after i ≡ runs_on w i

poll_taken : (w : World) (p cpu n m k : ℕ) (r : Occupant) → IsSoundWorld w → p ≢ w.tree.root.name → runs_on w cpu
    ≡ Some r → (poll w cpu (Some r)).outcome ≡ O.Switched n m k → Taken p cpu r w (poll w cpu (Some r)).world
poll_taken w p cpu n m k r s d runs e = go (may_take w cpu (Some r)) (lowest_line w w.tree.root.pending) e
  where
    take : (j : ℕ) (h : Option Ctx) → (take_line w cpu (Some r) j h).outcome ≡ O.Switched n m k
        → Taken p cpu r w (take_line w cpu (Some r) j h).world
    take j None e = cc
    take j (Some c) e =
        let q : Occupant = record { name = w.tree.root.name; ctx = handler_context c (32 + j) 0 0 0 } in
        record {
          trees = entered_agrees (save w.tree r.name 63 r.ctx) p d (top_alone w.tree s.tree p)
              (filter (λ i. not (i == j)) w.tree.root.pending);
          here = λ z e. let u : Some q ≡ Some z = rw (← at_set_here (Some q) w.cpus cpu r runs) e in
              let v : q ≡ z = cc in rw (← v);
          cpus = λ i c. at_set_other (Some q) w.cpus cpu i c;
        }

    go : (b : Bool) (o : Option ℕ) → (cond b (poll_line w cpu (Some r) o) (none_taken w (Some r))).outcome
        ≡ O.Switched n m k → Taken p cpu r w (cond b (poll_line w cpu (Some r) o) (none_taken w (Some r))).world
    go false o e = cc
    go true None e = cc
    go true (Some j) e = take j (handler w.tree w.tree.root.name (32 + j)) e

taken : (w : World) (p cpu n m k : ℕ) (r : Occupant) → IsSoundWorld w → p ≢ w.tree.root.name → runs_on w cpu ≡ Some r
    → (event w (E.Poll cpu)).outcome ≡ O.Switched n m k → Taken p cpu r w (event w (E.Poll cpu)).world
taken w p cpu n m k r s d runs e =
    let one = ap (poll w cpu) runs in
    let h = subst (λ x. Taken p cpu r w x.world) (sym one)
    (poll_taken w p cpu n m k r s d runs (rw (← one, e))) in
    assumption

-- the root is not of the guest
root_off : (w after : World) (p cpu : ℕ) (r : Occupant) → IsSoundWorld w → p ≢ w.tree.root.name → Taken p cpu r w after
    → ((n : ℕ) → In p (ancestry after.tree n) → In p (ancestry w.tree n)) → (z : Occupant) → runs_on after cpu ≡ Some z
    → In p (ancestry after.tree z.name) → ⊥
root_off w after p cpu r s d x before z e h =
    d (top_alone w.tree s.tree p (rw (x.here z e) at (before z.name h)))

pub interrupts_are_inputs : InterruptsAreInputs
interrupts_are_inputs w v p cpu k l s s' d g i i' =
    let e = E.Poll cpu in
    let (r, c, q) = actor_runs w p e s i.below in
    let h : In p (ancestry w.tree r.name) = rw (← q) i.below in
    let c' = g.runs cpu r h c in
    let d' = not_top w.tree v.tree s.tree s'.tree p d in
    let x = taken w p cpu _ _ k r s d c i.taken in
    let y = taken v p cpu _ _ l r s' d' c' i'.taken in
    let n : IsName w.tree p = line_top w.tree s.tree p r.name h in
    let n' : IsName v.tree p = name_after p w.tree v.tree s.tree s'.tree n (trees w v p s s' g) in
    let sw = event-sound w e s tt in
    let sv = event-sound v e s' tt in
    let one : IsSound (save w.tree r.name 63 r.ctx) =
    saved-sound w.tree r.ctx (save_place w.tree r.name 63) (s.contexts cpu r c) s.tree in
    let two : IsSound (save v.tree r.name 63 r.ctx) =
    saved-sound v.tree r.ctx (save_place v.tree r.name 63) (s.contexts cpu r c) s'.tree in
    let on = saves_agree w v p cpu r s s' g d c h r.ctx 63 in
    let name = name_after p (save w.tree r.name 63 r.ctx) (event w e).world.tree one sw.tree n x.trees in
    let both = agree_trans (event w e).world.tree (save w.tree r.name 63 r.ctx) (event v e).world.tree p sw.tree one
    name (agree_sym (save w.tree r.name 63 r.ctx) (event w e).world.tree p one sw.tree n x.trees) (agree_trans
    (save w.tree r.name 63 r.ctx) (save v.tree r.name 63 r.ctx) (event v e).world.tree p one two n on y.trees) in
    let before = λ (a : ℕ) (j : In p (ancestry (event w e).world.tree a)).
    below_before (save w.tree r.name 63 r.ctx) (event w e).world.tree p a one sw.tree n x.trees j in
    let before' = λ (a : ℕ) (j : In p (ancestry (event v e).world.tree a)).
    below_before (save v.tree r.name 63 r.ctx) (event v e).world.tree p a two sv.tree n' y.trees j in
    record {
      others = refl;
      others_there = refl;
      name = name;
      guest = record {
        below = to_worlds p _ _ both;
        runs = one_left w v (event w e).world (event v e).world p cpu s (λ a b j. before a j) x.cpus y.cpus
            (root_off w (event w e).world p cpu r s d x before) g.runs;
        runs_back = one_left v w (event v e).world (event w e).world p cpu s' (λ a b j. before' a j) y.cpus x.cpus
            (root_off v (event v e).world p cpu r s' d' y before') g.runs_back;
      };
    }
