-- What holds at each moment of a slot, and that each event of a partition other than the root keeps it.
use Rattle.std.proofs.Common.{◌≡◌, ◌≢◌, ℕ, ◌+◌, ◌*◌, ◌<◌, true, [], refl, ◌∙◌}
use Rattle.std.proofs.Common.{Option, Some, None, arith}
use Rattle.pip_base.specs.declared.outcome.Status.{Status}
use Rattle.pip_base.specs.declared.types.Access.{Access}
use Rattle.pip_base.specs.declared.types.Access.TheVariants.{Load, Store, Fetch}
use Rattle.pip_base.specs.declared.types.Ctx.{Ctx}
use Rattle.pip_base.specs.declared.types.Size.{Size}
use Rattle.pip_base.specs.declared.types.Size.TheVariants.{Word}
use Rattle.pip_model.specs.Answers.{Five, first_met}
use Rattle.pip_model.specs.Deliver.{deliver, deliver_to, nearest_taker}
use Rattle.pip_model.specs.Events.{Event, IsEvent}
use Rattle.pip_model.specs.Events as E
use Rattle.pip_model.specs.Handlers.{handler}
use Rattle.pip_model.specs.Happens.{access_number, call, call_named, event, fault_number, fault_vector, load_happens}
use Rattle.pip_model.specs.Happens.{what_happens, wrote}
use Rattle.pip_model.specs.Local.{cpu_of}
use Rattle.pip_model.specs.Reach.{Alignment, Fault, Faulted, Hidden, Place, Reached, Right, Unmapped, reach}
use Rattle.pip_model.specs.Switching.{node_name, reply_unless, target_node, yield, yield_happens, yield_refusals}
use Rattle.pip_model.specs.Tree.{Node}
use Rattle.pip_model.specs.Worlds.{IsSoundWorld, World, handler_context, runs_on, with_running}
use Rattle.pip_model.specs.declared.call_name.CallName.{CallName}
use Rattle.pip_model.specs.declared.call_name.CallName.TheVariants.{Masks, OnMemory, Unknown, Yields}
use Rattle.pip_model.specs.declared.processors.Occupant.{Occupant}
use Rattle.pip_model.specs.declared.processors.Taker.{Taker}
use Rattle.pip_model.proofs.Events.Soundness.{event-sound, runs_named}
use Rattle.pip_model.proofs.Locality.OneEvent.{at_set_here}
use Rattle.pip_guests.specs.Guests.{is_own}
use Rattle.pip_guests.proofs.Moves.{call_by, event_moves, fetch_by, load_by, set_by, store_by, trap_by}
use Rattle.pip_slots.specs.Slots.{IsBetweenSlots, TakesEachVector}
use Rattle.pip_native.specs.Watching.{is_root}
use Rattle.pip_slots.proofs.Kids.{runs_alone, taker_some}
use Rattle.pip_slots.proofs.Roots.{handles_some, leaves_keeps, leaves_root, takes_kept}

-- something runs on a processor
abbrev pub Runs : ℕ → World → Type 0
Runs cpu w = (z : Occupant) × (runs_on w cpu ≡ Some z)

-- nothing runs but on processor 0, there something does; no line is pending, and the root takes all vectors
pub record Ready (w : World) : Type 0 where
  pub sound : IsSoundWorld w
  pub alone : (i : ℕ) → i ≢ 0 → runs_on w i ≡ None
  pub quiet : w.tree.root.pending ≡ []
  pub takes : TakesEachVector w.tree
  pub runs : Runs 0 w

pub ready_between : (w : World) → IsBetweenSlots w → Ready w
ready_between w b = record {
  sound = b.sound;
  alone = b.alone;
  quiet = b.quiet;
  takes = b.takes;
  runs = go (runs_on w 0) refl b.root;
}
  where
    go : (o : Option Occupant) → runs_on w 0 ≡ o → is_root w.tree o ≡ true → Runs 0 w
    go None k e = cc
    go (Some r) k e = (r, k)

-- where something runs and it isn't the root, a vector is taken
pub takers : (w : World) (r : Occupant) → Ready w → runs_on w 0 ≡ Some r → r.name ≢ w.tree.root.name → (v : ℕ)
    → v < 256 → nearest_taker w r.name v ≢ None
takers w r y k m v l =
    let (c, e) = handles_some w.tree v (y.takes v l) in
    taker_some w r.name v c y.sound (y.sound.names_nodes r.name (runs_named w 0 r y.sound k)) m e
    (runs_alone w w.tree.root.name r y.alone k m)

-- ---- something runs after each event

runs_put : (w : World) (cpu : ℕ) (r q : Occupant) → runs_on w cpu ≡ Some r → Runs cpu (with_running w cpu (Some q))
runs_put w cpu r q k = (q, at_set_here (Some q) w.cpus cpu r k)

pub fault_small : (f : Fault) → fault_vector f < 256
fault_small Alignment = omega arith
fault_small Unmapped = omega arith
fault_small Hidden = omega arith
fault_small Right = omega arith

module _ (w : World) (r : Occupant) (takes : (v : ℕ) → v < 256 → nearest_taker w r.name v ≢ None) where
  deliver_runs : (cpu v a b : ℕ) → runs_on w cpu ≡ Some r → v < 256 → Runs cpu (deliver w cpu r v a b).world
  deliver_runs cpu v a b k l = go (nearest_taker w r.name v) (takes v l)
    where
      go : (o : Option Taker) → o ≢ None → Runs cpu (deliver_to w cpu r v a b o).world
      go None n = absurd (n refl)
      go (Some y) n = runs_put w cpu r (record { name = y.to; ctx = handler_context y.handler v a b y.born }) k

  loaded_runs : (cpu va : ℕ) (c : Access) (z : Size) (q : Reached) → runs_on w cpu ≡ Some r
      → Runs cpu (load_happens w cpu r va c z q).world
  loaded_runs cpu va c z (Place g i) k = (r, k)
  loaded_runs cpu va c z (Faulted f) k =
      deliver_runs cpu (fault_vector f) va (16 * access_number c + fault_number f) k (fault_small f)

  wrote_runs : (cpu va : ℕ) (z : Size) (x : ℕ) (q : Reached) → runs_on w cpu ≡ Some r
      → Runs cpu (wrote w cpu r va z x q).world
  wrote_runs cpu va z x (Place g i) k = (r, k)
  wrote_runs cpu va z x (Faulted f) k =
      deliver_runs cpu (fault_vector f) va (16 * access_number Store + fault_number f) k (fault_small f)

  yield_runs : (cpu : ℕ) (a : Five) → runs_on w cpu ≡ Some r → Runs cpu (yield w cpu r a).world
  yield_runs cpu a k = go (first_met (yield_refusals w r.name a q)) (handler w.tree (node_name q) a.x1)
    where
      q : Option Node
      q = target_node w.tree r.name a.x0

      go : (o : Option Status) (h : Option Ctx)
          → Runs cpu (reply_unless w cpu r o (yield_happens w cpu r a (node_name q) h)).world
      go (Some st) h = runs_put w cpu r _ k
      go None None = (r, k)
      go None (Some c) = runs_put w cpu r (record { name = node_name q; ctx = c }) k

  call_runs : (c : CallName) (cpu : ℕ) (a : Five) → runs_on w cpu ≡ Some r → Runs cpu (call c w cpu r a).world
  call_runs (OnMemory c) cpu a k = runs_put w cpu r _ k
  call_runs (Masks b) cpu a k = runs_put w cpu r _ k
  call_runs Unknown cpu a k = runs_put w cpu r _ k
  call_runs Yields cpu a k = yield_runs cpu a k

  -- what happens leaves something running
  own_runs : (e : Event) → IsEvent e → is_own e ≡ true → runs_on w (cpu_of e) ≡ Some r
      → Runs (cpu_of e) (what_happens w e).world
  own_runs (E.Load cpu va z) ev o k = rw (load_by w r cpu va z k)
      (loaded_runs cpu va Load z (reach w.tree r.name va Load z) k)
  own_runs (E.Store cpu va z x) ev o k = rw (store_by w r cpu va z x k)
      (wrote_runs cpu va z x (reach w.tree r.name va Store z) k)
  own_runs (E.Fetch cpu) ev o k = rw (fetch_by w r cpu k)
      (loaded_runs cpu r.ctx.pc Fetch Word (reach w.tree r.name r.ctx.pc Fetch Word) k)
  own_runs (E.Trap cpu v a b) ev o k =
      rw (trap_by w r cpu v a b k) (deliver_runs cpu v a b k ev.0)
  own_runs (E.Call cpu number a) ev o k =
      rw (call_by w r cpu number a k) (call_runs (call_named number) cpu a k)
  own_runs (E.Raise j) ev o k = cc
  own_runs (E.Poll cpu) ev o k = cc
  own_runs (E.SetContext cpu c) ev o k =
      rw (set_by w r cpu c k) (runs_put w cpu r _ k)

-- an event of a partition other than the root keeps all this
pub ready_own : (w : World) (e : Event) (r : Occupant) → Ready w → IsEvent e → is_own e ≡ true → cpu_of e ≡ 0
    → runs_on w 0 ≡ Some r → r.name ≢ w.tree.root.name → Ready (event w e).world
ready_own w e r y ev o c k m =
    let k' : runs_on w (cpu_of e) ≡ Some r = rw c k in
    let s' = event-sound w e y.sound ev in
    let a = event_moves w e r y.sound o k' m in
    let n = y.sound.names_nodes r.name (runs_named w 0 r y.sound k) in
    let keeps =
    leaves_keeps w.tree (event w e).world.tree r.name y.sound.tree s'.tree n m a.leaves in
    let z : Runs (cpu_of e) (event w e).world = own_runs w r (takers w r y k m) e ev o k' in
    record {
      sound = s';
      alone = λ i h. a.cpus i (λ z. h (cc)) ∙ y.alone i h;
      quiet = rw (leaves_root w.tree (event w e).world.tree r.name y.sound.tree s'.tree m a.leaves, y.quiet);
      takes = takes_kept w.tree (event w e).world.tree y.sound.tree s'.tree keeps y.takes;
      runs = rw (← c) z;
    }
