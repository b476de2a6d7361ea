-- No event looks at a cache but to change it.
use Rattle.std.proofs.Common.{ℕ, ◌+◌, ◌*◌, Bool, true, false, cond, List, refl, sym, subst, Option, Some, None}
use Rattle.pip_base.specs.declared.outcome.Status.{Status}
use Rattle.pip_base.specs.declared.types.Access.{Access}
use Rattle.pip_base.specs.declared.types.Access.TheVariants.{Load, Store, Fetch}
use Rattle.pip_base.specs.declared.types.Ctx.{Ctx}
use Rattle.pip_base.specs.declared.types.Size.{Size}
use Rattle.pip_base.specs.declared.types.Size.TheVariants.{Word}
use Rattle.pip_model.specs.Answers.{Five, first_met}
use Rattle.pip_model.specs.Cache.{Places}
use Rattle.pip_model.specs.Deliver.{deliver, deliver_to, nearest_taker}
use Rattle.pip_model.specs.Events as E
use Rattle.pip_model.specs.Events.{Event}
use Rattle.pip_model.specs.Handlers.{handler}
use Rattle.pip_model.specs.Happens.{access_number, what_happens, answer, call, call_named, fault_number, fault_vector}
use Rattle.pip_model.specs.Happens.{load_happens, on_running, wrote}
use Rattle.pip_model.specs.declared.call_name.CallName.{CallName}
use Rattle.pip_model.specs.declared.call_name.CallName.TheVariants.{Masks, OnMemory, Unknown, Yields}
use Rattle.pip_model.specs.Laws.{CachesTellNothing, DiffersInCaches}
use Rattle.pip_model.specs.Poll.{lowest_line, may_take, none_taken, poll, poll_line, take_line}
use Rattle.pip_model.specs.Reach.{Faulted, Place, Reached, reach}
use Rattle.pip_model.specs.Switching.{node_name, reply_happens, reply_unless, target_node, yield, yield_refusals}
use Rattle.pip_model.specs.Switching.{yield_happens}
use Rattle.pip_model.specs.Worlds.{Happened, World, done, with_running, runs_on}
use Rattle.pip_model.specs.declared.processors.Occupant.{Occupant}
use Rattle.pip_model.specs.declared.processors.Taker.{Taker}
use Rattle.pip_model.proofs.Calls.Table.{laws_of}

module _ (w : World) (cs : List Places) where
  -- the same world with other caches
  abbrev v : World
  v = record w { caches = cs }

  delivered : (cpu : ℕ) (r : Occupant) (k a b : ℕ) → DiffersInCaches (deliver v cpu r k a b) (deliver w cpu r k a b)
  delivered cpu r k a b = go (nearest_taker w r.name k)
    where
      go : (o : Option Taker) → DiffersInCaches (deliver_to v cpu r k a b o) (deliver_to w cpu r k a b o)
      go None = record { outcome = refl; tree = refl; cpus = refl }
      go (Some y) = record { outcome = refl; tree = refl; cpus = refl }

  read : (cpu : ℕ) (r : Occupant) (va : ℕ) (a : Access) (z : Size) (q : Reached)
      → DiffersInCaches (load_happens v cpu r va a z q) (load_happens w cpu r va a z q)
  read cpu r va a z (Place g i) = record { outcome = refl; tree = refl; cpus = refl }
  read cpu r va a z (Faulted f) = delivered cpu r (fault_vector f) va (16 * access_number a + fault_number f)

  written : (cpu : ℕ) (r : Occupant) (va : ℕ) (z : Size) (x : ℕ) (q : Reached)
      → DiffersInCaches (wrote v cpu r va z x q) (wrote w cpu r va z x q)
  written cpu r va z x (Place g i) = record { outcome = refl; tree = refl; cpus = refl }
  written cpu r va z x (Faulted f) = delivered cpu r (fault_vector f) va (16 * access_number Store + fault_number f)

  unless : (cpu : ℕ) (r : Occupant) (o : Option Status) (h k : Happened) → DiffersInCaches h k
      → DiffersInCaches (reply_unless v cpu r o h) (reply_unless w cpu r o k)
  unless cpu r None h k d = d
  unless cpu r (Some s) h k d = record { outcome = refl; tree = refl; cpus = refl }

  entered : (cpu : ℕ) (r : Occupant) (a : Five) (q : ℕ) (o : Option Ctx)
      → DiffersInCaches (yield_happens v cpu r a q o) (yield_happens w cpu r a q o)
  entered cpu r a q None = record { outcome = refl; tree = refl; cpus = refl }
  entered cpu r a q (Some c) = record { outcome = refl; tree = refl; cpus = refl }

  switched : (cpu : ℕ) (r : Occupant) (a : Five) → DiffersInCaches (yield v cpu r a) (yield w cpu r a)
  switched cpu r a =
      let q = target_node w.tree r.name a.x0 in
      let o = handler w.tree (node_name q) a.x1 in
      unless cpu r (first_met (yield_refusals w r.name a q)) (yield_happens v cpu r a (node_name q) o)
      (yield_happens w cpu r a (node_name q) o) (entered cpu r a (node_name q) o)

  calls : (k : CallName) (cpu : ℕ) (r : Occupant) (a : Five) → DiffersInCaches (call k v cpu r a) (call k w cpu r a)
  calls (OnMemory k) cpu r a =
      rw ((laws_of k).caches w cs r.name a) (record { outcome = refl; tree = refl; cpus = refl })
  calls Yields cpu r a = switched cpu r a
  calls (Masks b) cpu r a = record { outcome = refl; tree = refl; cpus = refl }
  calls Unknown cpu r a = record { outcome = refl; tree = refl; cpus = refl }

  untaken : (o : Option Occupant) → DiffersInCaches (none_taken v o) (none_taken w o)
  untaken None = record { outcome = refl; tree = refl; cpus = refl }
  untaken (Some r) = record { outcome = refl; tree = refl; cpus = refl }

  taken : (cpu : ℕ) (o : Option Occupant) (j : ℕ) (h : Option Ctx)
      → DiffersInCaches (take_line v cpu o j h) (take_line w cpu o j h)
  taken cpu o j None = untaken o
  taken cpu o j (Some h) = record { outcome = refl; tree = refl; cpus = refl }

  polled : (cpu : ℕ) (o : Option Occupant) → DiffersInCaches (poll v cpu o) (poll w cpu o)
  polled cpu o = go (may_take w cpu o) (lowest_line w w.tree.root.pending)
    where
      go : (b : Bool) (j : Option ℕ) → DiffersInCaches (cond b (poll_line v cpu o j) (none_taken v o))
          (cond b (poll_line w cpu o j) (none_taken w o))
      go false j = untaken o
      go true None = untaken o
      go true (Some j) = taken cpu o j (handler w.tree w.tree.root.name (32 + j))

  -- nothing happens where nothing runs
  running : (cpu : ℕ) (o : Option Occupant) (f g : Occupant → Happened) → ((r : Occupant) → DiffersInCaches (f r) (g r))
      → DiffersInCaches (on_running v cpu o f) (on_running w cpu o g)
  running cpu None f g h = record { outcome = refl; tree = refl; cpus = refl }
  running cpu (Some r) f g h = h r

  all : (e : Event) → DiffersInCaches (what_happens v e) (what_happens w e)
  all (E.Load cpu va z) = running cpu (runs_on w cpu) (λ r. load_happens v cpu r va Load z
      (reach w.tree r.name va Load z))
      (λ r. load_happens w cpu r va Load z (reach w.tree r.name va Load z))
      (λ r. read cpu r va Load z (reach w.tree r.name va Load z))
  all (E.Store cpu va z x) = running cpu (runs_on w cpu) (λ r. wrote v cpu r va z x (reach w.tree r.name va Store z))
      (λ r. wrote w cpu r va z x (reach w.tree r.name va Store z))
      (λ r. written cpu r va z x (reach w.tree r.name va Store z))
  all (E.Fetch cpu) =
      running cpu (runs_on w cpu) (λ r. load_happens v cpu r r.ctx.pc Fetch Word
      (reach w.tree r.name r.ctx.pc Fetch Word))
      (λ r. load_happens w cpu r r.ctx.pc Fetch Word (reach w.tree r.name r.ctx.pc Fetch Word))
      (λ r. read cpu r r.ctx.pc Fetch Word (reach w.tree r.name r.ctx.pc Fetch Word))
  all (E.Trap cpu k a b) =
      running cpu (runs_on w cpu) (λ r. deliver v cpu r k a b) (λ r. deliver w cpu r k a b) (λ r. delivered cpu r k a b)
  all (E.Call cpu number a) = running cpu (runs_on w cpu) (λ r. call (call_named number) v cpu r a)
      (λ r. call (call_named number) w cpu r a) (λ r. calls (call_named number) cpu r a)
  all (E.Raise j) = record { outcome = refl; tree = refl; cpus = refl }
  all (E.Poll cpu) = polled cpu (runs_on w cpu)
  all (E.SetContext cpu c) = running cpu (runs_on w cpu) (λ r. done (with_running v cpu (Some (record r { ctx = c }))))
      (λ r. done (with_running w cpu (Some (record r { ctx = c }))))
      (λ r. record { outcome = refl; tree = refl; cpus = refl })

pub caches_tell_nothing : CachesTellNothing
caches_tell_nothing w cs e = let d = all w cs e in assumption
