-- Which events leave a processor running what it ran.
use Rattle.std.proofs.Common.{◌≡◌, ℕ, ◌+◌, ◌*◌, refl, Option, Some, None}
use Rattle.pip_base.specs.declared.types.Access.{Access}
use Rattle.pip_base.specs.declared.types.Access.TheVariants.{Load, Store}
use Rattle.pip_base.specs.declared.types.Size.{Size}
use Rattle.pip_base.specs.declared.outcome.Outcome.TheVariants as O
use Rattle.pip_model.specs.Deliver.{deliver_to, nearest_taker}
use Rattle.pip_model.specs.Events as E
use Rattle.pip_model.specs.Happens.{access_number, event, fault_number, fault_vector, load_happens, on_running, wrote}
use Rattle.pip_model.specs.Reach.{Faulted, Place, Reached, reach}
use Rattle.pip_model.specs.Worlds.{World, runs_on}
use Rattle.pip_model.specs.declared.processors.Occupant.{Occupant}
use Rattle.pip_model.specs.declared.processors.Taker.{Taker}

module _ (w : World) (cpu : ℕ) where
  -- a fault reads no word and does nothing
  no_word : (r : Occupant) (k a b v : ℕ) (y : Option Taker) → (deliver_to w cpu r k a b y).outcome ≡ O.Word v → ⊥
  no_word r k a b v None h = cc
  no_word r k a b v (Some y) h = cc

  not_done : (r : Occupant) (k a b : ℕ) (y : Option Taker) → (deliver_to w cpu r k a b y).outcome ≡ O.Done → ⊥
  not_done r k a b None h = cc
  not_done r k a b (Some y) h = cc

  read_same : (r : Occupant) (va v : ℕ) (access : Access) (size : Size) (q : Reached)
      → (load_happens w cpu r va access size q).outcome ≡ O.Word v → (load_happens w cpu r va access size q).world.cpus
      ≡ w.cpus
  read_same r va v access size (Place g i) h = refl
  read_same r va v access size (Faulted f) h = absurd (no_word r (fault_vector f) va
      (16 * access_number access + fault_number f) v (nearest_taker w r.name (fault_vector f)) h)

  wrote_same : (r : Occupant) (va x : ℕ) (size : Size) (q : Reached) → (wrote w cpu r va size x q).outcome ≡ O.Done
      → (wrote w cpu r va size x q).world.cpus ≡ w.cpus
  wrote_same r va x size (Place g i) h = refl
  wrote_same r va x size (Faulted f) h =
      absurd (not_done r (fault_vector f) va (16 * 1 + fault_number f) (nearest_taker w r.name (fault_vector f)) h)

  -- a load that answers a word leaves what runs, and so does a store that is done
  pub load_same : (va v : ℕ) (size : Size) → (event w (E.Load cpu va size)).outcome ≡ O.Word v
      → (event w (E.Load cpu va size)).world.cpus ≡ w.cpus
  load_same va v size h = on (runs_on w cpu) h
    where
      on : (o : Option Occupant) → (on_running w cpu o
          (λ r. load_happens w cpu r va Load size (reach w.tree r.name va Load size))).outcome ≡ O.Word v
          → (on_running w cpu
          o (λ r. load_happens w cpu r va Load size (reach w.tree r.name va Load size))).world.cpus ≡ w.cpus
      on None e = refl
      on (Some r) e = read_same r va v Load size (reach w.tree r.name va Load size) e

  pub store_same : (va x : ℕ) (size : Size) → (event w (E.Store cpu va size x)).outcome ≡ O.Done
      → (event w (E.Store cpu va size x)).world.cpus ≡ w.cpus
  store_same va x size h = on (runs_on w cpu) h
    where
      on : (o : Option Occupant)
          → (on_running w cpu o (λ r. wrote w cpu r va size x (reach w.tree r.name va Store size))).outcome ≡ O.Done
          → (on_running w cpu o (λ r. wrote w cpu r va size x (reach w.tree r.name va Store size))).world.cpus ≡ w.cpus
      on None e = refl
      on (Some r) e = wrote_same r va x size (reach w.tree r.name va Store size) e
