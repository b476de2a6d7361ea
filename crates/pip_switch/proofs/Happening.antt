-- From what runs on a processor to the event of a world.
use Rattle.std.proofs.Common.{◌≡◌, ◌<◌, ◌+◌, ◌*◌, ℕ, zero, suc, List, [], ◌∷◌, arith, length, refl, sym, ap, ◌∙◌, subst}
use Rattle.std.proofs.Common.{Option, Some, None}
use Rattle.std.specs.Prelude.{Err, Ok, option_map, slice_set}
use Rattle.pip_base.specs.Memory.{Memory}
use Rattle.pip_base.specs.declared.types.Ctx.{Ctx}
use Rattle.pip_base.specs.declared.types.Access.{Access}
use Rattle.pip_base.specs.declared.types.Access.TheVariants.{Fetch, Load, Store}
use Rattle.pip_base.specs.declared.types.Size.{Size}
use Rattle.pip_base.specs.declared.types.Size.TheVariants.{Word}
use Rattle.pip_base.specs.declared.outcome.Outcome.{Outcome}
use Rattle.pip_base.specs.declared.outcome.Outcome.TheVariants as O
use Rattle.pip_mmu.specs.Answers.{load_answer, store_answer, tree_stored}
use Rattle.pip_mmu.specs.Faults.{model_fault}
use Rattle.pip_mmu.specs.declared.faults.AccessFault.{AccessFault}
use Rattle.pip_mmu.proofs.Events.{fetch_event, fetch_fault_event, load_event, load_fault_event, store_event}
use Rattle.pip_mmu.proofs.Events.{store_fault_event}
use Rattle.pip_model.specs.Deliver.{deliver}
use Rattle.pip_model.specs.Events as E
use Rattle.pip_model.specs.Happens.{access_number, what_happens, deliver_fault, fault_number, fault_vector, on_running}
use Rattle.pip_model.specs.Local.{Succeeded}
use Rattle.pip_model.proofs.Locality.OneEvent.{deliver-fails}
use Rattle.pip_model.specs.Partitions.{IsHeld}
use Rattle.pip_model.specs.Reach.{Fault, reach}
use Rattle.pip_model.specs.Worlds.{Happened, World, ctx_of, ctx_on, done, with_running, runs_on}
use Rattle.pip_model.specs.declared.processors.Occupant.{Occupant}
use Rattle.pip_switch.specs.Occupied.{on_cpu, part_on}
use Rattle.pip_switch.specs.Standing.{Came, StandsFor}
use Rattle.pip_switch.proofs.Running.{none_of, part_of, runs_there}

-- what happened is the event
pub came_so : (h k : Happened) (outcome : Outcome) (m : Memory) (cs : List (Option Occupant)) → h ≡ k
    → Came k outcome m cs → Came h outcome m cs
came_so h k outcome m cs e c = subst (λ z. Came z outcome m cs) (sym e) c

-- a fault that is delivered is no success
pub fault_fails : (w : World) (cpu : ℕ) (r : Occupant) (va : ℕ) (a : Access) (f : Fault) (o : Outcome)
    → o ≡ (deliver_fault w cpu r va a f).outcome → Succeeded o → ⊥
fault_fails w cpu r va a f o e h =
    deliver-fails w cpu r (fault_vector f) va (16 * access_number a + fault_number f) (subst Succeeded e h)

-- what a change of context answers: nothing happens where nothing runs
abbrev pub set_outcome : Option Occupant → Outcome
set_outcome None = O.Idle
set_outcome (Some r) = O.Done

-- nothing is put where nothing runs
set_same : (cs : List (Option Occupant)) (cpu : ℕ) → on_cpu cs cpu ≡ None → cpu < length cs → slice_set cs cpu None ≡ cs
set_same [] cpu e l = absurd (omega (arith, l))
set_same (c ∷ cs) zero e l = ap (λ o. o ∷ cs) (sym e)
set_same (c ∷ cs) (suc i) e l = ap (λ k. c ∷ k) (set_same cs i e (omega (arith, l)))

module _ (m : Memory) (cs : List (Option Occupant)) (w : World) (s : StandsFor m cs w) (cpu : ℕ) where
  -- what runs, if anything does, gets another context
  pub came_set : (f : Ctx → Ctx) (ds : List (Option Occupant))
      → ds ≡ slice_set cs cpu (option_map {T = Occupant} (λ r. record r { ctx = f r.ctx }) (on_cpu cs cpu))
      → cpu < length cs → Came (what_happens w (E.SetContext cpu (f (ctx_on w cpu)))) (set_outcome (on_cpu cs cpu)) m ds
  came_set f ds is inside =
      let there = runs_there m cs cpu w s in
      subst (λ o. Came (on_running w cpu o (λ r. done (with_running w cpu (Some (record r { ctx = f (ctx_of o) })))))
      (set_outcome (on_cpu cs cpu)) m ds) (sym there)
      (go (on_cpu cs cpu) refl is)
    where
      go : (o : Option Occupant) → on_cpu cs cpu ≡ o
          → ds ≡ slice_set cs cpu (option_map {T = Occupant} (λ r. record r { ctx = f r.ctx }) o) → Came (on_running w
          cpu o (λ r. done (with_running w cpu (Some (record r { ctx = f (ctx_of o) }))))) (set_outcome o) m ds
      go None none set = record {
        outcome = refl;
        shows = record { laid = s.shows.laid; cpus = s.shows.cpus ∙ sym (set_same cs cpu none inside) ∙ sym set };
      }
      go (Some r) some set = record {
        outcome = refl;
        shows = record {
          laid = s.shows.laid;
          cpus = ap (λ c. slice_set c cpu (Some (record r { ctx = f r.ctx }))) s.shows.cpus ∙ sym set;
        };
      }

  -- ---- a partition runs there

  module _ (p : ℕ) (on : part_on cs cpu ≡ Some p) where
    here : (r : Occupant) × (runs_on w cpu ≡ Some r) × (r.name ≡ p)
    here = let (r, is, name) = part_of (on_cpu cs cpu) p on in (r, runs_there m cs cpu w s ∙ is, name)

    pub came_loaded : (va : ℕ) (size : Size) (word : ℕ) → Ok word ≡ load_answer w.tree va size
        (reach w.tree p va Load size) → Came (what_happens w (E.Load cpu va size)) (O.Word word) m cs
    came_loaded va size word h =
        let (r, runs, name) = here in
        let P : ℕ → Type 0 = λ q. Ok word ≡ load_answer w.tree va size (reach w.tree q va Load size) in
        came_so _ _ (O.Word word) m cs (load_event w cpu r runs va size word (subst P (sym name) h))
        (record { outcome = refl; shows = s.shows })

    pub load_faulted : (va : ℕ) (size : Size) (f : AccessFault) → Err f ≡ load_answer w.tree va size
        (reach w.tree p va Load size) → (o : Outcome) (n : Memory) (ds : List (Option Occupant))
        → ((r : Occupant) → runs_on w cpu ≡ Some r → Came (deliver_fault w cpu r va Load (model_fault f)) o n ds)
        → Came (what_happens w (E.Load cpu va size)) o n ds
    load_faulted va size f h o n ds came =
        let (r, runs, name) = here in
        let P : ℕ → Type 0 = λ q. Err f ≡ load_answer w.tree va size (reach w.tree q va Load size) in
        came_so _ _ o n ds (load_fault_event w cpu r runs va size f (subst P (sym name) h)) (came r runs)

    pub came_stored : (va : ℕ) (size : Size) (x : ℕ) (n : Memory) → Ok tt ≡ store_answer (reach w.tree p va Store size)
        → IsHeld (tree_stored w.tree va size x (reach w.tree p va Store size)) n
        → Came (what_happens w (E.Store cpu va size x)) O.Done n cs
    came_stored va size x n h left =
        let (r, runs, name) = here in
        let P : ℕ → Type 0 = λ q. Ok tt ≡ store_answer (reach w.tree q va Store size) in
        let Q : ℕ → Type 0 = λ q. IsHeld (tree_stored w.tree va size x (reach w.tree q va Store size)) n in
        came_so _ _ O.Done n cs (store_event w cpu r runs va size x (subst P (sym name) h))
        (record { outcome = refl; shows = record { laid = (subst Q (sym name) left).1; cpus = s.shows.cpus } })

    pub store_faulted : (va : ℕ) (size : Size) (x : ℕ) (f : AccessFault)
        → Err f ≡ store_answer (reach w.tree p va Store size) → (o : Outcome) (n : Memory) (ds : List (Option Occupant))
        → ((r : Occupant) → runs_on w cpu ≡ Some r → Came (deliver_fault w cpu r va Store (model_fault f)) o n ds)
        → Came (what_happens w (E.Store cpu va size x)) o n ds
    store_faulted va size x f h o n ds came =
        let (r, runs, name) = here in
        let P : ℕ → Type 0 = λ q. Err f ≡ store_answer (reach w.tree q va Store size) in
        came_so _ _ o n ds (store_fault_event w cpu r runs va size x f (subst P (sym name) h)) (came r runs)

    -- a trap is delivered
    pub trapped : (k a b : ℕ) (o : Outcome) (n : Memory) (ds : List (Option Occupant)) → ((r : Occupant)
        → runs_on w cpu ≡ Some r → Came (deliver w cpu r k a b) o n ds) → Came (what_happens w (E.Trap cpu k a b)) o n
        ds
    trapped k a b o n ds came = let (r, runs, name) = here in
        came_so _ _ o n ds (ap (λ o. on_running w cpu o (λ r. deliver w cpu r k a b)) runs) (came r runs)

    -- it fetches at its program counter
    module _ (pc : ℕ) (at : (r : Occupant) → on_cpu cs cpu ≡ Some r → pc ≡ r.ctx.pc) where
      at_pc : (r : Occupant) × (runs_on w cpu ≡ Some r) × (r.name ≡ p) × (pc ≡ r.ctx.pc)
      at_pc = let (r, is, name) = part_of (on_cpu cs cpu) p on in (r, runs_there m cs cpu w s ∙ is, name, at r is)

      pub came_fetched : (word : ℕ) → Ok word ≡ load_answer w.tree pc Word (reach w.tree p pc Fetch Word)
          → Came (what_happens w (E.Fetch cpu)) (O.Word word) m cs
      came_fetched word h =
          let (r, runs, name, same) = at_pc in
          let P : ℕ → ℕ → Type 0 = λ a q. Ok word ≡ load_answer w.tree a Word (reach w.tree q a Fetch Word) in
          came_so _ _ (O.Word word) m cs (fetch_event w cpu r runs word
          (subst (λ a. P a r.name) same (subst (P pc) (sym name) h))) (record { outcome = refl; shows = s.shows })

      pub fetch_faulted : (f : AccessFault) → Err f ≡ load_answer w.tree pc Word (reach w.tree p pc Fetch Word)
          → (o : Outcome) (n : Memory) (ds : List (Option Occupant))
          → ((r : Occupant) → runs_on w cpu ≡ Some r → Came (deliver_fault w cpu r pc Fetch (model_fault f)) o n ds)
          → Came (what_happens w (E.Fetch cpu)) o n ds
      fetch_faulted f h o n ds came =
          let (r, runs, name, same) = at_pc in
          let P : ℕ → ℕ → Type 0 = λ a q. Err f ≡ load_answer w.tree a Word (reach w.tree q a Fetch Word) in
          came_so _ _ o n ds
          (fetch_fault_event w cpu r runs f (subst (λ a. P a r.name) same (subst (P pc) (sym name) h))
          ∙ ap (λ a. deliver_fault w cpu r a Fetch (model_fault f)) (sym same)) (came r runs)
