-- What partitions above do that is no matter of a guest: most of what a parent does with one child is nothing to
-- another child.
use Rattle.std.specs.Prelude.{◌≡◌, ◌≢◌, ℕ}
use Rattle.pip_base.specs.declared.outcome.Outcome.{Outcome}
use Rattle.pip_base.specs.declared.types.Access.TheVariants.{Store}
use Rattle.pip_base.specs.declared.types.Size.{Size}
use Rattle.pip_model.specs.Answers.{Five, child_name}
use Rattle.pip_model.specs.Events.{Event, IsEvent}
use Rattle.pip_model.specs.Events as E
use Rattle.pip_model.specs.Handlers.{save_place}
use Rattle.pip_model.specs.Happens.{call_named}
use Rattle.pip_model.specs.Lists.{In}
use Rattle.pip_model.specs.Local.{actor}
use Rattle.pip_model.specs.Reach.{Place, reach}
use Rattle.pip_model.specs.Switching.{node_name, target_node, yield_place}
use Rattle.pip_model.specs.Tree.{Tree, ancestry, names_of, node, nodes, row_pages}
use Rattle.pip_model.specs.Worlds.{IsSoundWorld, World}
use Rattle.pip_model.specs.declared.call_name.CallName.{CallName}
use Rattle.pip_model.specs.declared.call_name.CallName.TheVariants.{Masks, OnMemory, Unknown, Yields}
use Rattle.pip_model.specs.declared.call_name.MemoryCall.{MemoryCall}
use Rattle.pip_model.specs.declared.call_name.MemoryCall.TheVariants.{AddVAddr, Collect, CountToMap, CreatePartition}
use Rattle.pip_model.specs.declared.call_name.MemoryCall.TheVariants.{DeletePartition, MappedInChild, Prepare}
use Rattle.pip_model.specs.declared.call_name.MemoryCall.TheVariants.{RemoveVAddr}
use Rattle.pip_switch.specs.Isolation.{Takes}
use Rattle.pip_switch.specs.Standing.{StandsAs, State}
use Rattle.pip_guests.specs.Guests.{IsApart, IsSameGuest}

-- ---- what a call concerns

-- the child of r at d, if there is one, is neither p nor above it
abbrev pub IsOtherChild : ℕ → Tree → ℕ → ℕ → Type 0
IsOtherChild p t r d = In (child_name t r d) (ancestry t p) → ⊥

-- a call on memory by r changes another child than p or one above it, or makes one, or changes nothing
abbrev pub NamesOther : MemoryCall → ℕ → Tree → ℕ → Five → Type 0
NamesOther CreatePartition p t r a = Unit {0}
NamesOther DeletePartition p t r a = IsOtherChild p t r a.x0
NamesOther CountToMap p t r a = Unit {0}
NamesOther Prepare p t r a = IsOtherChild p t r a.x0
NamesOther Collect p t r a = IsOtherChild p t r a.x0
NamesOther AddVAddr p t r a = IsOtherChild p t r a.x1
NamesOther RemoveVAddr p t r a = IsOtherChild p t r a.x0
NamesOther MappedInChild p t r a = Unit {0}

-- a yield of r goes to no partition of p's subtree, and saves r to no page of p
pub record YieldsApart (p : ℕ) (w : World) (r : ℕ) (a : Five) : Type 0 where
  pub target : In p (ancestry w.tree (node_name (target_node w.tree r a.x0))) → ⊥
  pub saved : (g i : ℕ) → yield_place w.tree r a.x2 ≡ Place g i → In g (row_pages (node w.tree p)) → ⊥

-- a call of r is no matter of the guest p
abbrev pub CallsApart : CallName → ℕ → World → ℕ → Five → Type 0
CallsApart (OnMemory c) p w r a = NamesOther c p w.tree r a
CallsApart Yields p w r a = YieldsApart p w r a
CallsApart (Masks b) p w r a = Unit {0}
CallsApart Unknown p w r a = Unit {0}

-- ---- what an event concerns

-- where r is saved as it faults, traps or is interrupted, if it is, is no page of p
abbrev pub SavesApart : ℕ → World → ℕ → Type 0
SavesApart p w r = (g i : ℕ) → save_place w.tree r 63 ≡ Place g i → In g (row_pages (node w.tree p)) → ⊥

-- a store of r goes to no page of p
abbrev pub StoresApart : ℕ → World → ℕ → ℕ → Size → Type 0
StoresApart p w r va size = (g i : ℕ) → reach w.tree r va Store size ≡ Place g i
    → In g (row_pages (node w.tree p)) → ⊥

-- an event of the partition on its processor is no matter of the guest p
abbrev pub IsNoMatter : ℕ → World → Event → Type 0
IsNoMatter p w (E.Load cpu va size) = SavesApart p w (actor w (E.Load cpu va size))
IsNoMatter p w (E.Store cpu va size x) =
    StoresApart p w (actor w (E.Store cpu va size x)) va size × SavesApart p w (actor w (E.Store cpu va size x))
IsNoMatter p w (E.Fetch cpu) = SavesApart p w (actor w (E.Fetch cpu))
IsNoMatter p w (E.Trap cpu k a b) = SavesApart p w (actor w (E.Trap cpu k a b))
IsNoMatter p w (E.Call cpu number a) = CallsApart (call_named number) p w (actor w (E.Call cpu number a)) a
IsNoMatter p w (E.Raise j) = ⊥
IsNoMatter p w (E.Poll cpu) = SavesApart p w (actor w (E.Poll cpu))
IsNoMatter p w (E.SetContext cpu c) = Unit {0}

-- ---- the law

-- such an event of a partition that is not of the guest, which may be above it, is not the guest's, and leaves it the
-- same
abbrev pub AncestorsLeaveGuestsAlone : Type 0
AncestorsLeaveGuestsAlone = (w : World) (p : ℕ) (e : Event) → IsSoundWorld w → IsEvent e
    → In p (names_of (nodes w.tree)) → p ≢ w.tree.root.name → In (actor w e) (names_of (nodes w.tree))
    → (In p (ancestry w.tree (actor w e)) → ⊥) → IsNoMatter p w e → IsApart p w e

-- so it does on machines
abbrev pub AncestorsOnMachines : Type 0
AncestorsOnMachines = (m n : State) (e : Event) (o : Outcome) (p : ℕ) → Takes m e o n → IsEvent e → (w : World)
    → StandsAs m w → In p (names_of (nodes w.tree)) → p ≢ w.tree.root.name → In (actor w e) (names_of (nodes w.tree))
    → (In p (ancestry w.tree (actor w e)) → ⊥) → IsNoMatter p w e
    → (v : World) × StandsAs n v × IsSameGuest p w v
