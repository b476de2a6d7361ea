-- Guests side by side, each of which was looked at alone: what each does alone it does in any company.
use Rattle.std.specs.Prelude.{◌≡◌, ◌≢◌, ℕ, ◌+◌, ◌*◌, ◌<◌, ◌≤◌, ◌⊎◌, Bool, true, List, [], ◌∷◌, Some, None, filter}
use Rattle.std.specs.Prelude.{length}
use Rattle.std.specs.List.{AllByRecursion}
use Rattle.pip_base.specs.declared.types.Access.TheVariants.{Load}
use Rattle.pip_base.specs.declared.types.Plan.{Plan}
use Rattle.pip_base.specs.declared.types.Size.TheVariants.{Word}
use Rattle.pip_model.specs.Acts.{after_acts, text_of}
use Rattle.pip_model.specs.Events as E
use Rattle.pip_model.specs.Handlers.{handler}
use Rattle.pip_model.specs.Lists.{In, has}
use Rattle.pip_model.specs.Local.{IsAside, actor}
use Rattle.pip_model.specs.Reach.{reach, word_reached}
use Rattle.pip_model.specs.Tree.{Row, ancestry, names_of, node, nodes, row_at, row_pages, vpage}
use Rattle.pip_model.specs.Turn.{turn}
use Rattle.pip_model.specs.Worlds.{IsSoundWorld, World, runs_on}
use Rattle.pip_guests.specs.Programs.{AreInsideTurns, IsRunAsAlone, NoneDue, Slot, all_steps, ready, turns}

-- ---- which guests, and whose turns

-- a partition of p's subtree runs on the processor
abbrev pub runs_below : World → ℕ → ℕ → Bool
runs_below w p cpu = has (ancestry w.tree (actor w (E.Poll cpu))) p

-- the slots of the processors on which the guest p runs in w
abbrev pub slots_of : World → ℕ → List Slot → List Slot
slots_of w p ss = filter (λ s. runs_below w p s.cpu) ss

-- a guest that was looked at alone: whatever turns the processors have on which it runs in w, in any order and without
-- turns of others, all of them stay inside
abbrev pub StaysAlone : World → ℕ → Type 0
StaysAlone w p =
    (ss : List Slot) → AllByRecursion (λ s. runs_below w p s.cpu ≡ true) ss → AreInsideTurns p w ss

-- a partition other than the root, which stays inside alone
pub record IsGuest (w : World) (p : ℕ) : Type 0 where
  pub name : In p (names_of (nodes w.tree))
  pub not_root : p ≢ w.tree.root.name
  pub stays : StaysAlone w p

-- guests of a sound world, none above another
pub record AreGuests (w : World) (ps : List ℕ) : Type 0 where
  pub sound : IsSoundWorld w
  pub each : (p : ℕ) → In p ps → IsGuest w p
  pub aside : (p q : ℕ) → In p ps → In q ps → p ≢ q → IsAside w.tree p q

-- the processor of a slot runs one of the guests, or nothing
abbrev pub IsOfGuests : World → List ℕ → Slot → Type 0
IsOfGuests w ps s = ((p : ℕ) × In p ps × (runs_below w p s.cpu ≡ true)) ⊎ (runs_on w s.cpu ≡ None)

-- ---- no line is taken

-- no guest has the root's page at this address
abbrev pub IsNoGuests : World → List ℕ → ℕ → Type 0
IsNoGuests w ps va = (r : Row) → row_at w.tree.root.rows (vpage va) ≡ Some r → (p : ℕ) → In p ps
    → In r.frame (row_pages (node w.tree p)) → ⊥

-- where the root's entry for vector k is
abbrev pub entry_at : ℕ → ℕ
entry_at k = 0xfffff000 + 4 * k

-- the root has no handler for vector k, and no guest has the page of the entry, nor that of the block that it names
pub record HasNone (w : World) (ps : List ℕ) (k : ℕ) : Type 0 where
  pub none : handler w.tree w.tree.root.name k ≡ None
  pub entry : IsNoGuests w ps (entry_at k)
  pub block : (a : ℕ) → word_reached w.tree (reach w.tree w.tree.root.name (entry_at k) Load Word) ≡ Some a
      → IsNoGuests w ps a

-- so it is for each interrupt line, and lines below 16 are pending at most
pub record TakesNoLine (w : World) (ps : List ℕ) : Type 0 where
  pub handlers : (j : ℕ) → j < 16 → HasNone w ps (32 + j)
  pub pending : AllByRecursion (λ j. j < 16) w.tree.root.pending

-- ---- the laws

-- no line is pending, and none comes: in whatever order the guests have their turns, each has those that it has alone
abbrev pub GuestsHoldInCompany : Type 0
GuestsHoldInCompany = (plans : List Plan) (w : World) (ps : List ℕ) (ss : List Slot) → AreGuests w ps
    → w.tree.root.pending ≡ [] → NoneDue plans ss → AllByRecursion (IsOfGuests w ps) ss → (p : ℕ) → In p ps
    → IsRunAsAlone plans p w ss (slots_of w p ss)

-- lines are pending, or come at any time, and the root has handlers for none: so it is, too
abbrev pub GuestsHoldAmongLines : Type 0
GuestsHoldAmongLines = (plans : List Plan) (w : World) (ps : List ℕ) (ss : List Slot) → AreGuests w ps
    → TakesNoLine w ps → AllByRecursion (λ x. x.line < 16) plans → AllByRecursion (IsOfGuests w ps) ss
    → (p : ℕ) → In p ps → IsRunAsAlone plans p w ss (slots_of w p ss)

-- the turn of a slot in the company, after those of several slots: it is that of one guest alone, whatever the step,
-- after its own slots, which are as many at most
pub record IsShownAlone (plans : List Plan) (w : World) (ps : List ℕ) (ss : List Slot) (s : Slot) : Type 0 where
  pub guest : ℕ
  pub among : In guest ps
  pub runs : runs_below w guest s.cpu ≡ true
  pub few : length (slots_of w guest ss) ≤ length ss
  pub acts : (t : ℕ) → turn (ready plans (after_acts w (all_steps plans w ss)) s) s.cpu t
      ≡ turn (after_acts w (turns w (slots_of w guest ss))) s.cpu t

-- so no line comes in a company that none shows alone: the turn of a slot shows nothing, or is that of a guest alone
abbrev pub LinesAreShownAlone : Type 0
LinesAreShownAlone = (plans : List Plan) (w : World) (ps : List ℕ) (ss : List Slot) (s : Slot) → AreGuests w ps
    → TakesNoLine w ps → AllByRecursion (λ x. x.line < 16) plans → AllByRecursion (IsOfGuests w ps) (s ∷ ss)
    → text_of (turn (ready plans (after_acts w (all_steps plans w ss)) s) s.cpu 0) ≢ [] → IsShownAlone plans w ps ss s

-- and what a guest does alone is one of the orders of a company: that in which no other has a turn
abbrev pub AloneIsAnOrder : Type 0
AloneIsAnOrder = (w : World) (ss : List Slot) → all_steps [] w ss ≡ turns w ss
