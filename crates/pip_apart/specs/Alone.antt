-- A guest alone as a system of states: a search of it tells whether the guest stays inside.
use Rattle.std.specs.Prelude.{◌≡◌, ◌≢◌, ℕ, suc, ◌<◌, ◌≤◌, true, cond, List, [], ◌∷◌}
use Rattle.std.specs.Prelude.{length, Some, slice_get, slice_index}
use Rattle.std.specs.List.{AllByRecursion}
use Rattle.pip_base.specs.Memory.{Memory}
use Rattle.pip_base.specs.declared.types.Plan.{Plan}
use Rattle.pip_model.specs.Acts.{after_acts, text_of}
use Rattle.pip_model.specs.Lists.{In}
use Rattle.pip_model.specs.Local.{IsAside}
use Rattle.pip_model.specs.Tree.{names_of, nodes}
use Rattle.pip_model.specs.Turn.{turn}
use Rattle.pip_model.specs.Worlds.{IsSoundWorld, World}
use Rattle.pip_guests.specs.Programs.{Slot, all_steps, ready}
use Rattle.pip_search.specs.Orders.{IsNoLater}
use Rattle.pip_search.specs.Summary.{IsTold, Witness}
use Rattle.pip_search.specs.Systems.{Model}
use Rattle.pip_search.specs.declared.searching.Extent.{Extent}
use Rattle.pip_search.specs.declared.searching.Extent.TheVariants.{Closed}
use Rattle.pip_every.specs.Keys.{IsKeyOf}
use Rattle.pip_every.specs.Moments.{Scope}
use Rattle.pip_apart.specs.Company.{IsOfGuests, StaysAlone, TakesNoLine, runs_below}
use Rattle.pip_apart.specs.Kept.{is_kept}

-- ---- the system

-- the byte `!`, which no line of a trace begins with
abbrev pub mark : ℕ
mark = 33

-- what a turn shows: its line as at step 0, with a mark before it if the guest leaves
abbrev pub guest_label : ℕ → World → ℕ → List ℕ
guest_label p w cpu = cond (is_kept p w cpu) (text_of (turn w cpu 0)) (mark ∷ text_of (turn w cpu 0))

-- the world after a turn. One in which the guest leaves is not made: what comes after it is not looked at
abbrev pub guest_world : ℕ → World → ℕ → World
guest_world p w cpu = cond (is_kept p w cpu) (after_acts w (turn w cpu 0)) w

-- the scope of keys of a machine with so many processors, without lines
abbrev pub turns_scope : ℕ → Scope
turns_scope count = record { cpus = count; lines = []; from = 0 }

-- choice k is the turn of the k-th of these processors. Keys are those of the search of all interleavings, of a machine
-- with so many processors
abbrev pub guest_model : Memory → ℕ → ℕ → List ℕ → Model
guest_model first count p cpus = record {
  State = World;
  choices = length cpus;
  act = λ w k. guest_world p w (slice_index cpus k);
  label = λ w k. guest_label p w (slice_index cpus k);
  stands = λ key w. IsKeyOf first (turns_scope count) key (record { world = w; turns = 0 });
}

-- these are the processors on which the guest runs
pub record AreProcessors (w : World) (p : ℕ) (cpus : List ℕ) : Type 0 where
  pub run : (k : ℕ) → k < length cpus → runs_below w p (slice_index cpus k) ≡ true
  pub all : (cpu : ℕ) → runs_below w p cpu ≡ true → (k : ℕ) × (k < length cpus) × (slice_index cpus k ≡ cpu)

-- what a search found shows no turn that leaves
abbrev pub NoneLeaves : List Witness → Type 0
NoneLeaves ws = (k : ℕ) (x : Witness) (text : List ℕ) → slice_get ws k ≡ Some x → x.label ≢ mark ∷ text

-- a search of a guest alone closed, and found these lines and no turn that leaves
pub record IsSearchedAlone (w : World) (p : ℕ) (ws : List Witness) : Type 0 where
  pub first : Memory
  pub machine : ℕ
  pub cpus : List ℕ
  pub processors : AreProcessors w p cpus
  pub most : ℕ
  pub limit : ℕ
  pub count : ℕ
  pub depth : ℕ
  pub told : IsTold (guest_model first machine p cpus) w most limit ws count (Closed depth)
  pub none : NoneLeaves ws

-- then it stays inside, if the root takes no line
abbrev pub SearchedGuestsStay : Type 0
SearchedGuestsStay = (w : World) (p : ℕ) (ws : List Witness) → IsSoundWorld w → In p (names_of (nodes w.tree))
    → p ≢ w.tree.root.name → TakesNoLine w (p ∷ []) → IsSearchedAlone w p ws → StaysAlone w p

-- and where a search found a turn that leaves, it does not, however the search ended
abbrev pub MarkedGuestsLeave : Type 0
MarkedGuestsLeave = (first : Memory) (w : World) (p : ℕ) (cpus : List ℕ) (ws : List Witness)
    (machine k most limit count : ℕ) (x : Witness) (text : List ℕ) (end : Extent) → IsSoundWorld w
    → In p (names_of (nodes w.tree)) → p ≢ w.tree.root.name → TakesNoLine w (p ∷ []) → AreProcessors w p cpus
    → IsTold (guest_model first machine p cpus) w most limit ws count end → slice_get ws k ≡ Some x
    → x.label ≡ mark ∷ text
    → StaysAlone w p → ⊥

-- ---- the theorem

-- partitions of a sound world, none the root and none above another, each of which was searched alone; and no line is
-- taken
pub record AreSearched (w : World) (ps : List ℕ) (found : ℕ → List Witness) : Type 0 where
  pub sound : IsSoundWorld w
  pub names : (p : ℕ) → In p ps → In p (names_of (nodes w.tree))
  pub not_root : (p : ℕ) → In p ps → p ≢ w.tree.root.name
  pub aside : (p q : ℕ) → In p ps → In q ps → p ≢ q → IsAside w.tree p q
  pub searched : (p : ℕ) → In p ps → IsSearchedAlone w p (found p)
  pub lines : TakesNoLine w ps

-- a line was found by the search of one guest, on a way of so many choices at most
pub record IsFoundAlone (ps : List ℕ) (found : ℕ → List Witness) (line : List ℕ) (n : ℕ) : Type 0 where
  pub guest : ℕ
  pub among : In guest ps
  pub place : ℕ
  pub witness : Witness
  pub at : slice_get (found guest) place ≡ Some witness
  pub label : witness.label ≡ line
  pub choices : List ℕ
  pub few : length choices ≤ n
  pub first : IsNoLater witness.way choices

-- whatever turns the processors of all guests have, in whatever order and with whatever lines raised: what the last of
-- them shows, if it shows anything, the search of one guest has found
abbrev pub SearchesAdd : Type 0
SearchesAdd = (plans : List Plan) (w : World) (ps : List ℕ) (found : ℕ → List Witness) (ss : List Slot) (s : Slot)
    → AreSearched w ps found
    → AllByRecursion (λ x. x.line < 16) plans → AllByRecursion (IsOfGuests w ps) (s ∷ ss)
    → text_of (turn (ready plans (after_acts w (all_steps plans w ss)) s) s.cpu 0) ≢ []
    → IsFoundAlone ps found (text_of (turn (ready plans (after_acts w (all_steps plans w ss)) s) s.cpu 0))
    (suc (length ss))
