-- Where the blocks of a partition stand.
use Rattle.std.specs.Prelude.{◌≡◌, ℕ, ◌+◌, ◌*◌, ◌%◌, ◌<◌, ◌≤◌, ◌==◌, ◌&&◌, nat_le, nat_lt, not, if◌then◌else◌, length}
use Rattle.std.specs.Prelude.{true, false, is_some, Option, Some, None, Result, Ok, Err}
use Rattle.pip_base.specs.Memory.{Memory}
use Rattle.pip_base.specs.declared.types.Access.{Access}
use Rattle.pip_base.specs.declared.types.Access.TheVariants.{Load}
use Rattle.pip_base.specs.declared.types.Ctx.{Ctx}
use Rattle.pip_base.specs.declared.types.Size.TheVariants.{Word}
use Rattle.pip_base.specs.declared.outcome.Status.{Status}
use Rattle.pip_base.specs.declared.outcome.Status.TheVariants as S
use Rattle.pip_model.specs.Handlers.{can_save, saved_to}
use Rattle.pip_model.specs.Layout.{LaysOut}
use Rattle.pip_model.specs.Switching.{yield_place}
use Rattle.pip_model.specs.Reach.{Faulted, Place, Reached, reach, word_reached}
use Rattle.pip_model.specs.Sound.{IsSound}
use Rattle.pip_model.specs.Tree.{Tree}
use Rattle.pip_switch.specs.declared.blocks.HandlerBlock.{HandlerBlock}
use Rattle.pip_switch.specs.declared.handlers.HandlerEntry.{HandlerEntry}

-- where a block begins to which an access leads, if it doesn't fault
abbrev pub place_of : Reached → Option HandlerBlock
place_of (Place g i) = Some (record { frame = g; index = i })
place_of (Faulted f) = None

-- an address at which a block can begin: all its 17 words stand in one page
abbrev pub entry_from : Option ℕ → Option ℕ
entry_from None = None
entry_from (Some a) = if a % 4 == 0 && nat_le (a % 4096) 4028 then Some a else None

-- such an address in entry k of p's handler table
abbrev pub entry : Tree → ℕ → ℕ → Option ℕ
entry t p k = entry_from (word_reached t (reach t p (0xfffff000 + 4 * k) Load Word))

-- p reaches the page of its handler table by an access
abbrev pub IsTable : Tree → ℕ → Access → ℕ → Type 0
IsTable t p access g = reach t p 0xfffff000 access Word ≡ Place g 0

-- an answer to where the handler table's page is, and what address stands in entry k. That there is none is said of
-- loads only
abbrev pub IsEntry : Tree → ℕ → ℕ → Access → Option HandlerEntry → Type 0
IsEntry t p k access (Some y) = (Some y.address ≡ entry t p k) × IsTable t p access y.page
IsEntry t p k access None = access ≡ Load → None ≡ entry t p k

-- a block can begin at the address
pub record CanBegin (a : ℕ) : Type 0 where
  pub aligned : a % 4 ≡ 0
  pub room : a % 4096 ≤ 4028

-- what was reached is a page that can be read, with room for a block
pub record IsOpen (t : Tree) (q : Reached) : Type 0 where
  pub page : (h i : ℕ) → q ≡ Place h i → is_some (t.words h) ≡ true
  pub frame : (h i : ℕ) → q ≡ Place h i → h < t.frames
  pub room : (h i : ℕ) → q ≡ Place h i → i + 17 ≤ 1024

-- the 17 words of a block are in a frame of the memory
pub record HasRoom (m : Memory) (b : HandlerBlock) : Type 0 where
  pub inside : b.frame < length m
  pub room : b.index + 17 ≤ 1024

-- a context is saved in a place, if there is one, whatever tree has an open block there
abbrev pub SavesAt : Memory → Option HandlerBlock → Ctx → Memory → Type 0
SavesAt m place ctx n =
    (t : Tree) (q : Reached) → IsSound t → LaysOut t m → IsOpen t q → place ≡ place_of q → LaysOut (saved_to t ctx q) n

-- where a yield saves p by the vector s: nowhere at 256. It is refused where the block can't be saved to
abbrev pub IsPlace : Tree → ℕ → ℕ → Result (Option HandlerBlock) Status → Type 0
IsPlace t p s (Ok y) = (y ≡ place_of (yield_place t p s)) × ((nat_lt s 256 && not (can_save t p s)) ≡ false)
IsPlace t p s (Err q) = (q ≡ S.BadSave) × ((nat_lt s 256 && not (can_save t p s)) ≡ true)
