-- What a block of frames owns and lends.
use Rattle.std.specs.Prelude.{ℕ, List}
use Rattle.std.specs.Borrow.{Array, u32, RattleType, full_share, lent_at}
use mir.Syntax.{Ty, ty_array}
use mir.Raw.{raw}
use base.Fml.{Fml, Lft, fsep}
use denote.Memory.{lone}
use denote.RawPtr.{Ptr, lies_at, room_for}
use Rattle.std.specs.contracts.impls.GlobalAllocator.TheImpl.{ghosts}

-- the type of a frame's words
abbrev pub Frame : RattleType
Frame = Array u32 1024

-- what the allocator gives with a block of this layout at p, and wants back with it
abbrev pub free_token : Ty → Ptr → Fml
free_token τ p = ghosts.dealloc_token (record { memory = record { seal = tt } }) τ p

-- the right to free the block of n frames at p
abbrev pub right_to_free : Ptr → ℕ → Fml
right_to_free p n = free_token (raw (ty_array (lone Frame.mir) n)) p

-- n frames lie at p, in a block of their own
abbrev pub block_owns : Ptr → ℕ → List (List ℕ) → Fml
block_owns p n xs = fsep (lies_at (Array Frame n) full_share p xs) (right_to_free p n)

-- what a `&` to a block shows: the words of each frame
abbrev pub block_lent : Ptr → ℕ → List (List ℕ) → Lft → Fml
block_lent p n xs = lent_at (Array Frame n) p xs

-- room for n frames at p, in a block of its own
abbrev pub room_owns : Ptr → ℕ → Fml
room_owns p n = fsep (room_for (raw (ty_array (lone Frame.mir) n)) p) (right_to_free p n)
