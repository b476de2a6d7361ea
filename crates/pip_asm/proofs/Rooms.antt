-- Words with room for 16 bits.
use Rattle.std.specs.Prelude.{ℕ, ◌<◌, ◌^◌}
use Rattle.pip_asm.specs.Seen.{HasRoomFor}
use Rattle.pip_asm.specs.declared.line.cell.NameUse.{NameUse}
use Rattle.pip_asm.specs.declared.line.cell.NameUse.TheVariants as V

pub small_room : (n : ℕ) (u : NameUse) → n < 2 ^ 30 → HasRoomFor n u
small_room n V.Nothing h = tt
small_room n (V.Address t) h = tt
small_room n (V.Low t) h = h
small_room n (V.High t) h = h
small_room n (V.Distance t) h = h
