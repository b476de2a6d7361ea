-- What may be looked at in a world without an event: a word of a frame, a register of what runs.
use Rattle.std.specs.Prelude.{ℕ, ◌==◌, ◌&&◌, nat_lt, if◌then◌else◌, Option, Some, None, slice_index}
use Rattle.pip_model.specs.Layout.{layout}
use Rattle.pip_model.specs.Worlds.{World}
use Rattle.pip_model.specs.declared.processors.Occupant.{Occupant}

-- none where there is no such frame or no such word
abbrev pub peek_word : World → ℕ → ℕ → Option ℕ
peek_word w f i = if nat_lt f w.tree.frames && nat_lt i 1024 then Some (layout w.tree f i) else None

-- register 16 is the pc
abbrev pub register_or_pc : ℕ → Occupant → ℕ
register_or_pc i r = if i == 16 then r.ctx.pc else slice_index r.ctx.regs i
