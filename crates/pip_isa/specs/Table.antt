-- The table of opcodes of the program.
use Rattle.std.specs.Prelude.{ℕ, List}
use Rattle.pip_model.specs.InstrWords as W
use Rattle.pip_model.specs.declared.form.Form.{Form}
use Rattle.pip_isa.specs.declared.table.Opcode.{Opcode}

-- a row without what its words are read as
pub record OpcodeRow : Type 0 where
  pub name : List ℕ
  pub form : Form

-- such a row of the model's table
abbrev pub row_of : W.Opcode → OpcodeRow
row_of o = record { name = o.name; form = o.form }

-- such a row of the program's table
abbrev pub opcode_row_seen : Opcode → OpcodeRow
opcode_row_seen o = record { name = o.name.now; form = o.form }
