-- The faults of assembly texts, as the lines that name them.
use Rattle.std.specs.Prelude.{ℕ, List, ◌++◌, codes, decimal}
use Rattle.pip_model.specs.Assembly.{LineFault}
use Rattle.pip_model.specs.Text.{line_text}
use Rattle.pip_model.specs.declared.assembly.AsmKind.{AsmKind}
use Rattle.pip_model.specs.declared.assembly.AsmKind.TheVariants as K

-- the kind of a fault of an assembly line
abbrev pub asm_kind : AsmKind → List ℕ
asm_kind K.Unknown = codes "unknown"
asm_kind K.Operand = codes "operand"
asm_kind K.Range = codes "range"
asm_kind K.Label = codes "label"
asm_kind K.Twice = codes "twice"
asm_kind K.Size = codes "size"

-- the line that names the fault of an assembly text
abbrev pub asm_line : LineFault → List ℕ
asm_line fault = line_text (codes "bad line " ++ decimal fault.line ++ codes " " ++ asm_kind fault.kind)
