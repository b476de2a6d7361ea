-- What the program's cells and statements stand for.
use Rattle.std.specs.Prelude.{ℕ, ◌<◌, ◌≤◌, ◌^◌, Result, Ok, Err}
use Rattle.pip_model.specs.AsmWords.{Use, Nothing, Address, Low, High, Distance, Cell}
use Rattle.pip_model.specs.AsmLines.{Statement, Blank, Frames, Cpus, Plans, Begins, Holds, Zeros, Names}
use Rattle.pip_model.specs.declared.assembly.AsmKind.{AsmKind}
use Rattle.pip_asm.specs.declared.line.cell.NameUse.{NameUse}
use Rattle.pip_asm.specs.declared.line.cell.NameUse.TheVariants as V
use Rattle.pip_asm.specs.declared.line.cell.Cell.{Cell as OwnCell}
use Rattle.pip_asm.specs.declared.line.cell.Statement.{Statement as OwnStatement}
use Rattle.pip_asm.specs.declared.line.cell.Statement.TheVariants as S

-- what the model says of how a word takes a name
abbrev pub use_seen : NameUse → Use
use_seen V.Nothing = Nothing
use_seen (V.Address t) = Address t.now
use_seen (V.Low t) = Low t.now
use_seen (V.High t) = High t.now
use_seen (V.Distance t) = Distance t.now

-- the model's cell of a cell of the program
abbrev pub cell_of : OwnCell → Cell
cell_of c = record { number = c.number; takes = use_seen c.takes }

-- a cell or a fault, as the model has it
abbrev pub cell_seen : Result OwnCell AsmKind → Result Cell AsmKind
cell_seen (Ok c) = Ok (cell_of c)
cell_seen (Err k) = Err k

-- the model's statement of a statement of the program
abbrev pub statement_of : OwnStatement → Statement
statement_of S.Blank = Blank
statement_of (S.Frames n) = Frames n
statement_of (S.Cpus c) = Cpus c
statement_of (S.Plans p) = Plans p
statement_of (S.Begins v) = Begins v
statement_of (S.Holds c) = Holds (cell_of c)
statement_of (S.Zeros k) = Zeros k
statement_of (S.Names t) = Names t.now

-- a statement or a fault, as the model has it
abbrev pub statement_seen : Result OwnStatement AsmKind → Result Statement AsmKind
statement_seen (Ok s) = Ok (statement_of s)
statement_seen (Err k) = Err k

-- a word that takes a number of 16 bits has room for it
abbrev pub HasRoomFor : ℕ → NameUse → Type 0
HasRoomFor n V.Nothing = Unit {0}
HasRoomFor n (V.Address t) = Unit {0}
HasRoomFor n (V.Low t) = n < 2 ^ 30
HasRoomFor n (V.High t) = n < 2 ^ 30
HasRoomFor n (V.Distance t) = n < 2 ^ 30

-- the numbers of a statement are in their ranges
abbrev pub IsInRange : OwnStatement → Type 0
IsInRange S.Blank = Unit {0}
IsInRange (S.Frames n) = (16 ≤ n) × (n ≤ 4096)
IsInRange (S.Cpus c) = Unit {0}
IsInRange (S.Plans p) = p.line < 16
IsInRange (S.Begins v) = v < 2 ^ 20
IsInRange (S.Holds c) = HasRoomFor c.number c.takes
IsInRange (S.Zeros k) = k ≤ 1024
IsInRange (S.Names t) = Unit {0}
