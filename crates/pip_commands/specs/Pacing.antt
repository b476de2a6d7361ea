-- Where a command may read more of its input.
use Rattle.std.specs.Prelude.{◌≡◌, []}
use Rattle.pip_script.specs.Held.{Held}
use Rattle.pip_script.specs.Lines.{IsLineless}
use Rattle.pip_io.specs.Pacing.{MayRead}
use Rattle.pip_io.specs.Taken.{Taken, Keeps}
use Rattle.pip_io.specs.Histories.{writing}
use Rattle.pip_command_contracts.specs.Streams.{Streams, beside}

-- while no line of a script stands in what is held, more may be read, once all that was given to be written is out
abbrev pub MayReadLine : (Streams → Type 0) → Held → Streams → Type 0
MayReadLine allows i a =
    (out : Taken) → Keeps a.written out → out.buffered ≡ []
    → MayRead allows (IsLineless i) (beside a.left a.reads (writing out a.writes))
