-- What a call that writes a text does to its sink, from what the sink tells before, `old`, to after, `new`.
use Rattle.std.specs.Prelude.{◌≡◌, ℕ, List, [], Result, OnErr, OnOk}
use Rattle.pip_io.specs.Causes.{HasCause}
use Rattle.pip_io.specs.Taken.{Appends, SendsPart, Wrote}
use Rattle.pip_io.specs.Histories.{Writing}

-- all of the text was taken and no write failed; or one write failed, and a part of the text was taken, not the whole
pub record Writes {K T E : Type 0} (history : K → Writing) (old new : K) (result : Result T E) (text : List ℕ) : Type 0
  where
    pub wrote : Wrote result (history old).written (history new).written text
    pub cause : HasCause (history old).faults (history new).faults result

-- all of the text was taken, nothing is buffered, and no write failed; or one write failed, and of what was buffered
-- before and of the text a part went out, not the whole
pub record WritesOut {K T E : Type 0} (history : K → Writing) (old new : K) (result : Result T E)
    (text : List ℕ) : Type 0
  where
    pub whole : OnOk result (Appends (history old).written (history new).written text)
    pub part : OnErr result (SendsPart (history old).written (history new).written text)
    pub none : OnOk result ((history new).written.buffered ≡ [])
    pub cause : HasCause (history old).faults (history new).faults result
