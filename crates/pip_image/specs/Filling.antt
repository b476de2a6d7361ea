-- What a buffer holds that was filled from a source.
use Rattle.std.specs.Prelude.{◌≡◌, ◌<◌, ◌≤◌, ℕ, Bool, true, false, List, length, take, Option}
use Rattle.std.specs.Io.KnownBytes.{Consumes, IsAtEnd}
use Rattle.pip_io.specs.Causes.{RoseByOne}
use Rattle.pip_image.specs.declared.filling.Filled.{Filled}

-- The bytes filled are the front of the buffer and were taken from the source. If a read failed, the count of faults is
-- one more, and the bytes leave room and aren't wrong; if none failed, the count is as before, and the input is at its
-- end where the bytes leave room and aren't wrong
pub record IsFilled (wrong : List ℕ → Bool) (filled : Filled) (buf : List ℕ) (left left' : Option (List ℕ))
    (before now : ℕ) : Type 0 where
  pub count : filled.count ≤ length buf
  pub taken : Consumes left left' (take filled.count buf)
  pub ended : filled.failed ≡ false → filled.count < length buf → wrong (take filled.count buf) ≡ false → IsAtEnd left'
  pub rose : filled.failed ≡ true → RoseByOne before now
  pub right : filled.failed ≡ true → wrong (take filled.count buf) ≡ false
  pub few : filled.failed ≡ true → filled.count < length buf
  pub no_faults : filled.failed ≡ false → now ≡ before
