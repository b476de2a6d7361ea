-- Where a source may be read after some bytes.
use Rattle.std.specs.Prelude.{◌≡◌, ℕ, List, ◌++◌, Option}
use Rattle.std.specs.Io.KnownBytes.{Consumes}
use Rattle.std.proofs.Common.{sym, subst}
use Rattle.std.proofs.KnownBytes.{Consumes-trans}
use Rattle.pip_io.specs.Moments.{Streams, beside}
use Rattle.pip_io.specs.Pacing.{MayRead}
use Rattle.pip_io.specs.Histories.{Writing}

-- after bytes that were read without a fault
pub paced_after : (allows : Streams → Type 0) (P Q : List ℕ → Type 0) (a b : Option (List ℕ)) (m n : ℕ) (w : Writing)
    (front : List ℕ) → n ≡ m → Consumes a b front → ((bytes : List ℕ) → Q bytes → P (front ++ bytes))
    → MayRead allows P (beside a m w) → MayRead allows Q (beside b n w)
paced_after allows P Q a b m n w front same read more paced = λ bytes left taken is.
    rw same (paced (front ++ bytes) left (Consumes-trans _ _ _ _ _ read taken) (more bytes is))
