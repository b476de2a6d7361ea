-- What was read since a line was sought.
use Rattle.std.specs.Prelude.{◌≡◌, ℕ, ◌+◌, ◌≤◌, List, [], ◌++◌, length, Option, Some, None, refl}
use Rattle.std.proofs.Common.{ap, sym, subst, ◌∙◌, append_assoc, append-nil, arith, length-append}
use Rattle.std.specs.Io.KnownBytes.{Consumes}
use Rattle.std.proofs.KnownBytes.{Consumes-trans}
use Rattle.pip_script.specs.Held.{Held}
use Rattle.pip_script.specs.Lines.{HasNoNewline, HoldsPart, IsLineless, ReadsOn, still}

-- i was held, and j is held now: these bytes were read, and they stand after what was held
pub record ReadSince (i j : Held) (left left' : Option (List ℕ)) : Type 0 where
  pub more : List ℕ
  pub read : Consumes left left' more
  pub bytes : j.bytes ≡ i.bytes ++ more
  pub room : j.room + length more ≡ i.room

consumes_none : (left : Option (List ℕ)) → Consumes left left []
consumes_none None = tt
consumes_none (Some xs) = refl
