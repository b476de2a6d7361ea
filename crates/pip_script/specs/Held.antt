-- What contracts see of an input.
use Rattle.std.specs.Prelude.{ℕ, List}

-- the bytes that were read and not yet taken, and how many may still be read
pub record Held : Type 0 where
  pub bytes : List ℕ
  pub room : ℕ
