-- Where a command may read more of its input.
use Rattle.std.specs.Prelude.{◌≡◌, ℕ, List, []}
use Rattle.std.specs.Io.KnownBytes.{Consumes}
use Rattle.pip_command_contracts.specs.EndsBy.{Due, IsSoFar}
use Rattle.pip_command_contracts.specs.Streams.{Streams}

-- from a to b bytes were read that have no answer yet, all that is due for them is out, and no call failed
pub record Waits (d : Due) (a b : Streams) : Type 0 where
  pub bytes : List ℕ
  pub read : Consumes a.left b.left bytes
  pub so_far : IsSoFar d bytes a b
  pub out : b.written.buffered ≡ []
  pub reads : b.reads ≡ a.reads
  pub writes : b.writes ≡ a.writes

-- nothing is held; the source is open if the command waits at first, and whatever it asks for at a read holds wherever
-- the command waits
pub record IsPaced (d : Due) (opened : Type 0) (may_read : Streams → Type 0) (a : Streams) : Type 0 where
  pub none : a.written.buffered ≡ []
  pub is_open : Waits d a a → opened
  pub allows : (now : Streams) → Waits d a now → may_read now
