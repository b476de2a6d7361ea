-- What `audit` makes of what `core` writes.
use Rattle.std.specs.Prelude.{◌≡◌, ℕ, ◌≤◌, ◌⊎◌, List, ◌++◌, Option, Some}
use Rattle.pip_base.specs.Memory.{Memory}
use Rattle.pip_audit.specs.Core.{Whole, core_text}
use Rattle.pip_io.specs.Causes.{RoseByOne}
use Rattle.pip_io.specs.Taken.{Appends}
use Rattle.pip_model.specs.Audit.{IsFound}
use Rattle.pip_model.specs.Dump.{frames_text}
use Rattle.pip_model.specs.Layout.{LaysOut}
use Rattle.pip_model.specs.Run.{end_line}
use Rattle.pip_model.specs.Sound.{IsSound}
use Rattle.pip_model.specs.Tree.{Tree}
use Rattle.pip_switch.specs.Standing.{State}
use Rattle.pip_commands.specs.Dues.{audit_due, yes_text}
use Rattle.pip_command_contracts.specs.EndsBy.{EndsBy}
use Rattle.pip_command_contracts.specs.Streams.{Streams}

-- what `core` writes of a tree's frames after this many steps
abbrev pub core_of : Tree → ℕ → List ℕ
core_of t count = frames_text t ++ end_line count

-- `audit` is given this text, and no read and no write fails
pub record IsGiven (text : List ℕ) (a b : Streams) : Type 0 where
  pub input : a.left ≡ Some text
  pub reads : RoseByOne a.reads b.reads → ⊥
  pub writes : RoseByOne a.writes b.writes → ⊥

-- the text of a tree's frames is read as they are, and the tree that is found in them is that one, up to the order of
-- its nodes. So `audit` writes the text of the tree, without the last line of `tree`, and `yes`; or there is no memory
pub record IsAudited (t : Tree) (m : Memory) (count : ℕ) : Type 0 where
  pub read : core_text t.frames (core_of t count) ≡ Whole m
  pub found : IsFound t m
  pub ends : (code : ℕ) (p : Option State) (a b : Streams) → EndsBy (audit_due t.frames) code p a b
      → IsGiven (core_of t count) a b
      → ((code ≡ 0) × Appends a.written b.written (yes_text t)) ⊎ (code ≡ 5)

-- `audit` makes this of whatever `core` writes of a sound tree
abbrev pub CoreIsAudited : Type 0
CoreIsAudited = (t : Tree) (m : Memory) (count : ℕ) → IsSound t → LaysOut t m → count ≤ 10000000 → IsAudited t m count
