-- The law of the auditor: yes exactly on the layouts of sound trees.
use Rattle.std.specs.Prelude.{◌≡◌}
use Rattle.pip_audit.specs.declared.auditor.Verdict.TheVariants as V
use Rattle.pip_audit.specs.Verdict.{verdict_of}
use Rattle.pip_base.specs.Memory.{IsMemory, Memory}
use Rattle.pip_model.specs.Audit.{HasWordsOnly, finding}
use Rattle.pip_model.specs.Layout.{LaysOut}
use Rattle.pip_model.specs.Sound.{IsSound}
use Rattle.pip_model.specs.Tree.{Tree}

-- some sound tree is laid out
pub record LaysSome (m : Memory) : Type 0 where
  pub tree : Tree
  pub sound : IsSound tree
  pub lays : LaysOut tree m

-- The law. Yes is said of a memory that lays out some sound tree
abbrev pub LayoutsAreYes : Type 0
LayoutsAreYes = (m : Memory) → LaysSome m → verdict_of (finding m) ≡ V.Yes

-- and of no other
abbrev pub YesAreLayouts : Type 0
YesAreLayouts = (m : Memory) → IsMemory m → HasWordsOnly m → verdict_of (finding m) ≡ V.Yes → LaysSome m
