-- A machine in the middle of a search of a guest alone.
use Rattle.std.specs.Prelude.{◌≡◌, ℕ, ◌&&◌, Bool, not, List}
use Rattle.pip_model.specs.Acts.{after_acts, text_of}
use Rattle.pip_model.specs.Turn.{turn}
use Rattle.pip_model.specs.Worlds.{World}
use Rattle.pip_switch.specs.Standing.{StandsFor, State}
use Rattle.pip_apart.specs.Company.{runs_below}

-- what never changes in a search: how many processors a machine has, the top of the guest, and its processors
pub record Alone : Type 0 where
  pub machine : ℕ
  pub top : ℕ
  pub cpus : List ℕ

-- a processor had its turn: the frames and processors of a machine stand for the world after it; the label is what it
-- showed; and `kept` says whether the guest ran there before and after it, and asked nobody
pub record HasTurned (w : World) (p cpu : ℕ) (asks : Bool) (m : State) (label : List ℕ) (kept : Bool) : Type 0 where
  pub world : StandsFor m.memory m.cpus (after_acts w (turn w cpu 0))
  pub label_is : label ≡ text_of (turn w cpu 0)
  pub kept_is : kept ≡ (runs_below w p cpu && (not asks && runs_below (after_acts w (turn w cpu 0)) p cpu))
