use Rattle.std.proofs.Common.{ℕ, ◌<◌}
use Rattle.pip_search.specs.Comes.{PassesRanks}
use Rattle.pip_search.proofs.coming.all_pass.Given as goal

abbrev pub invariant-loop-edge : goal.invariant-loop-edge
invariant-loop-edge l = (e : ℕ) → e < l.edge → PassesRanks l.classes l.ranks l.helpers l.columns l.width l.targets e
