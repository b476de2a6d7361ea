use Rattle.std.proofs.Common.{ℕ, ◌<◌}
use Rattle.pip_search.specs.Stages.{IsStep}
use Rattle.pip_search.proofs.stages.find_step.Given as goal

abbrev pub invariant-loop-choice : goal.invariant-loop-choice
invariant-loop-choice l = (c : ℕ) → c < l.choice
    → IsStep l.targets l.classes l.stages l.width l.goal l.orders l.bound l.place c → ⊥
