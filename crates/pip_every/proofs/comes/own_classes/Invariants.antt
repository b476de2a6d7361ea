use Rattle.std.proofs.Common.{◌≡◌}
use Rattle.pip_every.specs.Comes.{own_classes}
use Rattle.pip_every.proofs.comes.own_classes.Given as goal

-- those of the choices before this one
abbrev pub invariant-loop-choice : goal.invariant-loop-choice
invariant-loop-choice l = l.classes.items ≡ own_classes l.choice
