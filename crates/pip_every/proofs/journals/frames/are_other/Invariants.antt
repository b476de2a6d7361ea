use Rattle.std.proofs.Common.{length}
use Rattle.pip_switch.specs.Rewinding.{ArePlaces}
use Rattle.pip_every.specs.Changes.{AreOther}
use Rattle.pip_every.proofs.journals.frames.are_other.Given as goal

-- the words so far are such, so all are if those that are left are
abbrev pub invariant-loop-rest : goal.invariant-loop-rest
invariant-loop-rest g l = record {
  places : ArePlaces (length l.first.block.frames) l.rest;
  other : AreOther l.first.block.frames l.least l.rest → AreOther l.first.block.frames 0 l.words;
}

abbrev pub decreases-loop-rest : goal.decreases-loop-rest
decreases-loop-rest g l = length l.rest
