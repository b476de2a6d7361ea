use Rattle.std.proofs.Common.{◌≡◌, length}
use Rattle.pip_switch.specs.Rewinding.{ArePlaces, rewritten}
use Rattle.pip_every.proofs.journals.journal.Journal.write.Given as goal

-- what is left to be written leads to the same
abbrev pub invariant-loop-rest : goal.invariant-loop-rest
invariant-loop-rest g l = record {
  same : rewritten l.self.frames.block.frames l.rest ≡ rewritten l.fn.self.frames.block.frames l.fn.words;
  places : ArePlaces (length g.F.First.words) l.rest;
}

abbrev pub decreases-loop-rest : goal.decreases-loop-rest
decreases-loop-rest g l = length l.rest
