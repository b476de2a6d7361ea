use Rattle.pip_model.specs.Partitions.{HasPartition, InEach}
use Rattle.pip_apart.proofs.Climbing.{Climbs}
use Rattle.pip_apart.proofs.guests.top_of.Given as goal

-- a number of steps up without meeting the root
abbrev pub invariant-loop-i : goal.invariant-loop-i
invariant-loop-i g l = record {
  stands : HasPartition (g.M.Frames.memory l.mem) l.at;
  climb : InEach (g.M.Frames.memory l.mem) l.fn.part (λ t x. Climbs t l.fn.part l.at l._i);
}
