use Rattle.std.proofs.Common.{◌≡◌, ◌-◌}
use Rattle.pip_model.specs.Partitions.{InEach}
use Rattle.pip_guests.specs.Sights as tests
use Rattle.pip_away.specs.Blind.{sight_of}
use Rattle.pip_away.proofs.calls.chain_misses.Given as goal

-- the pages after those that were looked at decide
abbrev pub invariant-loop-i : goal.invariant-loop-i
invariant-loop-i g l = InEach (g.M.Frames.memory l.mem) l.part (λ t x. tests.chain_passes (sight_of l.blind) t l.part 3
    l.first ≡ tests.chain_passes (sight_of l.blind) t l.part (3 - l._i) l.at)
