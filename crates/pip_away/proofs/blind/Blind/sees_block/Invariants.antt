use Rattle.std.proofs.Common.{◌≡◌, ◌+◌, ◌-◌}
use Rattle.pip_guests.specs.Sights.{each_from}
use Rattle.pip_away.specs.Blind.{sight_of}
use Rattle.pip_away.proofs.blind.Blind.sees_block.Given as goal

-- those after the words that were looked at decide
abbrev pub invariant-loop-j : goal.invariant-loop-j
invariant-loop-j l = each_from (λ j. (sight_of l.self).seen l.page j) 17 l.index
    ≡ each_from (λ j. (sight_of l.self).seen l.page j) (17 - l.j) (l.index + l.j)
