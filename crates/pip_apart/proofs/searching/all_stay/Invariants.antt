use Rattle.std.proofs.Common.{◌≡◌, map, take, true}
use Rattle.pip_apart.specs.Found.{all_stay}
use Rattle.pip_apart.specs.Searches.{alone_of}
use Rattle.pip_apart.proofs.searching.all_stay.Given as goal

-- all so far
abbrev pub invariant-loop-guest : goal.invariant-loop-guest
invariant-loop-guest l = all_stay (map alone_of (take l.guest-index l.fn.guests)) ≡ true
