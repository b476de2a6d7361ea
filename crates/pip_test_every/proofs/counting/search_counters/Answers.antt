use Rattle.std.proofs.Common.{arith, refl}
use Rattle.pip_test_every.proofs.counting.search_counters.Goals as goal

-- the state of the key that both searches begin with
pub explore-requires-clause-key : goal.explore-requires-clause-key
explore-requires-clause-key c = ((0, 0), (refl, (omega arith, omega arith)))
