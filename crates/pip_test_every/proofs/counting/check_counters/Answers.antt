use Rattle.std.proofs.Common.{arith, refl}
use Rattle.pip_test_every.proofs.counting.check_counters.Goals as goal

-- the state of the key at which all parts begin
pub check_part-requires-clause-key : goal.check_part-requires-clause-key
check_part-requires-clause-key c = ((0, 0), (refl, (omega arith, omega arith)))
