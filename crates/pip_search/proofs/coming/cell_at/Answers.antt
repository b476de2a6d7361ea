use Rattle.std.proofs.Common.{arith}
use Rattle.std.proofs.lemmas.Nat.{mul-le}
use Rattle.pip_search.proofs.coming.cell_at.Goals as goal

pub overflow_mul-result : goal.overflow_mul-result
overflow_mul-result c = omega (
  arith,
  mul-le c.args.row c.args.columns 0xffffffff 0xffffffff (omega arith) (omega arith),
)

pub overflow_add-result : goal.overflow_add-result
overflow_add-result c = omega (
  arith,
  mul-le c.args.row c.args.columns 0xffffffff 0xffffffff (omega arith) (omega arith),
)
