use Rattle.std.proofs.Common.{◌≡◌, arith}
use Rattle.pip_apart.specs.Tops.{might_take}
use Rattle.pip_apart.proofs.Entries.{first_here}
use Rattle.pip_apart.proofs.taken.first_taken.Goals as goal

pub returns-then-might_take : goal.returns-then-might_take
returns-then-might_take g c t x s lays is =
    first_here (might_take t) 16 c.loop-line.line c.might_take.result (c.loop-line.invariant t x s lays is)
    (c.might_take.ensures t x s lays is) c.if-might_take.true c.loop-line-test.true

pub returns : goal.returns
returns g c t x s lays is =
    let end : c.loop-line.line ≡ 16 = omega arith in
    cc (c.loop-line.invariant t x s lays is)
