use Rattle.std.proofs.Common.{◌<◌, [], ◌∷◌, refl, sym, subst, arith}
use Rattle.pip_search.specs.Systems.{IsKey}
use Rattle.pip_test_every.specs.Counting.{counters}
use Rattle.pip_test_every.proofs.counting.lost_by.Goals as goal

pub explore-requires-clause-key : goal.explore-requires-clause-key
explore-requires-clause-key c = ((0, 0), (refl, (omega arith, omega arith)))

pub come_again-requires-clause-key : goal.come_again-requires-clause-key
come_again-requires-clause-key c = subst (λ n. IsKey (counters n) (0 ∷ 0 ∷ [])) (sym c.in_ok-search.ensures.base)
    ((0, 0), (refl, (omega arith, omega arith)))
