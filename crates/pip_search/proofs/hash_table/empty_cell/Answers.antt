use Rattle.std.proofs.Common.{inl, inr, arith}
use Rattle.std.proofs.lemmas.Bool.{cases_lt}
use Rattle.pip_search.proofs.Placed.{all_full}
use Rattle.pip_search.proofs.hash_table.empty_cell.Goals as goal

pub returns-clause-empty : goal.returns-clause-empty
returns-clause-empty c =
    let some = c.requires.some in
    let end = c.if-cell-cells.false in
    elim (cases_lt c.first_empty.result c.args.from) [
      | inl less ↦ c.first_empty.ensures.empty less
      | inr most ↦
          absurd (omega (
            arith,
            all_full c.args.cells.now c.args.from
                (λ k a b. c.first_empty-cell.ensures.full k a (omega (arith, b, end)))
                (λ k b. c.first_empty.ensures.full k (omega arith) (omega (arith, b, most))),
            some,
          ))
    ]
