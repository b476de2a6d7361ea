use Rattle.std.proofs.Common.{◌≡◌, ◌≤◌, ◌<◌, ◌+◌, ◌*◌, ◌/◌, arith, inl, inr}
use Rattle.std.proofs.lemmas.Bool.{cases_lt}
use Rattle.pip_table.proofs.Laws.{tables_below-next, tables_below-mono}
use Rattle.pip_table.proofs.next.first_leaf.Goals as goal

-- the index that was looked at counts where it has a table
pub returns-in-Some-clause-steps : goal.returns-in-Some-clause-steps
returns-in-Some-clause-steps g c =
    let index : c.max.result / 1024 ≡ c.loop-i.i = omega arith in
    omega (
      arith,
      rw index at c.first_under.ensures.steps,
      tables_below-next (g.M.Frames.memory c.args.mem.now) c.args.top c.loop-i.i,
      tables_below-mono (g.M.Frames.memory c.args.mem.now) c.args.top (c.loop-i.i + 1) 1024 (omega arith),
    )

pub loop-i-preserved : goal.loop-i-preserved
loop-i-preserved g c =
    let index : c.max.result / 1024 ≡ c.loop-i.i = omega arith in
    let used = rw index at c.first_under.ensures.steps in
    let next = tables_below-next (g.M.Frames.memory c.args.mem.now) c.args.top c.loop-i.i in (
      λ v low high. elim (cases_lt v (1024 * c.loop-i.i)) [
        | inl before ↦ c.loop-i.invariant.0 v low before
        | inr here ↦ let from : c.max.result ≤ v = omega arith in
            let end : v < 1024 * (c.max.result / 1024 + 1) = omega arith in c.in_default.ensures.first v from end
      ],
      omega arith,
    )
