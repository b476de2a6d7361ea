use Rattle.std.proofs.Common.{◌≡◌, ◌+◌, ◌*◌, inl, inr, length, slice_index, arith}
use Rattle.std.proofs.lemmas.Bool.{cases_lt}
use Rattle.std.proofs.lemmas.List.{get_or_past}
use Rattle.std.proofs.lemmas.Nat.{mod-mul-add}
use Rattle.pip_search.proofs.coming.most_of.Goals as goal

pub returns : goal.returns
returns c = λ j.
    let ranks = c.args.ranks.now in
    let e = j * c.args.columns + c.args.column in
    elim (cases_lt e (length ranks)) [
      | inl low ↦ c.loop-cell.invariant e (omega arith)
          (mod-mul-add j c.args.columns c.args.column (omega arith))
      | inr past ↦ let none : slice_index ranks e ≡ 0 = get_or_past ranks e 0 past in omega arith
    ]
