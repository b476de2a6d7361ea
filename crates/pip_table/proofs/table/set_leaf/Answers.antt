use Rattle.std.proofs.Common.{◌<◌, ◌^◌, arith}
use Rattle.pip_table.proofs.Entries.{put_word-entry}
use Rattle.pip_table.proofs.Laws.{IsDirectory-put_leaf, leaf_at-put_leaf}
use Rattle.pip_table.proofs.table.set_leaf.Goals as goal

pub returns-clause-table : goal.returns-clause-table
returns-clause-table g c =
    let small : c.args.v < 2 ^ 20 = omega arith in
    rw (
      c.set_word.ensures.words,
      put_word-entry _ c.args.top c.args.v c.number-number.result c.in-Table.frame c.args.w
          c.number-number.ensures.same c.in-Table.ensures.entry,
    )
    (IsDirectory-put_leaf _ c.args.top c.args.v c.args.w c.requires.table small c.requires.has)

pub returns-clause-map : goal.returns-clause-map
returns-clause-map g c = λ u u_small.
    let small : c.args.v < 2 ^ 20 = omega arith in
    rw (
      c.set_word.ensures.words,
      put_word-entry _ c.args.top c.args.v c.number-number.result c.in-Table.frame c.args.w
          c.number-number.ensures.same c.in-Table.ensures.entry,
    )
    (leaf_at-put_leaf _ c.args.top c.args.v c.args.w u c.requires.table small c.requires.has u_small)
