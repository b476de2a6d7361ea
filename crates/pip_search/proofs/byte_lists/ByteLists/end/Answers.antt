-- A key ends that far after its block begins.
use Rattle.std.proofs.Common.{◌+◌, ◌/◌, arith, ap₂}
use Rattle.std.proofs.lemmas.List.{get_or_read}
use Rattle.pip_search.proofs.Stored.{its_block, its_end, its_end_low}
use Rattle.pip_search.proofs.byte_lists.ByteLists.end.Goals as goal

pub overflow_add-result : goal.overflow_add-result
overflow_add-result c =
    let x = c.args.self.now in
    let i = c.args.place in
    let there = its_block x i c.requires.stored c.requires.place in
    omega (
      arith,
      get_or_read x.blocks.items (i / 64) c.index.result.now there c.index.ensures 0,
      get_or_read
          x.ends.items i c.index-2.result.now c.requires.place c.index-2.ensures 0,
      its_end x i c.requires.stored
          c.requires.place,
      its_end_low x i c.requires.stored c.requires.place,
    )

pub returns : goal.returns
returns c =
    let x = c.args.self.now in
    let i = c.args.place in
    let there = its_block x i c.requires.stored c.requires.place in
    let block = get_or_read x.blocks.items (i / 64) c.index.result.now there c.index.ensures 0 in
    let end = get_or_read x.ends.items i c.index-2.result.now c.requires.place c.index-2.ensures 0 in
    cc (ap₂ (λ a b. a + b) block end, its_end x i c.requires.stored c.requires.place)
