use Rattle.std.proofs.Common.{◌∙◌, ap, append-nil, append_assoc}
use Rattle.std.proofs.Common.{length}
use Rattle.pip_search.specs.Collapsing.{blocks_of, joined_blocks}
use Rattle.pip_search.specs.Packing.{unpacked_key}
use Rattle.pip_search.proofs.Collapsed.{all_next, joined_next, joined_none, key_of_count}
use Rattle.pip_search.proofs.key_store.KeyStore.join.Goals as goal

pub loop-number-preserved : goal.loop-number-preserved
loop-number-preserved c =
    let blocks = blocks_of c.args.self.now.blocks in
    let key = c.loop-number.key.items in
    let n = c.in-Some-next_word.number in
    let ns = unpacked_key c.in-Some-next_word.more.now in
    let e = c.in-Some-next_word.ensures.word in (
      rw (
        c.in_ok-extend_from_slice.ensures.items,
        append_assoc key c.block.result.now (joined_blocks blocks ns),
        ←
            joined_next blocks n ns c.block.result.now c.block.ensures.at,
        ← e,
        c.loop-number.invariant.0,
      ),
      all_next (length blocks) n ns (rw e at c.loop-number.invariant.1),
    )

pub returns : goal.returns
returns c =
    let blocks = blocks_of c.args.self.now.blocks in
    let key = c.loop-number.key.items in
    let n = c.in-Some.count in
    let ns = unpacked_key c.in-Some.more.now in
    let none = ap (joined_blocks blocks) c.in_default-next_word.ensures.word ∙ joined_none blocks in
    rw (
      c.truncate.ensures.items,
      c.saturating_sub.ensures,
      ← append-nil key,
      ← none,
      c.loop-number.invariant.0,
      ←
          key_of_count blocks n ns,
      ← c.in-Some.ensures.word,
    )
