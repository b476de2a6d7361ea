use Rattle.std.proofs.Common.{rules, ◌≡◌, ◌∙◌, ◌++◌, ◌-◌, ◌≤◌, [], sym, arith, length}
use Rattle.std.proofs.lemmas.List.{length-take-le, nil_from_length, take-append-drop}
use Rattle.std.proofs.lemmas.Bool.Decides.{nat_tests}
use Rattle.pip_search.specs.Collapsing.{blocks_of}
use Rattle.pip_search.specs.Packing.{unpacked_key}
use Rattle.pip_search.proofs.Collapsed.{all_next, begins_back, begins_last, begins_more, begins_none, begins_same}
use Rattle.pip_search.proofs.Collapsed.{key_begins, key_length}
use Rattle.pip_search.proofs.key_store.KeyStore.is_of.Goals as goal

pub returns-then-saturating_sub-key-clause-other : goal.returns-then-saturating_sub-key-clause-other
returns-then-saturating_sub-key-clause-other c = λ no same.
    let long = key_length (blocks_of c.args.self.now.blocks) c.args.entry.now c.in-Some.count
    (unpacked_key c.in-Some.more.now) c.requires.numbers c.in-Some.ensures.word in
    c.if-saturating_sub-key.true (rw (c.saturating_sub.ensures, ← long, same))

pub returns-then-not-is_block-clause-other : goal.returns-then-not-is_block-clause-other
returns-then-not-is_block-clause-other c = λ no same.
    let blocks = blocks_of c.args.self.now.blocks in
    let rest = c.loop-number.rest.now in
    let front = c.in-Some-split_first_chunk.front.now in
    let after = c.in-Some-split_first_chunk.after.now in
    let cases = c.in-Some-split_first_chunk.ensures.cases in
    let whole : rest ≡ front ++ after = cc (take-append-drop 24 rest) in
    let count : c.in-Some.count - 1 ≡ length c.args.key.now = omega arith in
    let key = key_begins blocks c.args.key.now (unpacked_key c.args.entry.now) c.in-Some.count
    (unpacked_key c.in-Some.more.now) c.in-Some.ensures.word count in
    let few : 24 ≤ length rest = omega arith in
    let long : length front ≡ length c.block-block.result.now =
    rw (cases.0, length-take-le 24 rest few, ← c.block-block.ensures.size) in
    c.is_block.ensures.other c.if-not-is_block.true
    (begins_same blocks c.in-Some-next_word.number (unpacked_key c.loop-number.numbers.now)
    (unpacked_key c.in-Some-next_word.more.now) c.block-block.result.now c.in-Some-next_word.ensures.word
    c.block-block.ensures.at rest front after whole long (c.loop-number.invariant.1.0 (cc)))

pub returns-in-None-clause-same : goal.returns-in-None-clause-same
returns-in-None-clause-same c = λ yes.
    let blocks = blocks_of c.args.self.now.blocks in
    let rest = c.loop-number.rest.now in
    let count : c.in-Some.count - 1 ≡ length c.args.key.now = omega arith in
    let key = key_begins blocks c.args.key.now (unpacked_key c.args.entry.now) c.in-Some.count
    (unpacked_key c.in-Some.more.now) c.in-Some.ensures.word count in
    let less = c.in-None.ensures.cases in
    let low : length rest ≤ length c.block-block.result.now = omega arith in
    let front = begins_last blocks c.in-Some-next_word.number (unpacked_key c.loop-number.numbers.now)
    (unpacked_key c.in-Some-next_word.more.now) c.block-block.result.now c.in-Some-next_word.ensures.word
    c.block-block.ensures.at rest low in
    cc (c.loop-number.invariant.0 (front ∙ c.is_same.ensures.same yes))

pub returns-in-None-clause-other : goal.returns-in-None-clause-other
returns-in-None-clause-other c = λ no same.
    let blocks = blocks_of c.args.self.now.blocks in
    let rest = c.loop-number.rest.now in
    let count : c.in-Some.count - 1 ≡ length c.args.key.now = omega arith in
    let key = key_begins blocks c.args.key.now (unpacked_key c.args.entry.now) c.in-Some.count
    (unpacked_key c.in-Some.more.now) c.in-Some.ensures.word count in
    let less = c.in-None.ensures.cases in
    let low : length rest ≤ length c.block-block.result.now = omega arith in
    let front = begins_last blocks c.in-Some-next_word.number (unpacked_key c.loop-number.numbers.now)
    (unpacked_key c.in-Some-next_word.more.now) c.block-block.result.now c.in-Some-next_word.ensures.word
    c.block-block.ensures.at rest low in
    c.is_same.ensures.other no (cc (c.loop-number.invariant.1.0 (sym key ∙ same)))

pub loop-number-preserved : goal.loop-number-preserved
loop-number-preserved c =
    let blocks = blocks_of c.args.self.now.blocks in
    let words = unpacked_key c.loop-number.numbers.now in
    let n = c.in-Some-next_word.number in
    let ns = unpacked_key c.in-Some-next_word.more.now in
    let block = c.block-block.result.now in
    let rest = c.loop-number.rest.now in
    let front = c.in-Some-split_first_chunk.front.now in
    let after = c.in-Some-split_first_chunk.after.now in
    let cases = c.in-Some-split_first_chunk.ensures.cases in
    let whole : rest ≡ front ++ after = cc (take-append-drop 24 rest) in
    let is = c.in-Some-next_word.ensures.word in
    let at = c.block-block.ensures.at in
    let same : front ≡ block = c.is_block.ensures.same (search rules) in (
      λ h. c.loop-number.invariant.0 (begins_more blocks n words ns block is at rest front after whole same h),
      (
        λ h. begins_back blocks n words ns block is at rest front after whole same (c.loop-number.invariant.1.0 h),
        all_next (length blocks) n ns (rw is at c.loop-number.invariant.1.1),
      ),
    )

pub returns-clause-same : goal.returns-clause-same
returns-clause-same c = λ yes.
    let blocks = blocks_of c.args.self.now.blocks in
    let rest = c.loop-number.rest.now in
    let count : c.in-Some.count - 1 ≡ length c.args.key.now = omega arith in
    let key = key_begins blocks c.args.key.now (unpacked_key c.args.entry.now) c.in-Some.count
    (unpacked_key c.in-Some.more.now) c.in-Some.ensures.word count in
    let none : length rest ≡ 0 = grind (arith, nat_tests) in
    cc (c.loop-number.invariant.0 (begins_none blocks rest (unpacked_key c.loop-number.numbers.now)
    c.in_default-next_word.ensures.word ∙ sym (nil_from_length rest none)))

pub returns-clause-other : goal.returns-clause-other
returns-clause-other c = λ no same.
    let blocks = blocks_of c.args.self.now.blocks in
    let rest = c.loop-number.rest.now in
    let count : c.in-Some.count - 1 ≡ length c.args.key.now = omega arith in
    let key = key_begins blocks c.args.key.now (unpacked_key c.args.entry.now) c.in-Some.count
    (unpacked_key c.in-Some.more.now) c.in-Some.ensures.word count in
    let none : [] ≡ rest = cc (
      begins_none blocks rest (unpacked_key c.loop-number.numbers.now)
          c.in_default-next_word.ensures.word,
      c.loop-number.invariant.1.0 (sym key ∙ same),
    ) in
    let zero : length rest ≡ 0 = rw (← none) in
    grind (arith, nat_tests)
