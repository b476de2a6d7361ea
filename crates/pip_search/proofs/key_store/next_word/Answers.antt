use Rattle.std.proofs.Common.{arith}
use Rattle.std.proofs.lemmas.List.{nil_from_length}
use Rattle.pip_search.proofs.Packed.{last_bits, more_bits, words_none}
use Rattle.pip_search.proofs.key_store.next_word.Goals as goal

pub returns-then-byte-lt128-clause-word : goal.returns-then-byte-lt128-clause-word
returns-then-byte-lt128-clause-word c =
    let (split, count) = c.in-Some.ensures.cases in
    rw (
      ← c.loop-byte.invariant.0,
      split,
      last_bits c.loop-byte.word c.in-Some.byte.now c.in-Some.more.now
          c.if-byte-lt128.true,
      ← c.joined-word.ensures,
    )

pub loop-byte-preserved : goal.loop-byte-preserved
loop-byte-preserved c =
    let (split, count) = c.in-Some.ensures.cases in
    let low = c.loop-byte.invariant.1 in (
      rw (
        c.joined-word.ensures,
        ← more_bits c.loop-byte.word c.in-Some.byte.now c.in-Some.more.now
            (omega (arith, c.if-byte-lt128.false)),
        ← split,
        c.loop-byte.invariant.0,
      ),
      omega arith,
    )

pub returns-clause-word : goal.returns-clause-word
returns-clause-word c = rw (
  ← c.loop-byte.invariant.0,
  nil_from_length c.loop-byte.rest.now c.in_default.ensures.cases,
  words_none c.loop-byte.word,
)
