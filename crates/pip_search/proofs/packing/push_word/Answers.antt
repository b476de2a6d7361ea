use Rattle.std.proofs.Common.{append_assoc}
use Rattle.pip_search.specs.Packing.{packed_word}
use Rattle.pip_search.proofs.Packed.{small_word}
use Rattle.pip_search.proofs.packing.push_word.Goals as goal

pub returns-then-word-lt128 : goal.returns-then-word-lt128
returns-then-word-lt128 c = rw (c.in_ok-push.ensures.items, ← small_word c.args.word c.if-word-lt128.true)

pub returns : goal.returns
unfolding packed_word
returns c =
    let w = c.args.word in
    rw (
      c.in_ok-push-2.ensures.items,
      c.in_ok-push_bits-4.ensures,
      c.in_ok-push_bits-3.ensures,
      c.in_ok-push_bits-2.ensures,
      c.in_ok-push_bits.ensures,
    ) (simp append_assoc)
