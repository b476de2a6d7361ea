use Rattle.std.proofs.Common.{append-nil}
use Rattle.pip_search.proofs.Packed.{bits_none, bits_some}
use Rattle.pip_search.proofs.packing.push_bits.Goals as goal

pub returns-in_ok-push : goal.returns-in_ok-push
returns-in_ok-push c = rw (c.in_ok-push.ensures.items, ← bits_some c.args.unit c.args.word c.if-word-unit.true)

pub returns-else-word-unit : goal.returns-else-word-unit
returns-else-word-unit c = cc (
  append-nil c.args.bytes.now.items,
  bits_none c.args.unit c.args.word
      c.if-word-unit.false,
)
