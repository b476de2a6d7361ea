use Rattle.std.proofs.Common.{rules, arith, append-nil}
use Rattle.std.proofs.lemmas.List.{at_drop_all}
use Rattle.pip_search.specs.Packing.{packed_key}
use Rattle.pip_search.proofs.Packed.{key_back, pack_step, packed_none}
use Rattle.pip_search.proofs.packing.pack.Goals as goal

pub loop-word-preserved : goal.loop-word-preserved
loop-word-preserved c = pack_step c.loop-word.bytes.items c.push_word.new.bytes.items c.args.key.now
    c.loop-word.word-index _ c.loop-word-test.true (search rules) c.in_ok-push_word.ensures c.loop-word.invariant

pub returns-clause-packed : goal.returns-clause-packed
returns-clause-packed c = rw (
  ← append-nil c.loop-word.bytes.items,
  ← packed_none,
  ← at_drop_all packed_key
      c.args.key.now c.loop-word.word-index c.loop-word-test.false,
  c.loop-word.invariant,
)

pub returns-clause-words : goal.returns-clause-words
returns-clause-words c = rw (
  returns-clause-packed c,
  key_back c.args.key.now
      (λ i. let k = c.type_inv.key i in omega (arith, k)),
)
