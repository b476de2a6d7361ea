use Rattle.pip_search.specs.Naming.{hash_after}
use Rattle.pip_search.proofs.Hashing.{hash_more, hash_none}
use Rattle.pip_search.proofs.hashes.stir_bytes.Goals as goal

pub loop-byte-preserved : goal.loop-byte-preserved
loop-byte-preserved c =
    let ks = c.args.bytes.now in
    let i = c.loop-byte.byte-index in
    let h = hash_after c.args.start ks in
    rw (c.stir-sum.ensures, c.from.ensures) (hash_more ks i c.loop-byte.sum h c.loop-byte-test.true
    c.loop-byte.invariant)

pub returns : goal.returns
returns c = hash_none c.args.bytes.now c.loop-byte.byte-index c.loop-byte.sum (hash_after c.args.start c.args.bytes.now)
    c.loop-byte-test.false c.loop-byte.invariant
