use Rattle.std.proofs.Common.{arith}
use Rattle.pip_tlb.proofs.Used.{is_emptied}
use Rattle.pip_tlb.proofs.cache.Cache.empty.Goals as goal

pub returns : goal.returns
returns c =
    let (empty, _, count, hits, misses) = c.loop-g.invariant in
    let end = c.loop-g-test.false in
    is_emptied c.loop-g.self c.args.self.now count (λ k small. empty k (omega arith)) hits misses
