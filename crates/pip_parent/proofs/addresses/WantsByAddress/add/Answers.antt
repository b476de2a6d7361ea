use Rattle.std.proofs.Common.{arith}
use Rattle.pip_parent.proofs.Chains.{before_more, latest_more}
use Rattle.pip_parent.proofs.addresses.WantsByAddress.add.Goals as goal

pub returns : goal.returns
returns c =
    let chain = c.chain_of-chain in
    record {
      latest = latest_more c.args.self.now.latest c.args.self.now.before c.args.wants.now c.args.i chain.result
          chain.ensures.chain c.requires.known.latest (omega arith);
      before = before_more c.args.self.now.latest c.args.self.now.before c.args.wants.now c.args.i chain.result
          chain.ensures.chain _ (c.requires.known.latest chain.result chain.ensures.low) c.requires.known.before
          (omega arith);
    }
