use Rattle.pip_search.proofs.Chains.{link_step}
use Rattle.pip_search.proofs.index.link.Goals as goal

pub returns : goal.returns
returns c = record {
  linked = link_step c.args.hashes.now c.args.chains.now c.args.heads.now c.args.at c.requires.at
      c.requires.chains c.requires.heads c.requires.linked;
}
