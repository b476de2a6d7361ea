use Rattle.std.proofs.Common.{refl, length}
use Rattle.pip_search.proofs.Chains.{none_linked}
use Rattle.pip_search.proofs.index.relink.Goals as goal

pub loop-at-init : goal.loop-at-init
loop-at-init c = none_linked c.args.hashes.now c.args.chains.now c.args.heads.now (length c.args.heads.now)
    c.requires.none refl
