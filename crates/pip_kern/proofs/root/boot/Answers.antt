use Rattle.std.proofs.Common.{◌∙◌, sym, ap, subst, replicate}
use Rattle.pip_base.specs.Memory.{zeros}
use Rattle.pip_model.specs.Boot.{boot_tree}
use Rattle.pip_model.specs.Layout.{LaysOut}
use Rattle.pip_kern.proofs.root.boot.Goals as goal

pub boot_zeros-requires : goal.boot_zeros-requires
boot_zeros-requires g c = cc (c.zero_all.ensures.words, c.zero_all.ensures.count)

pub returns-clause-layout : goal.returns-clause-layout
returns-clause-layout g c = rw (← c.zero_all.ensures.count) c.boot_zeros.ensures.layout
