-- Slices that `==` tells to be the same have the same words.
use Rattle.std.proofs.Common.{◌*◌, arith}
use Rattle.std.proofs.lemmas.Bool.Decides.{Decides-eqb}
use Rattle.std.proofs.lemmas.Slice.Eq.{slice_eq-Decides}
use Rattle.pip_every.proofs.Restoring.{part_same}
use Rattle.pip_every.proofs.journals.opened.are_same.Goals as goal

pub returns : goal.returns
returns c t j low high = part_same c.args.now.now c.args.base.now (c.args.part * 32) _ j
    ((slice_eq-Decides Decides-eqb _ _ c.eq.result c.eq.ensures).0 t) (omega (arith, low)) (omega (arith, low, high))
