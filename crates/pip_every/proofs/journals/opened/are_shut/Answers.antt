-- Lists that `==` tells to be the same are the same.
use Rattle.std.proofs.Common.{◌∙◌}
use Rattle.std.specs.Cmp.{booleans_Decides}
use Rattle.std.proofs.lemmas.Slice.Eq.{slice_eq-Decides}
use Rattle.pip_every.proofs.journals.opened.are_shut.Goals as goal

pub returns : goal.returns
returns c t =
    (slice_eq-Decides booleans_Decides c.args.opened.now c.as_slice.result.now c.eq.result c.eq.ensures).0 t ∙
    c.as_slice.ensures
