use Rattle.std.proofs.Common.{◌∙◌, ap, false, slice_index_or}
use Rattle.std.proofs.lemmas.List.{get_or-replicate}
use Rattle.pip_parent.proofs.directories.Directories.new.Goals as goal

pub returns : goal.returns
returns c ws v l = ap (λ xs. slice_index_or xs v false) c.none_known.ensures ∙ get_or-replicate 1024 v false false l
