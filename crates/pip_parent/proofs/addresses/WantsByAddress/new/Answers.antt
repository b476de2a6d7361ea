use Rattle.std.proofs.Common.{◌∙◌, arith, ap, slice_index_or}
use Rattle.std.proofs.lemmas.List.{get_or-replicate}
use Rattle.pip_parent.proofs.addresses.WantsByAddress.new.Goals as goal

pub returns : goal.returns
returns c ws = record {
  latest = λ n l. ap (λ xs. slice_index_or xs n 0) c.zeros.ensures ∙ get_or-replicate 4096 n 0 0 l;
  before = λ j l. absurd (let z : ⊥ = omega arith in z);
}
