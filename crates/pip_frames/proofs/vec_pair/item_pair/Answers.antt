-- Asking where the items lie left the vector as it was.
use Rattle.std.proofs.Common.{refl, ap, ◌∙◌, slice_index_or}
use Rattle.std.specs.Vec.{with_item}
use Rattle.pip_frames.proofs.vec_pair.item_pair.Goals as goal

pub returns : goal.returns
returns g c = let same = c.as_mut_ptr-at.ensures.unchanged in (
  (refl, λ w. rw same),
  record {
    writes_back = tt;
    read = cc (c.item_pair_at.ensures.values.0);
    write = cc (c.item_pair_at.ensures.values.1);
  },
)
