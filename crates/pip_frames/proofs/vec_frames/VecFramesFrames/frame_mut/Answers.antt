-- The vector follows the item, so the memory follows it, and its bounds stay.
use Rattle.std.proofs.Common.{refl, sym, ap, ◌∙◌, [], slice_index_or}
use Rattle.std.proofs.slice.Lists.{any-default}
use Rattle.std.specs.Vec.{with_item}
use Rattle.pip_base.specs.Memory.{frame_at}
use Rattle.pip_frames.proofs.SameFrames.{same_frames}
use Rattle.pip_frames.proofs.vec_frames.VecFramesFrames.frame_mut.Goals as goal

pub returns : goal.returns
unfolding frame_at
returns g c =
    let to = c.number.ensures.same in
    let items = c.args.self.now.frames.items in (
      (refl, λ w. same_frames _ _ (rw to)),
      record {
        writes_back = tt;
        words = rw (c.index_mut.ensures.value, to, ← any-default items c.args.f [] c.index_mut.result.now c.requires);
        steps = c.ticks.ensures;
      },
    )
