-- The vector follows the second item, so the memory follows it, and its bounds stay.
use Rattle.std.proofs.Common.{refl, sym, ap, ◌∙◌, [], slice_index_or}
use Rattle.std.proofs.slice.Lists.{any-default}
use Rattle.std.specs.Vec.{with_item}
use Rattle.pip_base.specs.Memory.{frame_at}
use Rattle.pip_frames.proofs.SameFrames.{same_frames}
use Rattle.pip_frames.proofs.vec_frames.VecFramesFrames.pair.Goals as goal

pub returns : goal.returns
unfolding frame_at
returns g c =
    let from = c.number.ensures.same in
    let to = c.number-2.ensures.same in
    let items = c.args.self.now.frames.items in (
      (refl, λ w. same_frames _ _ (rw to)),
      record {
        writes_back = tt;
        read = rw (
          c.item_pair.ensures.read,
          from,
          ← any-default items c.args.read [] c.item_pair.result.0.now c.requires.read,
        );
        write = rw (
          c.item_pair.ensures.write,
          to,
          ← any-default items c.args.write [] c.item_pair.result.1.now c.requires.write,
        );
        steps = c.ticks.ensures;
      },
    )
