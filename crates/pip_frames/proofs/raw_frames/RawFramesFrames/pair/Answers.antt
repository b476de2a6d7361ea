-- The block follows the second frame, so the memory follows it.
use Rattle.std.proofs.Common.{refl, ap, ◌∙◌, [], slice_index_or}
use Rattle.pip_base.specs.Memory.{frame_at}
use Rattle.pip_frames.specs.Lending.{block_with_frame}
use Rattle.pip_frames.proofs.raw_frames.RawFramesFrames.pair.Goals as goal

pub returns : goal.returns
unfolding frame_at
returns g c =
    let from = c.number.ensures.same in
    let to = c.number-2.ensures.same in
    let frames = c.args.self.now.block.frames in (
      (
        refl,
        λ w. rw to,
      ),
      record {
        writes_back = tt;
        read = rw (c.pair.ensures.values.0, from);
        write = rw (c.pair.ensures.values.1, to);
        steps = c.ticks.ensures;
      },
    )
