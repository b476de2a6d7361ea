-- The block follows the frame, so the memory follows it.
use Rattle.std.proofs.Common.{refl, ap, ◌∙◌, [], slice_index_or}
use Rattle.pip_base.specs.Memory.{frame_at}
use Rattle.pip_frames.specs.Lending.{block_with_frame}
use Rattle.pip_frames.proofs.raw_frames.RawFramesFrames.frame_mut.Goals as goal

pub returns : goal.returns
unfolding frame_at
returns g c =
    let to = c.number.ensures.same in
    let frames = c.args.self.now.block.frames in (
      (
        refl,
        λ w. rw to,
      ),
      record {
        writes_back = tt;
        words = rw (c.frame_mut.ensures.value, to);
        steps = c.ticks.ensures;
      },
    )
