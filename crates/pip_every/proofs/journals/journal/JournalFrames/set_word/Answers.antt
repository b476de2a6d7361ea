-- The frame that is written is opened, and the part that has the word.
use Rattle.std.proofs.Common.{◌∙◌, ◌<◌, ◌/◌, [], ap, arith, length, refl, true}
use Rattle.std.proofs.Math.ListN.{set}
use Rattle.std.proofs.lemmas.List.{get_or_default}
use Rattle.pip_base.specs.Memory.{put_word}
use Rattle.pip_every.specs.Opening.{length_set, not_rewound, opened_at, opens_below, part_opened_at}
use Rattle.pip_every.proofs.journals.journal.JournalFrames.set_word.Goals as goal

pub invariant_of-self : goal.invariant_of-self
unfolding put_word
invariant_of-self g c = record {
  first_is = c.args.self.now.first_is;
  count = c.set_word.ensures.count ∙ c.args.self.now.count;
  base_count = c.args.self.now.base_count;
  kept = c.args.self.now.kept;
  each = length_set c.args.self.now.opened.items c.number.result true _ c.args.self.now.each;
  rows = length_set c.args.self.now.parts.items c.number-3.result _ _ c.args.self.now.rows;
  tracks = opened_at _ _ _ c.args.self.now.opened.items c.args.f c.number.result _ c.number.ensures.same
      c.set_word.ensures.words c.args.self.now.tracks;
  tracks_parts =
      let ps = c.args.self.now.parts.items in
      let below : c.args.f < length ps =
      omega (arith, c.requires.frame, c.args.self.now.count, c.args.self.now.rows) in
      part_opened_at c.args.self.now.base.block.frames c.args.self.now.frames.block.frames
      c.set_word.new.self.block.frames ps c.args.f c.number-3.result c.args.i (c.args.i / 32) c.args.w _
      c.number-3.ensures.same refl c.set_word.ensures.words c.requires.frame below
      (ap (λ row. set row (c.args.i / 32) true) (c.index_mut-2.ensures.value ∙
      get_or_default ps c.number-3.result c.index_mut-2.result.now [] (omega (arith, below, c.number-3.ensures.same))))
      c.args.self.now.tracks_parts;
  below = opens_below _ _ _ c.args.f c.number-2.result c.args.self.now.top _ _ c.number-2.ensures.same
      c.max-self.ensures
      c.set_word.ensures.words c.args.self.now.below;
  rewound = not_rewound c.args.self.now.base.block.frames _;
}
