-- The frame that is cleared is opened, with all its parts.
use Rattle.std.proofs.Common.{◌∙◌, true}
use Rattle.pip_base.specs.Memory.{zero_frame}
use Rattle.pip_every.specs.Opening.{length_set, not_rewound, opened_at, opens_below, parts_opened_at}
use Rattle.pip_every.proofs.journals.journal.JournalFrames.zero.Goals as goal

pub invariant_of-self : goal.invariant_of-self
unfolding zero_frame
invariant_of-self g c = record {
  first_is = c.args.self.now.first_is;
  count = c.zero.ensures.count ∙ c.args.self.now.count;
  base_count = c.args.self.now.base_count;
  kept = c.args.self.now.kept;
  each = length_set c.args.self.now.opened.items c.number.result true _ c.args.self.now.each;
  rows = length_set c.args.self.now.parts.items c.number-3.result c.all_parts.result _ c.args.self.now.rows;
  tracks = opened_at _ _ _ c.args.self.now.opened.items c.args.f c.number.result _ c.number.ensures.same
      c.zero.ensures.words c.args.self.now.tracks;
  tracks_parts = parts_opened_at _ _ _ c.args.self.now.parts.items c.args.f c.number-3.result _ c.all_parts.result
      c.number-3.ensures.same c.all_parts.ensures c.zero.ensures.words c.args.self.now.tracks_parts;
  below = opens_below _ _ _ c.args.f c.number-2.result c.args.self.now.top _ _ c.number-2.ensures.same
      c.max-self.ensures
      c.zero.ensures.words c.args.self.now.below;
  rewound = not_rewound c.args.self.now.base.block.frames _;
}
