-- A frame with its first words is closed.
use Rattle.std.proofs.Common.{◌∙◌, ap, false, length, arith, refl}
use Rattle.pip_every.specs.Opening.{closed_at, closes_below, length_set, not_rewound, parts_closed_at}
use Rattle.pip_every.proofs.Closing.{tracked_words}
use Rattle.pip_every.proofs.journals.journal.Journal.restore.Goals as goal

pub invariant_of-self : goal.invariant_of-self
invariant_of-self g c = record {
  first_is = c.args.self.now.first_is;
  count = ap length c.restore_frame.ensures ∙ length_set c.args.self.now.frames.block.frames c.args.frame _ _
      c.args.self.now.count;
  base_count = c.args.self.now.base_count;
  kept = c.args.self.now.kept;
  each = length_set c.args.self.now.opened.items c.number-3.result false _ c.args.self.now.each;
  rows = length_set c.args.self.now.parts.items c.number-2.result c.all_parts.result _ c.args.self.now.rows;
  tracks = closed_at c.args.self.now.base.block.frames c.args.self.now.frames.block.frames _
      c.args.self.now.opened.items c.args.frame c.number-3.result c.number-3.ensures.same c.restore_frame.ensures
      (omega (arith, c.requires, c.args.self.now.count, ap length c.args.self.now.first_is)) c.args.self.now.tracks;
  tracks_parts = parts_closed_at c.args.self.now.base.block.frames c.args.self.now.frames.block.frames _
      c.args.self.now.parts.items c.args.frame c.number-2.result c.all_parts.result c.number-2.ensures.same
      c.restore_frame.ensures
      (omega (arith, c.requires, c.args.self.now.count, ap length c.args.self.now.first_is))
      c.args.self.now.tracks_parts;
  below = closes_below c.args.self.now.base.block.frames c.args.self.now.frames.block.frames _ c.args.frame
      c.args.self.now.top c.restore_frame.ensures
      (omega (arith, c.requires, c.args.self.now.count, ap length c.args.self.now.first_is)) c.args.self.now.below;
  rewound = not_rewound c.args.self.now.base.block.frames _;
}

pub restore_frame-requires-clause-parts : goal.restore_frame-requires-clause-parts
restore_frame-requires-clause-parts g c = tracked_words c.args.self.now.base.block.frames
    c.args.self.now.frames.block.frames c.args.self.now.parts.items c.args.frame c.number.result
    c.index-parts.result.now _ _ c.index-parts.ensures c.number.ensures.same
    (omega (arith, c.requires, c.args.self.now.rows, ap length c.args.self.now.first_is)) refl refl
    c.args.self.now.tracks_parts
