-- The frame that is lent for writing is opened, with all its parts.
use Rattle.std.proofs.Common.{◌∙◌, ◌+◌, ap, max, refl, true}
use Rattle.std.specs.Vec.{with_item}
use Rattle.pip_every.specs.Opening.{length_set, not_rewound, opened_at, opens_below, parts_opened_at}
use Rattle.pip_every.specs.Opening.{parts_stay_open, stays_below, stays_open}
use Rattle.pip_every.proofs.SameJournals.{same_journals}
use Rattle.pip_every.proofs.journals.journal.JournalFrames.frame_mut.Goals as goal

pub invariant_of-self : goal.invariant_of-self
invariant_of-self g c = record {
  first_is = c.args.self.now.first_is;
  count = c.args.self.now.count;
  base_count = c.args.self.now.base_count;
  kept = c.args.self.now.kept;
  each = length_set c.args.self.now.opened.items c.number.result true _ c.args.self.now.each;
  rows = length_set c.args.self.now.parts.items c.number-3.result c.all_parts.result _ c.args.self.now.rows;
  tracks = stays_open _ _ c.args.self.now.opened.items c.number.result c.args.self.now.tracks;
  tracks_parts = parts_stay_open _ _ c.args.self.now.parts.items c.number-3.result c.all_parts.result
      c.all_parts.ensures c.args.self.now.tracks_parts;
  below = stays_below _ _ c.number-2.result c.args.self.now.top _ c.max-self.ensures c.args.self.now.below;
  rewound = not_rewound c.args.self.now.base.block.frames _;
}

pub invariant_of-self-lent : goal.invariant_of-self-lent
invariant_of-self-lent g c w =
    let s = c.args.self.now in
    let base = s.base.block.frames in
    let m = s.frames.block.frames in
    let count = length_set m c.args.f w _ s.count in
    let each = length_set s.opened.items c.number.result true _ s.each in
    let rows = length_set s.parts.items c.number-3.result c.all_parts.result _ s.rows in
    let tracks = opened_at base m _ s.opened.items c.args.f c.number.result w c.number.ensures.same refl s.tracks in
    let parts = parts_opened_at base m _ s.parts.items c.args.f c.number-3.result w c.all_parts.result
    c.number-3.ensures.same c.all_parts.ensures refl s.tracks_parts in
    let below = opens_below base m _ c.args.f c.number-2.result s.top _ w c.number-2.ensures.same
    c.max-self.ensures refl s.below in
    let rewound = not_rewound base _ in
    (s.first_is, (count, (s.base_count, (s.kept, (each, (rows, (tracks, (parts, (below, (rewound, tt))))))))))

pub returns : goal.returns
returns g c = (
  (
    refl,
    λ w. same_journals _ _ refl refl refl refl (ap (λ k. with_item c.args.self.now.opened k true) c.number.ensures.same)
        (ap (λ k. with_item c.args.self.now.parts k c.all_parts.result) c.number-3.ensures.same ∙
        ap (λ r. with_item c.args.self.now.parts c.args.f r) c.all_parts.ensures)
        refl (c.max-self.ensures ∙ ap (λ k. max c.args.self.now.top (k + 1)) c.number-2.ensures.same) refl,
  ),
  record { writes_back = tt; words = c.frame_mut.ensures.words; steps = c.frame_mut.ensures.steps },
)
