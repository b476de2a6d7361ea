-- An opened frame gets its words of the last rewinding, and those before the next have them.
use Rattle.std.proofs.Common.{◌≡◌, ◌+◌, ◌≤◌, ◌∙◌, ap, length, arith, refl, sym}
use Rattle.std.proofs.Math.ListN.{set}
use Rattle.pip_base.specs.Memory.{frame_at}
use Rattle.pip_every.proofs.Closing.{all_back, closed_at_next, closed_to, end_in, same_below, shut_in}
use Rattle.pip_every.proofs.journals.journal.Journal.close.Goals as goal

pub loop-f-init : goal.loop-f-init
loop-f-init g c =
    let s = c.args.self.now in
    let q = c.next_opened-f.result in
    let end : q ≤ c.min-end.result = end_in c.deref.result.now c.min-end.result q c.next_opened-f.ensures.end in
    record {
      high = omega (arith, end, c.min-end.ensures, c.len.ensures, s.each, ap length s.first_is);
      top = refl;
      base = refl;
      before = closed_to s.base.block.frames s.base.block.frames s.frames.block.frames s.opened.items 0 q refl s.tracks
          (shut_in s.opened.items c.deref.result.now c.min-end.result 0 q c.deref.ensures.value end
          c.next_opened-f.ensures.shut) (λ k lt. absurd (omega (arith, lt)));
    }

pub loop-f-preserved : goal.loop-f-preserved
loop-f-preserved g c =
    let s = c.restore.new.self in
    let o = c.loop-f.self in
    let a = c.args.self.now.base.block.frames in
    let next = c.next_opened-f-in-loop-f in
    let q = next.result in
    let end : q ≤ c.min-end.result = end_in c.deref-in-loop-f.result.now c.min-end.result q next.ensures.end in
    let base : s.base.block.frames ≡ a = c.restore.ensures.base ∙ c.loop-f.invariant.base in
    record {
      high = omega (
        arith,
        end,
        c.min-end.ensures,
        c.len.ensures,
        c.args.self.now.each,
        ap length c.args.self.now.first_is,
      );
      top = c.restore.ensures.top ∙ c.loop-f.invariant.top;
      base = base;
      before = closed_to a s.base.block.frames s.frames.block.frames s.opened.items (c.loop-f.f + 1) q base s.tracks
          (shut_in s.opened.items c.deref-in-loop-f.result.now c.min-end.result (c.loop-f.f + 1) q
          c.deref-in-loop-f.ensures.value end next.ensures.shut)
          (closed_at_next a o.frames.block.frames s.frames.block.frames c.loop-f.f c.new.result c.new.ensures
          (c.restore.ensures.frames
          ∙ ap (λ v. set o.frames.block.frames c.new.result (frame_at v c.new.result)) c.loop-f.invariant.base)
          (omega (
            arith,
            c.loop-f-test.true,
            c.min-end.ensures,
            c.len.ensures,
            c.args.self.now.each,
            ap length c.args.self.now.first_is,
            o.count,
            ap length o.first_is,
          )) c.loop-f.invariant.before);
    }

pub invariant_of-self : goal.invariant_of-self
invariant_of-self g c =
    let s = c.loop-f.self in
    let same = all_back c.args.self.now.base.block.frames s.base.block.frames s.frames.block.frames c.loop-f.f s.top
    c.loop-f.invariant.base (s.count ∙ sym s.base_count) c.loop-f.invariant.before s.below
    (λ k low lt. omega (
      arith,
      low,
      lt,
      c.loop-f-test.false,
      c.min-end.ensures,
      c.len.ensures,
      c.loop-f.invariant.top,
      c.args.self.now.each,
      ap length c.args.self.now.first_is,
      s.count,
      ap length s.first_is,
    )) in
    record {
      first_is = s.first_is;
      count = s.count;
      base_count = s.base_count;
      kept = s.kept;
      each = s.each;
      rows = s.rows;
      tracks = s.tracks;
      tracks_parts = s.tracks_parts;
      below = ∣ same_below s.base.block.frames s.frames.block.frames 0 same ∣₁;
      rewound = ∣ (λ e. same) ∣₁;
    }

pub returns : goal.returns
returns g c =
    let s = c.loop-f.self in
    all_back c.args.self.now.base.block.frames s.base.block.frames s.frames.block.frames c.loop-f.f s.top
    c.loop-f.invariant.base (s.count ∙ sym s.base_count) c.loop-f.invariant.before s.below
    (λ k low lt. omega (
      arith,
      low,
      lt,
      c.loop-f-test.false,
      c.min-end.ensures,
      c.len.ensures,
      c.loop-f.invariant.top,
      c.args.self.now.each,
      ap length c.args.self.now.first_is,
      s.count,
      ap length s.first_is,
    ))
