-- An opened frame is gone through, and of those before the next the words of the last rewinding are added.
use Rattle.std.proofs.Common.{◌≡◌, ◌+◌, ◌*◌, ◌-◌, ◌<◌, ◌≤◌, ◌∙◌, ◌++◌, ap, arith, length, refl, sym}
use Rattle.pip_base.specs.Memory.{frame_at}
use Rattle.pip_every.specs.Changes.{changes_from}
use Rattle.pip_every.proofs.Adding.{added, frames_same, grew, none_yet}
use Rattle.pip_every.proofs.Closing.{below_at, end_in, shut_frames, shut_in, tracked_words}
use Rattle.pip_every.proofs.From.{below_from}
use Rattle.pip_every.proofs.Places.{kept_words}
use Rattle.pip_every.proofs.journals.journal.Journal.add_changes.Goals as goal

pub loop-f-init : goal.loop-f-init
loop-f-init g c =
    let s = c.args.self.now in
    let a = g.F.First.words in
    let q = c.next_opened-f.result in
    let to = c.args.to.now.items in
    let last : q ≤ c.min-end.result = end_in c.deref.result.now c.min-end.result q c.next_opened-f.ensures.end in
    let end : q ≤ length a = omega (arith, last, c.min-end.ensures, c.len.ensures, s.each, ap length s.first_is) in
    record {
      high = end;
      adds = λ shape. added a s.base.block.frames s.frames.block.frames 0 0 (1024 * q) (1024 * (length a - q)) 0
          (1024 * q) (1024 * q) (1024 * length a) _ to to c.add_below.new.to.items c.deref-2.result.now
          c.in_ok-rest.rest.now (omega arith) (omega arith) (omega arith) (omega arith) (omega (arith, end))
          (frames_same a s.base.block.frames s.frames.block.frames 0 q 0 (1024 * q) (omega arith) (omega arith)
          (omega arith)
          (shut_frames s.base.block.frames s.base.block.frames s.frames.block.frames s.opened.items 0 q refl s.tracks
          (shut_in s.opened.items c.deref.result.now c.min-end.result 0 q c.deref.ensures.value last
          c.next_opened-f.ensures.shut)))
          (none_yet a s.frames.block.frames 0 0 to refl)
          (c.deref-2.ensures.value
          ∙ kept_words a s.first.block.frames s.base.block.frames s.words.items s.first_is s.kept shape)
          c.in_ok-rest.ensures;
    }

pub loop-f-preserved : goal.loop-f-preserved
loop-f-preserved g c =
    let s = c.args.self.now in
    let o = c.loop-f in
    let a = g.F.First.words in
    let b = s.base.block.frames in
    let m = s.frames.block.frames in
    let f = o.f in
    let next = c.next_opened-f-in-loop-f in
    let q = next.result in
    let to = c.args.to.now.items in
    let count : length a ≡ length s.opened.items = omega (arith, s.each, ap length s.first_is) in
    let last : q ≤ c.min-end.result = end_in c.deref-in-loop-f.result.now c.min-end.result q next.ensures.end in
    let end : q ≤ length a = omega (arith, last, c.min-end.ensures, c.len.ensures, count) in
    let in_frames : f < length a = omega (arith, c.loop-f-test.true, c.min-end.ensures, c.len.ensures, count) in
    record {
      high = end;
      adds = λ shape.
          let h = o.invariant.adds shape in
          let left = 1024 * (length a - f) - 1024 in
          let some : 1024 * (length a - f) ≡ 1024 + left = omega (arith, in_frames) in
          let frame = c.in_ok-rest-2.ensures a b m left
          (ap (λ v. frame_at v f) (sym s.first_is)
          ∙ (ap (λ v. frame_at s.first.block.frames v) (sym c.new-frame.ensures)
          ∙ sym c.frame-first.ensures.words))
          (ap (λ v. frame_at b v) (sym c.new-frame.ensures) ∙ sym c.frame-base.ensures.words)
          (ap (λ v. frame_at m v) (sym c.new-frame.ensures) ∙ sym c.frame-now.ensures.words)
          (h.1 ∙ ap (changes_from a b (1024 * f)) some) in
          let one = grew a m 0 (1024 * f) 1024 (1024 * f + 1024) (1024 * f) to o.to.items c.add_frame.new.to.items refl
          (omega arith) h.0 frame.0 in
          added a b m 0 (1024 * f + 1024) (1024 * q - (1024 * f + 1024)) (1024 * (length a - q)) (1024 * f + 1024)
          (1024 * q) (1024 * q) left _ to c.add_frame.new.to.items c.add_below-in-loop-f.new.to.items
          c.in_ok-rest-2.rest.now c.in_ok-rest-3.rest.now (omega arith) (omega (arith, next.ensures.from))
          (omega (arith, next.ensures.from)) (omega (arith, next.ensures.from)) (omega (arith, next.ensures.from, end))
          (frames_same a b m (f + 1) q (1024 * f + 1024) (1024 * q - (1024 * f + 1024)) (omega arith) (omega arith)
          next.ensures.from
          (shut_frames b b m s.opened.items (f + 1) q refl s.tracks
          (shut_in s.opened.items c.deref-in-loop-f.result.now c.min-end.result (f + 1) q
          c.deref-in-loop-f.ensures.value last
          next.ensures.shut)))
          one frame.1 c.in_ok-rest-3.ensures;
    }

pub add_frame-requires-clause-parts : goal.add_frame-requires-clause-parts
add_frame-requires-clause-parts g c =
    let s = c.args.self.now in
    tracked_words s.base.block.frames s.frames.block.frames s.parts.items c.loop-f.f c.loop-f.f c.index.result.now
    c.frame-base.result.now c.frame-now.result.now c.index.ensures refl
    (omega (arith, c.loop-f-test.true, c.min-end.ensures, c.len.ensures, s.each, s.rows))
    (c.frame-base.ensures.words ∙ ap (λ v. frame_at s.base.block.frames v) c.new-frame.ensures)
    (c.frame-now.ensures.words ∙ ap (λ v. frame_at s.frames.block.frames v) c.new-frame.ensures)
    s.tracks_parts

pub returns : goal.returns
returns g c shape =
    let s = c.args.self.now in
    let o = c.loop-f in
    let a = g.F.First.words in
    let b = s.base.block.frames in
    let m = s.frames.block.frames in
    let f = o.f in
    let h = o.invariant.adds shape in
    let left = 1024 * (length a - f) in
    let count : length a ≡ length s.opened.items = omega (arith, s.each, ap length s.first_is) in
    let end : f ≤ length a = o.invariant.high in
    let same = frames_same a b m f (length a) (1024 * f) left refl (omega (arith, end)) end (λ k low high.
    below_at b m s.top k s.below
    (omega (arith, low, high, c.loop-f-test.false, c.min-end.ensures, c.len.ensures, count))) in
    let grown = grew a m 0 (1024 * f) left (1024 * length a) (1024 * f) c.args.to.now.items o.to.items
    c.extend_from_slice.new.self.items (omega (arith, end)) (omega arith) h.0
    (c.in_ok-extend_from_slice.ensures.items ∙ ap (λ v. o.to.items ++ v) (h.1 ∙ same)) in
    record {
      whole = grown ∙ ap (λ v. c.args.to.now.items ++ v) (sym (below_from a m (1024 * length a)));
      count = s.count ∙ ap length s.first_is;
    }
