-- One word was taken back of those that are left, in both.
use Rattle.std.proofs.Common.{◌∙◌, ◌%◌, sym, ap, arith, get_or, length, refl, subst}
use Rattle.std.proofs.lemmas.List.{take_rest}
use Rattle.pip_base.specs.Memory.{put_word}
use Rattle.pip_frames.specs.RawBounds.{raw_bounds}
use Rattle.pip_every.specs.Changes.{IsRewritten}
use Rattle.pip_every.proofs.Places.{kept_count, kept_first, kept_next, kept_none}
use Rattle.pip_every.proofs.journals.frames.take_back.Goals as goal

pub new-frame-requires : goal.new-frame-requires
new-frame-requires g c =
    let o = c.loop-rest in
    let bounds = raw_bounds c.args.first.now in
    let first = kept_first c.args.first.now.block.frames o.one.block.frames o.rest.now o.invariant.kept
    c.loop-rest-test.true in
    omega (arith, bounds.1, first)

pub word-word-requires-clause-frame : goal.word-word-requires-clause-frame
word-word-requires-clause-frame g c =
    let o = c.loop-rest in
    let first = kept_first c.args.first.now.block.frames o.one.block.frames o.rest.now o.invariant.kept
    c.loop-rest-test.true in
    omega (arith, c.new-frame.ensures, first)

pub set_word-requires-clause-frame : goal.set_word-requires-clause-frame
set_word-requires-clause-frame g c =
    let o = c.loop-rest in
    let a = c.args.first.now.block.frames in
    let first = kept_first a o.one.block.frames o.rest.now o.invariant.kept c.loop-rest-test.true in
    let count = kept_count a o.one.block.frames o.rest.now o.invariant.kept in
    omega (arith, c.new-frame.ensures, first, count)

pub set_word-requires-in-loop-rest-clause-frame : goal.set_word-requires-in-loop-rest-clause-frame
set_word-requires-in-loop-rest-clause-frame g c =
    let o = c.loop-rest in
    let a = c.args.first.now.block.frames in
    let first = kept_first a o.one.block.frames o.rest.now o.invariant.kept c.loop-rest-test.true in
    let count = kept_count a o.one.block.frames o.rest.now o.invariant.kept in
    omega (arith, c.new-frame.ensures, first, count, ap length o.invariant.same)

pub loop-rest-preserved : goal.loop-rest-preserved
loop-rest-preserved g c =
    let o = c.loop-rest in
    let a = c.args.first.now.block.frames in
    record {
      kept = subst (λ v. ∥ IsRewritten a c.set_word.new.self.block.frames v ∥₁) (sym (take_rest o.rest.now 2))
          (kept_next a o.one.block.frames c.set_word.new.self.block.frames o.rest.now c.new-frame.result
          (get_or o.rest.now 0 0 % 1024) c.word-word.result c.loop-rest-test.true o.invariant.kept c.new-frame.ensures
          refl c.word-word.ensures.word c.set_word.ensures.words);
      same = c.set_word-in-loop-rest.ensures.words
          ∙ (ap (λ v. put_word v c.new-frame.result (get_or o.rest.now 0 0 % 1024) c.word-word.result) o.invariant.same
          ∙ sym c.set_word.ensures.words);
    }

pub returns-clause-one : goal.returns-clause-one
returns-clause-one g c = kept_none c.args.first.now.block.frames c.loop-rest.one.block.frames c.loop-rest.rest.now
    (λ long. omega (arith, long, c.loop-rest-test.false)) c.loop-rest.invariant.kept

pub returns-clause-other : goal.returns-clause-other
returns-clause-other g c = c.loop-rest.invariant.same
    ∙ kept_none c.args.first.now.block.frames c.loop-rest.one.block.frames c.loop-rest.rest.now
    (λ long. omega (arith, long, c.loop-rest-test.false)) c.loop-rest.invariant.kept
