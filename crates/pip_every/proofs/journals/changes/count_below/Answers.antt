-- Two words more come before the place, or none.
use Rattle.std.proofs.Common.{◌≡◌, ◌+◌, ap, arith, drop, refl, suc}
use Rattle.pip_every.specs.Changes.{words_below}
use Rattle.pip_every.proofs.From.{below_next, below_none}
use Rattle.pip_every.proofs.journals.changes.count_below.Goals as goal

pub loop-at-preserved : goal.loop-at-preserved
loop-at-preserved c = record {
  most = omega (arith, c.loop-at-test.true);
  count =
      let next = below_next c.args.place c.loop-at.at c.args.words.now _ c.loop-at-test.true refl c.if-words-at.true in
      let same = ap (λ v. words_below c.args.place (drop v c.args.words.now))
      (let e : c.loop-at.at + 2 ≡ suc (suc c.loop-at.at) = omega arith in e) in
      omega (arith, c.loop-at.invariant.count, next, same);
}

pub returns-else-words-at : goal.returns-else-words-at
returns-else-words-at c =
    let none = below_none c.args.place c.loop-at.at c.args.words.now (λ long lt. omega (arith, lt, c.if-words-at.false))
    c.loop-at.invariant.most in
    record { count = omega (arith, c.loop-at.invariant.count, none); most = c.loop-at.invariant.most }

pub returns-after-loop-at : goal.returns-after-loop-at
returns-after-loop-at c =
    let none = below_none c.args.place c.loop-at.at c.args.words.now
    (λ long lt. omega (arith, long, c.loop-at-test.false))
    c.loop-at.invariant.most in
    record { count = omega (arith, c.loop-at.invariant.count, none); most = c.loop-at.invariant.most }
