use Rattle.std.proofs.Common.{rules, ◌≡◌, ◌<◌, length, subst, arith}
use Rattle.pip_image.proofs.PageFill.{fill_begins, fill_ends, fill_goes_on, small_more, small_all}
use Rattle.pip_image.proofs.load.fill_page.Goals as goal

pub loop-i-init : goal.loop-i-init
loop-i-init g c = record {
  lays = λ t can lays. fill_begins t c.args.frame c.args.words.now can _ lays;
  count = search rules;
  small = λ j h. absurd (omega arith);
}

pub loop-i-preserved : goal.loop-i-preserved
loop-i-preserved g c = record {
  lays = λ t can lays.
      rw c.set_word.ensures.words (fill_goes_on t c.args.frame c.args.words.now can _ c.loop-i.i (subst (λ n.
      c.args.frame < n) lays.count c.requires) c.loop-i-test.true (c.loop-i.invariant.lays t can lays));
  count = search rules;
  small = small_more c.args.words.now c.loop-i.i c.loop-i.invariant.small (search (rules, arith));
}

pub returns-clause-lays : goal.returns-clause-lays
returns-clause-lays g c = λ t can lays.
    let end : c.loop-i.i ≡ 1024 = omega arith in
    fill_ends t c.args.frame c.args.words.now can _ (rw (← end) (c.loop-i.invariant.lays t can lays))

pub returns-clause-small : goal.returns-clause-small
returns-clause-small g c = let size : length c.args.words.now ≡ 1024 = search rules in
    small_all c.args.words.now c.loop-i.i (omega arith) c.loop-i.invariant.small
