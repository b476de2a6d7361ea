use Rattle.std.proofs.Common.{arith, subst, ap, sym, ◌∙◌, ◌≡◌, ◌≤◌, ◌<◌, length}
use Rattle.pip_config.specs.Lists.{list_frame}
use Rattle.pip_config.proofs.PageWords.{next_is, next_small, page_inside}
use Rattle.pip_config.proofs.pages.page_at.Goals as goal

pub word-requires-clause-frame : goal.word-requires-clause-frame
word-requires-clause-frame g c =
    let p = c.requires in
    let upto = c.loop.auto in
    let h = p.inside in
    let low : c.loop.counter ≤ length p.more = grind arith in
    page_inside (g.M.Frames.memory c.args.mem.now) c.args.first p.more p.slot p.is_in c.loop.counter c.loop.page
    (c.loop.invariant.frame p.more p.slot p.is_in low) low

pub new-page-requires : goal.new-page-requires
new-page-requires g c =
    let p = c.requires in
    let h = p.inside in
    let low : c.loop.counter < length p.more = grind arith in
    let upto : c.loop.counter ≤ length p.more = omega arith in
    let few = (g.met.M.Frames.bounds c.args.mem.now).1 in
    next_small (g.M.Frames.memory c.args.mem.now) c.args.first p.more p.slot p.is_in c.loop.counter c.loop.page
    c.word.result (c.loop.invariant.frame p.more p.slot p.is_in upto) c.word.ensures.word low few

pub loop-preserved : goal.loop-preserved
loop-preserved g c = record {
  frame = λ more slot list upto.
      c.new-page.ensures
      ∙ (c.word.ensures.word ∙ next_is (g.M.Frames.memory c.args.mem.now) c.args.first more slot list c.loop.counter
      c.loop.page (c.loop.invariant.frame more slot list (omega arith)) (omega arith));
  steps = omega arith;
}

pub returns-clause-inside : goal.returns-clause-inside
returns-clause-inside g c =
    let p = c.requires in
    let h = p.inside in
    let low : c.loop.counter ≤ length p.more = grind arith in
    page_inside (g.M.Frames.memory c.args.mem.now) c.args.first p.more p.slot p.is_in c.loop.counter c.loop.page
    (c.loop.invariant.frame p.more p.slot p.is_in low) low

pub returns-clause-frame : goal.returns-clause-frame
returns-clause-frame g c more slot list upto =
    let same : c.loop.counter ≡ c.args.k = grind arith in
    rw (c.loop.invariant.frame more slot list (subst (λ k. k ≤ length more) (sym same) upto), same)
