use Rattle.std.proofs.Common.{◌≡◌, ◌+◌, ◌*◌, ◌≤◌, ◌∙◌, arith, length, subst}
use Rattle.pip_model.specs.Tree.{chain}
use Rattle.pip_kern.proofs.Giving.{all_given, next_can, next_given, next_in}
use Rattle.pip_kern.proofs.pages.give_pages.Goals as goal

pub give_page-requires-clause-can : goal.give_page-requires-clause-can
give_page-requires-clause-can g c =
    next_can (g.M.Frames.memory c.args.mem.now) (g.M.Frames.memory c.loop-page.mem) c.args.caller c.args.born
    c.args.pages.now c.loop-page.page-index c.of_address.result c.page-item.result
    c.loop-page-test.true c.page-item.is c.of_address.ensures c.loop-page.invariant.given c.requires.can

pub loop-page-preserved : goal.loop-page-preserved
loop-page-preserved g c = record {
  count = c.give_page.ensures.count ∙ c.loop-page.invariant.count;
  given = next_given (g.M.Frames.memory c.args.mem.now) (g.M.Frames.memory c.loop-page.mem) c.args.caller c.args.born
      c.args.pages.now c.loop-page.page-index c.of_address.result c.page-item.result
      c.loop-page-test.true c.page-item.is c.of_address.ensures c.loop-page.invariant.given
      (g.M.Frames.memory c.give_page.new.mem) c.give_page.ensures.given;
  steps =
      omega arith;
  chain = next_in (g.M.Frames.memory c.args.mem.now) (g.M.Frames.memory c.loop-page.mem) c.args.caller c.args.born
      c.args.pages.now c.loop-page.page-index c.of_address.result c.page-item.result
      c.loop-page-test.true c.page-item.is c.of_address.ensures c.loop-page.invariant.given _ c.loop-page.steps _
      c.loop-page.invariant.chain c.give_page.ensures.chain;
}

pub returns-clause-given : goal.returns-clause-given
returns-clause-given g c =
    all_given (g.M.Frames.memory c.args.mem.now) (g.M.Frames.memory c.loop-page.mem) c.args.caller c.args.born
    c.args.pages.now c.loop-page.page-index c.loop-page-test.false c.loop-page.invariant.given

pub returns-clause-chain : goal.returns-clause-chain
returns-clause-chain g c t y gs each up k =
    let so = c.loop-page.invariant.chain t y gs each up k in
    let upto = c.loop-page.auto.page-index-end in
    let over = c.loop-page-test.false in
    let all : c.loop-page.page-index ≡ length c.args.pages.now = omega arith in
    rw (← all) so
