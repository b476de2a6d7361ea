use Rattle.std.proofs.Common.{◌≡◌, ◌+◌, ◌*◌, ◌≤◌, ◌∙◌, arith, length, subst}
use Rattle.pip_model.specs.Tree.{chain}
use Rattle.pip_kern.proofs.Taking.{all_taken, next_can, next_in, next_taken}
use Rattle.pip_kern.proofs.pages.take_pages.Goals as goal

pub take_page-requires : goal.take_page-requires
take_page-requires g c =
    next_can (g.M.Frames.memory c.args.mem.now) (g.M.Frames.memory c.loop-page.mem) c.args.caller c.args.pages.now
    c.loop-page.page-index c.of_address.result c.page-item.result
    c.loop-page-test.true c.page-item.is c.of_address.ensures c.loop-page.invariant.taken c.requires

pub loop-page-preserved : goal.loop-page-preserved
loop-page-preserved g c = record {
  count = c.take_page.ensures.count ∙ c.loop-page.invariant.count;
  taken = next_taken (g.M.Frames.memory c.args.mem.now) (g.M.Frames.memory c.loop-page.mem) c.args.caller
      c.args.pages.now c.loop-page.page-index c.of_address.result c.page-item.result
      c.loop-page-test.true c.page-item.is c.of_address.ensures c.loop-page.invariant.taken
      (g.M.Frames.memory c.take_page.new.mem) c.take_page.ensures.taken;
  steps =
      omega arith;
  chain = next_in (g.M.Frames.memory c.args.mem.now) (g.M.Frames.memory c.loop-page.mem) c.args.caller
      c.args.pages.now c.loop-page.page-index c.of_address.result c.page-item.result
      c.loop-page-test.true c.page-item.is c.of_address.ensures c.loop-page.invariant.taken _ c.loop-page.steps _
      c.loop-page.invariant.chain c.take_page.ensures.chain;
}

pub returns-clause-taken : goal.returns-clause-taken
returns-clause-taken g c =
    all_taken (g.M.Frames.memory c.args.mem.now) (g.M.Frames.memory c.loop-page.mem) c.args.caller c.args.pages.now
    c.loop-page.page-index c.loop-page-test.false c.loop-page.invariant.taken

pub returns-clause-chain : goal.returns-clause-chain
returns-clause-chain g c t rows gs each k =
    let so = c.loop-page.invariant.chain t rows gs each k in
    let upto = c.loop-page.auto.page-index-end in
    let over = c.loop-page-test.false in
    let all : c.loop-page.page-index ≡ length c.args.pages.now = omega arith in
    rw (← all) so
