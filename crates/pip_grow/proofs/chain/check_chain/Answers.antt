use Rattle.std.proofs.Common.{◌≡◌, arith}
use Rattle.std.proofs.lemmas.Result.{err_from_is_err_and}
use Rattle.pip_grow.proofs.PrepareTable.Tests.{four_pages, refused_first, refused_fourth, refused_second, refused_third}
use Rattle.pip_grow.proofs.PrepareTable.Tests.{three_pages}
use Rattle.pip_grow.proofs.chain.check_chain.Goals as goal

pub returns-in_err-mmu-clause-chain : goal.returns-in_err-mmu-clause-chain
returns-in_err-mmu-clause-chain g c t x s lays found =
    let p = err_from_is_err_and c.from_residual.result c.from_residual.ensures.1 in
    rw (p.1, p.2) (refused_first t s c.args.caller x found (g.M.Frames.memory c.args.mem.now) lays c.args.count
    c.args.first c.requires.least c.in_err-mmu.field-0.0 (c.in_err-mmu.ensures.page t x s lays found))

pub returns-in_err-shadow1-clause-chain : goal.returns-in_err-shadow1-clause-chain
returns-in_err-shadow1-clause-chain g c t x s lays found =
    let p = err_from_is_err_and c.from_residual-in_err-shadow1.result c.from_residual-in_err-shadow1.ensures.1 in
    rw (p.1, p.2)
    (refused_second t s c.args.caller x found (g.M.Frames.memory c.args.mem.now) lays c.args.count c.args.first
    c.in_ok-mmu.mmu (c.in_ok-mmu.ensures.page t x s lays found) c.word-second.result c.word-second.ensures.word
    c.requires.least c.in_err-shadow1.field-0.0 (c.in_err-shadow1.ensures.page t x s lays found))

pub returns-in_err-shadow2-clause-chain : goal.returns-in_err-shadow2-clause-chain
returns-in_err-shadow2-clause-chain g c t x s lays found =
    let p = err_from_is_err_and c.from_residual-in_err-shadow2.result c.from_residual-in_err-shadow2.ensures.1 in
    rw (p.1, p.2)
    (refused_third t s c.args.caller x found (g.M.Frames.memory c.args.mem.now) lays c.args.count c.args.first
    c.in_ok-mmu.mmu (c.in_ok-mmu.ensures.page t x s lays found) c.word-second.result c.word-second.ensures.word
    c.in_ok-shadow1.shadow1 (c.in_ok-shadow1.ensures.page t x s lays found) c.word-third.result
    c.word-third.ensures.word
    c.requires.least c.in_err-shadow2.field-0.0 (c.in_err-shadow2.ensures.page t x s lays found))

pub returns-then-count-eq3-clause-chain : goal.returns-then-count-eq3-clause-chain
returns-then-count-eq3-clause-chain g c t x s lays found =
    three_pages t s c.args.caller x found (g.M.Frames.memory c.args.mem.now) lays c.args.count c.args.first
    c.in_ok-mmu.mmu (c.in_ok-mmu.ensures.page t x s lays found) c.word-second.result c.word-second.ensures.word
    c.in_ok-shadow1.shadow1 (c.in_ok-shadow1.ensures.page t x s lays found) c.word-third.result
    c.word-third.ensures.word
    c.in_ok-shadow2.shadow2 (c.in_ok-shadow2.ensures.page t x s lays found) c.if-count-eq3.true

pub returns-in_err-list-clause-chain : goal.returns-in_err-list-clause-chain
returns-in_err-list-clause-chain g c t x s lays found =
    let p = err_from_is_err_and c.from_residual-in_err-list.result c.from_residual-in_err-list.ensures.1 in
    let four : c.args.count ≡ 4 = omega arith in
    rw (p.1, p.2)
    (refused_fourth t s c.args.caller x found (g.M.Frames.memory c.args.mem.now) lays c.args.count c.args.first
    c.in_ok-mmu.mmu (c.in_ok-mmu.ensures.page t x s lays found) c.word-second.result c.word-second.ensures.word
    c.in_ok-shadow1.shadow1 (c.in_ok-shadow1.ensures.page t x s lays found) c.word-third.result
    c.word-third.ensures.word
    c.in_ok-shadow2.shadow2 (c.in_ok-shadow2.ensures.page t x s lays found) c.word-fourth.result
    c.word-fourth.ensures.word four
    c.in_err-list.field-0.0 (c.in_err-list.ensures.page t x s lays found))

pub returns-clause-chain : goal.returns-clause-chain
returns-clause-chain g c t x s lays found =
    let four : c.args.count ≡ 4 = omega arith in
    four_pages t s c.args.caller x found (g.M.Frames.memory c.args.mem.now) lays c.args.count c.args.first
    c.in_ok-mmu.mmu (c.in_ok-mmu.ensures.page t x s lays found) c.word-second.result c.word-second.ensures.word
    c.in_ok-shadow1.shadow1 (c.in_ok-shadow1.ensures.page t x s lays found) c.word-third.result
    c.word-third.ensures.word
    c.in_ok-shadow2.shadow2 (c.in_ok-shadow2.ensures.page t x s lays found) c.word-fourth.result
    c.word-fourth.ensures.word four
    c.in_ok-list.list (c.in_ok-list.ensures.page t x s lays found)
