use Rattle.std.proofs.Common.{◌≤◌, ◌<◌, ◌+◌, arith, sym, ◌∙◌, subst}
use Rattle.pip_model.specs.Tree.{lists}
use Rattle.pip_audit.proofs.Givens.{list_inside}
use Rattle.pip_audit.proofs.Loads.{passes}
use Rattle.pip_audit.proofs.PageWords.{end_word, last_link, link_word, no_slot_word, slot_word}
use Rattle.pip_audit.proofs.wanted.list_word.Goals as goal

pub list_page-page-requires-clause-pages : goal.list_page-page-requires-clause-pages
list_page-page-requires-clause-pages g c = λ j h.
    let m = g.M.Frames.memory c.args.mem.now in
    let n = c.word-count.result in
    let p = passes m c.args.part n c.word-count.ensures.word c.requires.passes in
    let page : c.args.k < lists n = subst (λ q. c.args.k < lists q) (sym c.word-count.ensures.word) c.requires.page in
    list_inside m c.args.part n j p (omega (arith, h, page))

pub returns-then-k-lists : goal.returns-then-k-lists
returns-then-k-lists g c =
    let m = g.M.Frames.memory c.args.mem.now in
    let page = c.list_page-page.ensures.page in
    let l = c.if-k-lists.true in
    let n = c.lists.ensures in
    let less : c.args.k + 1 < lists c.word-count.result = omega (arith, l, n) in
    c.word-found.ensures.word ∙ link_word m c.args.part c.args.k c.args.i c.word-count.result c.list_page-page.result
    c.word-count.ensures.word page c.if-i-lt-FIRST_SLOT.true less

pub returns-else-k-lists : goal.returns-else-k-lists
returns-else-k-lists g c =
    let m = g.M.Frames.memory c.args.mem.now in
    let page = c.list_page-page.ensures.page in
    let l = c.if-k-lists.false in
    let n = c.lists.ensures in
    let most : lists c.word-count.result ≤ c.args.k + 1 = omega (arith, l, n) in
    last_link m c.args.part c.args.k c.args.i c.word-count.result c.list_page-page.result c.word-count.ensures.word
    page c.if-i-lt-FIRST_SLOT.true most

pub returns-then-i : goal.returns-then-i
returns-then-i g c =
    let m = g.M.Frames.memory c.args.mem.now in
    let page = c.list_page-page.ensures.page in
    end_word m c.args.part c.args.k c.args.i c.word-count.result c.list_page-page.result c.word-count.ensures.word
    page c.if-i.true

pub overflow_add-k-2 : goal.overflow_add-k-2
overflow_add-k-2 g c =
    let m = g.M.Frames.memory c.args.mem.now in
    let few = (passes m c.args.part c.word-count.result c.word-count.ensures.word c.requires.passes).few in
    let page : c.args.k < lists c.word-count.result =
    subst (λ q. c.args.k < lists q) (sym c.word-count.ensures.word) c.requires.page in
    let i = c.requires.index in
    omega (arith, few, page, i)

pub returns-then-k-i : goal.returns-then-k-i
returns-then-k-i g c =
    let m = g.M.Frames.memory c.args.mem.now in
    let page = c.list_page-page.ensures.page in
    let lo = c.if-i-lt-FIRST_SLOT.false in
    let hi = c.if-i.false in
    c.word-found.ensures.word ∙ slot_word m c.args.part c.args.k c.args.i c.word-count.result c.list_page-page.result
    c.word-count.ensures.word page (omega (arith, lo)) (omega (arith, hi)) c.if-k-i.true

pub returns-else-k-i : goal.returns-else-k-i
returns-else-k-i g c =
    let m = g.M.Frames.memory c.args.mem.now in
    let page = c.list_page-page.ensures.page in
    let lo = c.if-i-lt-FIRST_SLOT.false in
    let hi = c.if-i.false in
    no_slot_word m c.args.part c.args.k c.args.i c.word-count.result c.list_page-page.result c.word-count.ensures.word
    page (omega (arith, lo)) (omega (arith, hi)) c.if-k-i.false
