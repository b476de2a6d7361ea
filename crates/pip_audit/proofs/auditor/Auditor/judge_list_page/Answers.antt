use Rattle.std.proofs.Common.{◌<◌, length, arith, refl, sym, subst, ap, ◌∙◌}
use Rattle.pip_base.specs.Memory.{word_at}
use Rattle.pip_audit.specs.Comparing.{Covers}
use Rattle.pip_audit.specs.Links.{page_after}
use Rattle.pip_audit.proofs.Givens.{list_inside}
use Rattle.pip_audit.proofs.Loads.{passes}
use Rattle.pip_audit.proofs.TreeIn.{list_only, plays_list}
use Rattle.pip_audit.proofs.auditor.Auditor.judge_list_page.Goals as goal

pub list_page-page-requires-clause-pages : goal.list_page-page-requires-clause-pages
list_page-page-requires-clause-pages g c = λ k h.
    let m = g.M.Frames.memory c.args.mem.now in
    let f = c.args.self.now.node.part in
    let page = c.requires.page in
    subst (λ p. page_after m (word_at m p 9) k < length m) (sym c.part.ensures)
    (list_inside m f (word_at m f 12) k (passes m f (word_at m f 12) refl c.requires.judges.holds.of.passes)
    (omega (arith, h, page)))

pub judge-requires-clause-role : goal.judge-requires-clause-role
judge-requires-clause-role g c =
    let m = g.M.Frames.memory c.args.mem.now in
    plays_list m c.args.self.now c.requires.judges c.args.k c.list_page-page.result c.requires.page
    (c.list_page-page.ensures.page ∙ ap (λ p. page_after m (word_at m p 9) c.args.k) c.part.ensures)

pub returns-clause-covers : goal.returns-clause-covers
returns-clause-covers g c = λ f e.
    let m = g.M.Frames.memory c.args.mem.now in
    subst (Covers m c.judge.result)
    (sym (list_only m c.args.self.now c.requires.judges c.args.k c.list_page-page.result f c.requires.page
    (c.list_page-page.ensures.page ∙ ap (λ p. page_after m (word_at m p 9) c.args.k) c.part.ensures) e))
    c.judge.ensures.covers
