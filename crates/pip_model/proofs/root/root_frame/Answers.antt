use Rattle.std.proofs.Common.{◌≡◌, Some, None, subst, inl, inr, arith}
use Rattle.pip_model.specs.Boot.{frame_of_root}
use Rattle.pip_model.proofs.Trees.Boot.{root-frame_last, root-frame_between, root-frame_none}
use Rattle.pip_model.proofs.root.root_frame.Goals.{else-page-ge1024-via-then-page-ge1024+else-page-n}
use Rattle.pip_model.proofs.root.root_frame.Goals.{else-page-ge1024-via-else-page-ge1024}
use Rattle.pip_model.proofs.root.root_frame.Goals as goal

pub returns-then-page-eq-VIDT : goal.returns-then-page-eq-VIDT
returns-then-page-eq-VIDT c = rw (← c.number-page.ensures.same)
    (root-frame_last c.args.n c.number-page.result c.new.result c.requires.least c.requires.most c.if-page-eq-VIDT.true
    c.new.ensures)

pub returns-then-page-n : goal.returns-then-page-n
returns-then-page-n c = rw (← c.number-page.ensures.same)
    (root-frame_between c.args.n c.root_tables.result c.number-page.result c.new-then-page-n.result
    c.root_tables.ensures.number c.if-page-ge1024.true c.if-page-n.true c.new-then-page-n.ensures)

pub returns : goal.returns
returns c = rw (← c.number-page.ensures.same) (root-frame_none c.args.n c.root_tables.result c.number-page.result
    c.root_tables.ensures.number c.if-page-eq-VIDT.false
    (elim c.else-page-ge1024.branch [
      | else-page-ge1024-via-then-page-ge1024+else-page-n w ↦ let h =
          w.if-page-n.false in inr (omega (arith, h))
      | else-page-ge1024-via-else-page-ge1024 w ↦ let h =
          w.if-page-ge1024.false in inl (omega (arith, h))
    ]))
