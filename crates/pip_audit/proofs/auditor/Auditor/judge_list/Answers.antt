use Rattle.std.proofs.Common.{inl, inr, arith, ap, sym, subst, ◌∙◌}
use Rattle.std.proofs.lemmas.Bool.{cases_eq}
use Rattle.pip_base.specs.Memory.{word_at}
use Rattle.pip_model.specs.NodeWords.{ListPage}
use Rattle.pip_model.specs.Tree.{lists}
use Rattle.pip_audit.specs.Comparing.{CoversRole}
use Rattle.pip_audit.proofs.Differing.{goes_same, goes_then, role_stays}
use Rattle.pip_audit.proofs.TreeIn.{list_below}
use Rattle.pip_audit.proofs.auditor.Auditor.judge_list.Goals as goal

pub loop-k-init : goal.loop-k-init
loop-k-init g c =
    (goes_same (g.M.Frames.memory c.args.mem.now) c.args.found c.requires.is, λ k h. absurd (omega (arith, h)))

pub judge_list_page-first-requires-clause-is : goal.judge_list_page-first-requires-clause-is
judge_list_page-first-requires-clause-is g c = c.loop-k.invariant.0.is

pub judge_list_page-first-requires-clause-page : goal.judge_list_page-first-requires-clause-page
judge_list_page-first-requires-clause-page g c =
    let m = g.M.Frames.memory c.args.mem.now in
    let below = c.loop-k-test.true in
    let end = c.lists-k-end.ensures ∙ ap lists (c.word-count.ensures.word ∙ ap (λ p. word_at m p 12) c.part.ensures) in
    omega (arith, below, end)

pub loop-k-preserved : goal.loop-k-preserved
loop-k-preserved g c =
    let m = g.M.Frames.memory c.args.mem.now in
    let inv = c.loop-k.invariant in
    let next = c.judge_list_page-first.ensures in
    let part = c.args.self.now.node.part in (
      goes_then m c.args.found c.loop-k.first c.judge_list_page-first.result inv.0 next.goes,
      λ k h. elim (cases_eq k c.loop-k.k) [
        | inl q ↦ subst (λ i. CoversRole m c.judge_list_page-first.result part (ListPage i)) (sym q) next.covers
        | inr ne ↦ role_stays m c.loop-k.first c.judge_list_page-first.result part (ListPage k) next.goes
            (inv.1 k (omega (arith, h, ne)))
      ],
    )

pub returns-clause-goes : goal.returns-clause-goes
returns-clause-goes g c = c.loop-k.invariant.0

pub returns-clause-covers : goal.returns-clause-covers
returns-clause-covers g c = λ k f e.
    let m = g.M.Frames.memory c.args.mem.now in
    let small = list_below m c.args.self.now c.requires.judges k f e in
    let past = c.loop-k-test.false in
    let end = c.lists-k-end.ensures ∙ ap lists (c.word-count.ensures.word ∙ ap (λ p. word_at m p 12) c.part.ensures) in
    c.loop-k.invariant.1 k (omega (arith, small, past, end)) f e
