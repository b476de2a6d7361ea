use Rattle.std.proofs.Common.{inl, inr, arith, sym, subst}
use Rattle.std.proofs.lemmas.Bool.{cases_eq}
use Rattle.pip_model.specs.NodeWords.{TablePage}
use Rattle.pip_audit.specs.Comparing.{CoversRole}
use Rattle.pip_audit.proofs.Differing.{goes_same, goes_then, role_stays}
use Rattle.pip_audit.proofs.TreeIn.{table_fits}
use Rattle.pip_audit.proofs.auditor.Auditor.judge_tables.Goals as goal

pub loop-d-init : goal.loop-d-init
loop-d-init g c =
    (goes_same (g.M.Frames.memory c.args.mem.now) c.args.found c.requires.is, λ k h. absurd (omega (arith, h)))

pub judge_table-first-requires-clause-is : goal.judge_table-first-requires-clause-is
judge_table-first-requires-clause-is g c = c.loop-d.invariant.0.is

pub loop-d-preserved : goal.loop-d-preserved
loop-d-preserved g c =
    let m = g.M.Frames.memory c.args.mem.now in
    let inv = c.loop-d.invariant in
    let next = c.judge_table-first.ensures in
    let level = c.args.level in
    let part = c.args.self.now.node.part in (
      goes_then m c.args.found c.loop-d.first c.judge_table-first.result inv.0 next.goes,
      λ k h. elim (cases_eq k c.loop-d.d) [
        | inl q ↦ subst (λ i. CoversRole m c.judge_table-first.result part (TablePage level i)) (sym q) next.covers
        | inr ne ↦ role_stays m c.loop-d.first c.judge_table-first.result part (TablePage level k) next.goes
            (inv.1 k (omega (arith, h, ne)))
      ],
    )

pub returns-clause-covers : goal.returns-clause-covers
returns-clause-covers g c = λ d f e.
    let m = g.M.Frames.memory c.args.mem.now in
    let small = table_fits m c.args.self.now c.requires.judges f d c.args.level e in
    let past = c.loop-d-test.false in
    c.loop-d.invariant.1 d (omega (arith, small, past)) f e
