use Rattle.std.proofs.Common.{◌+◌, ◌*◌, ◌/◌, subst, arith, inl, inr}
use Rattle.std.proofs.lemmas.Bool.{cases_lt}
use Rattle.pip_audit.specs.Tables.{IsFirstSought, tables_in}
use Rattle.pip_audit.proofs.Rows.{first_later}
use Rattle.pip_audit.proofs.tables.Tables.next_in_table.Goals as goal

pub returns-in-Some : goal.returns-in-Some
returns-in-Some g c =
    let m = g.M.Frames.memory c.args.mem.now in
    let below = c.loop-v-test.true in
    let above = c.loop-v.invariant.0 in
    first_later c.args.sought m (tables_in m c.args.self.now.part) c.args.from c.loop-v.v
    (32 * (c.loop-v.v / 32) + 32) (1024 * (c.args.from / 1024) + 1024) c.in-Some.row c.in-Some.ensures above
    (omega (arith, below)) c.loop-v.invariant.1

pub loop-v-preserved : goal.loop-v-preserved
loop-v-preserved g c =
    let m = g.M.Frames.memory c.args.mem.now in
    let ts = tables_in m c.args.self.now.part in
    let above = c.loop-v.invariant.0 in
    let none =
    subst (IsFirstSought c.args.sought m ts c.loop-v.v (32 * (c.loop-v.v / 32) + 32)) c.in_default.is
    c.next_of_block.ensures in (
      omega (arith, above),
      λ v lo hi. elim (cases_lt v c.loop-v.v) [
        | inl before ↦ c.loop-v.invariant.1 v lo before
        | inr here ↦ none v (omega (arith, here)) (omega (arith, hi))
      ],
    )

pub returns : goal.returns
returns g c =
    let past = c.loop-v-test.false in
    λ v lo hi. c.loop-v.invariant.1 v lo (omega (arith, past, hi))
