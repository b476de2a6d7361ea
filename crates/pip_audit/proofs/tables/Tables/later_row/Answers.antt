use Rattle.std.proofs.Common.{◌+◌, ◌*◌, ◌/◌, ◌^◌, ◌<◌, sym, ◌∙◌, subst, arith, inl, inr}
use Rattle.std.proofs.lemmas.Bool.{cases_lt}
use Rattle.pip_audit.specs.declared.tables.SoughtRows.TheVariants as S
use Rattle.pip_audit.specs.Tables.{IsFirstRow, tables_in}
use Rattle.pip_audit.proofs.Rows.{first_later, no_row}
use Rattle.pip_audit.proofs.tables.Tables.later_row.Goals as goal

pub returns-in-Some : goal.returns-in-Some
returns-in-Some g c =
    let m = g.M.Frames.memory c.args.mem.now in
    let below = c.loop-v-test.true in
    first_later S.Any m (tables_in m c.args.self.now.part) c.args.from c.loop-v.v (1024 * (c.loop-v.v / 1024) + 1024) (2
    ^ 20) c.in-Some.row c.in-Some.ensures c.loop-v.invariant.0 (omega (arith, below)) c.loop-v.invariant.1

pub loop-v-preserved : goal.loop-v-preserved
loop-v-preserved g c =
    let m = g.M.Frames.memory c.args.mem.now in
    let t = c.args.self.now in
    let ts = tables_in m t.part in
    let v = c.loop-v.v in
    let below = c.loop-v-test.true in
    let above = c.loop-v.invariant.0 in
    let next = c.next_index-v.ensures in
    let none = subst (IsFirstRow m ts v (1024 * (v / 1024) + 1024)) c.in_default.is c.next_of_index.ensures in (
      omega (arith, above, next.from),
      λ u lo hi. elim (cases_lt u v) [
        | inl before ↦ c.loop-v.invariant.1 u lo before
        | inr here ↦ elim (cases_lt u (1024 * (v / 1024) + 1024)) [
          | inl near ↦ none u here near
          | inr far ↦
              let small : u / 1024 < 1024 = omega (arith, hi, next.index) in
              no_row m ts u (sym (c.requires.of.of (u / 1024) small)
              ∙ next.none (u / 1024) (omega (arith, far)) (omega (arith, hi)))
        ]
      ],
    )

pub returns : goal.returns
returns g c =
    let past = c.loop-v-test.false in
    λ v lo hi. c.loop-v.invariant.1 v lo (omega (arith, past, hi))
