use Rattle.std.proofs.Common.{◌/◌, ◌%◌, inl, inr, sym, ap, ◌∙◌, arith, eq-eqb, ne_eqb}
use Rattle.std.specs.Prelude.{is_some}
use Rattle.std.proofs.lemmas.Bool.{cases_eq}
use Rattle.pip_base.specs.Memory.{word_at}
use Rattle.pip_audit.specs.Tables.{row_seen, tables_in}
use Rattle.pip_audit.proofs.Visits.{visit_no_table, visit_not, visit_there}
use Rattle.pip_audit.proofs.tables.Tables.is_child.Goals as goal

pub returns-in_default : goal.returns-in_default
returns-in_default g c =
    let m = g.M.Frames.memory c.args.mem.now in
    let ts = tables_in m c.args.self.now.part in
    let row = c.args.row in
    let small = c.requires.small in
    let of = c.requires.of.of (row.at / 1024) (omega (arith, small)) in
    sym (ap is_some (visit_no_table m ts row.at (row_seen row) c.requires.row.2
    (sym of ∙ sym c.at.ensures ∙ c.in_default.is)))

pub returns : goal.returns
returns g c =
    let m = g.M.Frames.memory c.args.mem.now in
    let ts = tables_in m c.args.self.now.part in
    let row = c.args.row in
    let small = c.requires.small in
    let b = c.in-Some.tables in
    let of = c.requires.of.of (row.at / 1024) (omega (arith, small)) in
    let held = sym of ∙ sym c.at.ensures ∙ c.in-Some.is in
    let w = c.word.ensures.word in
    elim (cases_eq (word_at m b.shadow1 (row.at % 1024) % 4096) 1) [
      | inl e ↦ c.marks_descriptor.ensures ∙ eq-eqb (c.word.result % 4096) 1 (omega (arith, w, e))
          ∙ sym (ap is_some (visit_there m ts row.at (row_seen row) b c.requires.row.2 held e))
      | inr ne ↦ c.marks_descriptor.ensures ∙ ne_eqb (c.word.result % 4096) 1 (λ q. ne (omega (arith, w, q)))
          ∙ sym (ap is_some (visit_not m ts row.at (row_seen row) b c.requires.row.2 held ne))
    ]
