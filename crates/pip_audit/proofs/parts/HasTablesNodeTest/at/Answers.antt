use Rattle.std.proofs.Common.{sym, ap, ◌∙◌}
use Rattle.pip_model.specs.Parts.{has_tables}
use Rattle.pip_model.specs.ReadOff.{node_read}
use Rattle.pip_audit.proofs.PartLaws.{tables_told}
use Rattle.pip_audit.proofs.parts.HasTablesNodeTest.at.Goals as goal

pub returns-clause-says : goal.returns-clause-says
returns-clause-says g c =
    let m = g.M.Frames.memory c.args.mem.now in
    tables_told m c.load.new.self c.row.result c.is_none.result c.load.ensures.is_of
    (sym c.repeats.ensures ∙ c.if-repeats.false) c.row.ensures c.is_none.ensures
    ∙ ap (λ f. has_tables (node_read m f)) (c.load.ensures.part ∙ c.name-page.ensures.name)
