use Rattle.std.proofs.Common.{◌∙◌, ap}
use Rattle.std.specs.Prelude.{is_some}
use Rattle.pip_model.specs.declared.level.Level.TheVariants.{Mmu}
use Rattle.pip_space.proofs.Tables.{page_some}
use Rattle.pip_space.proofs.reads.has_table.Goals as goal

pub returns-clause-table : goal.returns-clause-table
returns-clause-table g c x cells node name =
    rw (c.is_some.ensures, c.table.ensures.page x cells node name, page_some Mmu x c.args.i)
