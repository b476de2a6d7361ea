use Rattle.pip_search.specs.Naming.{AreUnlike}
use Rattle.pip_search.proofs.names.look_from.Given as goal

abbrev pub invariant-loop-cell : goal.invariant-loop-cell
invariant-loop-cell g l = AreUnlike (g.N.Names.names_of l.list) l.name l.tag l.table.cells.items l.from l.cell
