use Rattle.std.proofs.Common.{◌≡◌, ◌∙◌, length, arith}
use Rattle.pip_grow.proofs.CollectTable.Writes.{three_first}
use Rattle.pip_grow.proofs.calls.collect.remove_pages.Goals as goal

pub returns-clause-pages : goal.returns-clause-pages
returns-clause-pages g c x rows space name can =
    let three : length c.remove_table-tables.result.0 ≡ 3 = omega arith in
    three_first c.remove_table-tables.result.0 c.remove_table-tables.result.1 three c.index-tables-0.result
    c.index-tables-1.result c.index-tables-2.result ∙ c.remove_table-tables.ensures.pages x rows space name can

pub returns-clause-steps : goal.returns-clause-steps
returns-clause-steps g c x rows space name = c.remove_table-tables.ensures.steps x _ space.node name
