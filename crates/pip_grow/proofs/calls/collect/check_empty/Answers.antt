use Rattle.std.proofs.Common.{cond, not, ap, sym, ◌∙◌, Some, None}
use Rattle.pip_base.specs.declared.outcome.Status.TheVariants as S
use Rattle.pip_model.specs.FullRows.{cells_of, full_rows}
use Rattle.pip_model.proofs.Frames.Laid.{laid_space}
use Rattle.pip_model.proofs.Trees.Lookup.{found_name}
use Rattle.pip_kern.proofs.Climb.{part_node}
use Rattle.pip_grow.proofs.CollectTable.Tests.{has_tables, no_table_met, rows_met}
use Rattle.pip_grow.proofs.calls.collect.check_empty.Goals as goal

pub has_table-requires-clause-node : goal.has_table-requires-clause-node
has_table-requires-clause-node g c = part_node (g.M.Frames.memory c.args.mem.now) c.args.part c.requires.stands

pub returns-then-not-has_table-clause-tested : goal.returns-then-not-has_table-clause-tested
returns-then-not-has_table-clause-tested g c t x s lays found =
    let space = laid_space t s (g.M.Frames.memory c.args.mem.now) lays c.args.part x found in
    no_table_met t s c.args.part x found c.args.i (g.M.Frames.memory c.args.mem.now) lays (sym c.if-not-has_table.true
    ∙ c.has_table.ensures.table x (cells_of (full_rows t x)) space.node (found_name t c.args.part x found))

pub is_table_empty-requires-clause-tables : goal.is_table_empty-requires-clause-tables
is_table_empty-requires-clause-tables g c =
    has_tables (g.M.Frames.memory c.args.mem.now) c.args.part c.args.i (part_node (g.M.Frames.memory c.args.mem.now)
    c.args.part c.requires.stands) c.has_table.result (sym c.if-not-has_table.false) c.has_table.ensures.table

pub returns-then-not-is_table_empty-clause-tested : goal.returns-then-not-is_table_empty-clause-tested
returns-then-not-is_table_empty-clause-tested g c t x s lays found =
    let space = laid_space t s (g.M.Frames.memory c.args.mem.now) lays c.args.part x found in
    rows_met t s c.args.part x found c.args.i (g.M.Frames.memory c.args.mem.now) lays (sym c.if-not-has_table.false
    ∙ c.has_table.ensures.table x (cells_of (full_rows t x)) space.node (found_name t c.args.part x found))
    c.is_table_empty.result c.is_table_empty.ensures.empty
    ∙ ap (λ b. cond (not b) (Some S.NotEmpty) None) c.if-not-is_table_empty.true

pub returns-clause-tested : goal.returns-clause-tested
returns-clause-tested g c t x s lays found =
    let space = laid_space t s (g.M.Frames.memory c.args.mem.now) lays c.args.part x found in (
      rows_met t s c.args.part x found c.args.i (g.M.Frames.memory c.args.mem.now) lays (sym c.if-not-has_table.false
          ∙ c.has_table.ensures.table x (cells_of (full_rows t x)) space.node (found_name t c.args.part x found))
          c.is_table_empty.result c.is_table_empty.ensures.empty
          ∙ ap (λ b. cond (not b) (Some S.NotEmpty) None) c.if-not-is_table_empty.false,
      tt,
    )
