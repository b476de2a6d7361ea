use Rattle.std.proofs.Common.{◌∙◌, sym}
use Rattle.pip_model.specs.Tree.{vpage}
use Rattle.pip_space.specs.Rows.{full_of}
use Rattle.pip_lend.proofs.AddVAddr.Tests.{room_free, room_taken}
use Rattle.pip_lend.proofs.calls.add_vaddr.check_room.Goals as goal

pub returns-then-is_some-clause-tested : goal.returns-then-is_some-clause-tested
returns-then-is_some-clause-tested g c t y s lays found =
    room_taken t s c.args.child y found (vpage c.args.cv) (sym (c.has_table_at.ensures.table t y s lays found)
    ∙ c.if-not-has_table_at.false) full_of c.row_at.result (c.row_at.ensures.row t y s lays found)
    (sym c.is_some.ensures ∙ c.if-is_some.true)

pub returns-clause-tested : goal.returns-clause-tested
returns-clause-tested g c t y s lays found = (
  room_free t s c.args.child y found (vpage c.args.cv) (sym (c.has_table_at.ensures.table t y s lays found)
      ∙ c.if-not-has_table_at.false) full_of c.row_at.result (c.row_at.ensures.row t y s lays found)
      (sym c.is_some.ensures ∙ c.if-is_some.false),
  tt,
)
