use Rattle.std.proofs.Common.{◌∙◌}
use Rattle.pip_model.specs.declared.level.Level.TheVariants.{Mmu}
use Rattle.pip_model.specs.FullRows.{cells_of}
use Rattle.pip_space.proofs.Tables.{level_put, room_of, row_at_page, row_put, user_word, with_user}
use Rattle.pip_space.proofs.writes.set_user.Goals as goal

pub table_for-page-requires : goal.table_for-page-requires
table_for-page-requires g c = room_of _ c.args.part c.args.v c.requires

pub with_user-word-requires : goal.with_user-word-requires
with_user-word-requires g c =
    let h = c.requires in
    let page = c.table_for-page.ensures.page h.node _ h.is_in.node h.name in
    record {
      row = h.row;
      packed = h.is_in.packed c.args.v h.row h.at;
      is = c.word.ensures.word ∙ row_at_page _ h.node h.rows h.is_in Mmu c.args.v c.number-i.result
          c.table_for-page.result c.number-i.ensures.same c.number-i.ensures.small page h.row h.at;
    }

pub returns-clause-rows : goal.returns-clause-rows
returns-clause-rows g c x rows r space name at =
    let page = c.table_for-page.ensures.page x _ space.node name in
    let packed = space.packed c.args.v r at in
    let word = c.word.ensures.word ∙ row_at_page _ x rows space Mmu c.args.v c.number-i.result c.table_for-page.result
    c.number-i.ensures.same c.number-i.ensures.small page r at in
    row_put _ _ x rows space c.args.v Mmu r (record r { user = c.args.user }) c.with_user-word.result at
    (with_user r c.args.user packed) (user_word r c.args.user) (c.with_user-word.ensures r packed word)
    (level_put _ _ x (cells_of rows) space.node Mmu c.args.v c.number-i.result c.table_for-page.result
    c.with_user-word.result c.number-i.ensures.same c.number-i.ensures.small page c.set_word.ensures.words).0

pub returns-clause-others : goal.returns-clause-others
returns-clause-others g c x cells node name =
    (level_put _ _ x cells node Mmu c.args.v c.number-i.result c.table_for-page.result c.with_user-word.result
    c.number-i.ensures.same c.number-i.ensures.small (c.table_for-page.ensures.page x cells node name)
    c.set_word.ensures.words).1
