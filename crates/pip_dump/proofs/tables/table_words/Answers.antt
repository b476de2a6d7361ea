use Rattle.std.proofs.Common.{◌≡◌, ◌/◌, ◌%◌, ◌∙◌, ap, arith, refl, get_or}
use Rattle.std.specs.Prelude.{is_some}
use Rattle.pip_base.specs.Memory.{frame_at, word_at}
use Rattle.pip_space.specs.Levels.{table_frame_at}
use Rattle.pip_space.proofs.Tables.{has_table_found, row_of_page}
use Rattle.pip_model.specs.Tree.{table_at}
use Rattle.pip_dump.proofs.tables.table_words.Goals as goal

pub table_for-table-requires : goal.table_for-table-requires
table_for-table-requires g c =
    let h = c.requires.tables.held in
    let at = c.new.ensures in
    record {
      held = h;
      tabled =
          let same : c.new.result / 1024 ≡ c.args.i = omega (arith, at) in
          has_table_found h.node c.new.result
          ∙ (ap (λ i. is_some (table_at h.node.tables i)) same ∙ c.requires.tables.tabled);
    }

pub returns : goal.returns
unfolding frame_at word_at
returns g c x rows space name v index =
    let at = c.new.ensures in
    let small = c.requires.index in
    let same : v / 1024 ≡ c.new.result / 1024 = omega (arith, at, index) in
    let page =
    ap (table_frame_at c.args.level x) same ∙ c.table_for-table.ensures.page x _ space.node name in
    ap (λ ws. get_or ws (v % 1024) 0) c.frame.ensures.words
    ∙ row_of_page _ x rows space c.args.level v v c.table_for-table.result refl
    (omega (arith, index, small)) page
