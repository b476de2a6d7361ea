use Rattle.std.proofs.Common.{◌∙◌, ◌/◌, sym, ap}
use Rattle.pip_space.specs.Levels.{table_frame_at}
use Rattle.pip_space.proofs.Packed.{not_both}
use Rattle.pip_space.proofs.Tables.{page_for}
use Rattle.pip_space.proofs.reads.table_for.Goals as goal

pub never-assert_unchecked-requires : goal.never-assert_unchecked-requires
never-assert_unchecked-requires g c =
    let r = c.requires in
    let n = r.held in
    let p = page_for c.args.level n.node c.args.v r.tabled in
    absurd (not_both c.table.result p.0 c.in-None.is (c.table.ensures.page n.node n.cells n.is_in n.name
    ∙ (ap (λ v. table_frame_at c.args.level n.node (v / 1024)) c.number.ensures.same ∙ p.1)))

pub returns-clause-page : goal.returns-clause-page
returns-clause-page g c x cells node name =
    rw (← c.number.ensures.same, ← c.table.ensures.page x cells node name, c.in-Some.is)
