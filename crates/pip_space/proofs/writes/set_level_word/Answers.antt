use Rattle.pip_model.specs.NodeIn.{put_cell}
use Rattle.pip_space.proofs.Tables.{level_put}
use Rattle.pip_space.proofs.writes.set_level_word.Goals as goal

pub returns-clause-node : goal.returns-clause-node
returns-clause-node g c x cells node name =
    level_put _ _ x cells node c.args.level c.args.v c.number.result c.table_for-page.result c.args.w
    c.number.ensures.same c.number.ensures.small (c.table_for-page.ensures.page x cells node name)
    c.set_word.ensures.words

pub returns-clause-room : goal.returns-clause-room
returns-clause-room g c =
    let h = c.requires.held in
    record {
      held = record {
        node = h.node;
        cells = put_cell h.cells c.args.level c.args.v c.args.w;
        is_in = (returns-clause-node g c h.node h.cells h.is_in h.name).0;
        name = h.name;
      };
      tabled = c.requires.tabled;
    }
