use Rattle.pip_model.specs.FullRows.{cells_of}
use Rattle.pip_kern.proofs.UserBits.{above_is, row_frame, row_rows}
use Rattle.pip_kern.proofs.hiding.set_user_in.Goals as goal

pub place_above-above-requires : goal.place_above-above-requires
place_above-above-requires g c = row_rows (g.M.Frames.memory c.args.mem.now) c.args.part c.args.v c.requires.row

pub one_up-up-requires-clause-frame : goal.one_up-up-requires-clause-frame
one_up-up-requires-clause-frame g c = row_frame (g.M.Frames.memory c.args.mem.now) c.args.part c.args.v c.requires.row

pub returns-clause-user : goal.returns-clause-user
returns-clause-user g c x rows r space name r_is = record {
  space = c.set_user.ensures.rows x rows r space name r_is;
  others = c.set_user.ensures.others x (cells_of rows) space.node name;
  above = above_is _ x rows space c.args.part name c.args.v r r_is c.place_above-above.result
      (c.place_above-above.ensures.word x rows space name) c.one_up-up.result c.one_up-up.ensures.above;
}
