use Rattle.std.proofs.Common.{◌+◌, arith, ◌∙◌}
use Rattle.pip_model.specs.ReadOff.{node_read}
use Rattle.pip_audit.specs.FrameWords.{rights_held}
use Rattle.pip_audit.specs.Tables.{rows_left, row_seen}
use Rattle.pip_audit.proofs.PartLaws.{rows_are}
use Rattle.pip_audit.proofs.Narrowing.{none_so_far, one_more}
use Rattle.pip_audit.proofs.frame_words.FrameWords.gather_rights.Goals as goal

pub loop-row-init : goal.loop-row-init
loop-row-init g c =
    let m = g.M.Frames.memory c.args.mem.now in
    let part = c.args.tables.now.part in
    record {
      small = omega arith;
      rights = none_so_far (rights_held c.fill.new.self) (node_read m part).rows (rows_left m part 0) (rows_are m part)
          c.fill.ensures.words;
      room = c.fill.ensures.room;
    }

pub loop-row-preserved : goal.loop-row-preserved
loop-row-preserved g c =
    let m = g.M.Frames.memory c.args.mem.now in
    let part = c.args.tables.now.part in
    let inv = c.loop-row.invariant in
    let row = c.in-Some.row in
    let hi = c.in-Some.ensures.small in
    record {
      small = omega (arith, hi);
      rights = one_more (rights_held c.loop-row.self) (rights_held c.narrow.new.self) (node_read m part).rows
          (rows_left m part c.loop-row.from) (rows_left m part (row.at + 1)) (row_seen row) c.in-Some.ensures.rows
          c.narrow.ensures.rights inv.rights;
      room = c.narrow.ensures.room ∙ inv.room;
    }
