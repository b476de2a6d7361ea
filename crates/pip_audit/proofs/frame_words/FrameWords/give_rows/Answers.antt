use Rattle.std.proofs.Common.{map, ◌≡◌, ◌+◌, arith, ap, ◌∙◌, subst}
use Rattle.pip_base.specs.Words.{as_lent}
use Rattle.pip_model.specs.ReadOff.{node_read}
use Rattle.pip_model.specs.Tree.{Row}
use Rattle.pip_audit.specs.FrameWords.{word_held}
use Rattle.pip_audit.specs.Given.{word_as}
use Rattle.pip_audit.specs.Tables.{pages_left}
use Rattle.pip_audit.proofs.ShadowWords.{over_next, word_is}
use Rattle.pip_audit.proofs.frame_words.FrameWords.give_rows.Goals as goal

pub loop-row-preserved : goal.loop-row-preserved
loop-row-preserved g c =
    let m = g.M.Frames.memory c.args.mem.now in
    let part = c.args.tables.now.part in
    let inv = c.loop-row.invariant in
    let row = c.in-Some.row in
    let word = word_as as_lent (node_read m part) in
    let step = ap (map (λ (r : Row). r.frame)) c.in-Some.ensures.rows in
    let given : c.word_to-word.result ≡ word row.frame =
    subst (λ p. c.word_to-word.result ≡ word_as as_lent (node_read m p) row.frame) c.part-part.ensures
    (word_is m c.part-part.result as_lent row.frame c.word-born.result c.word_to-word.result c.word-born.ensures.word
    c.word_to-word.ensures) in
    let hi = c.in-Some.ensures.small in
    record {
      small = omega (arith, hi);
      words = λ k. over_next word (word_held c.loop-row.self) (word_held c.hold.new.self)
          (pages_left m part c.loop-row.from) (pages_left m part (row.at + 1)) row.frame c.word_to-word.result step
          given c.hold.ensures.words k ∙ inv.words k;
      room = c.hold.ensures.room ∙ inv.room;
    }
