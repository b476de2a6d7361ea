use Rattle.std.proofs.Common.{◌≡◌, ◌<◌, ◌+◌, drop, length, arith, sym, ap, ◌∙◌}
use Rattle.std.specs.Prelude.{slice_index}
use Rattle.pip_base.specs.Words.{as_configuration}
use Rattle.pip_base.specs.declared.types.Pair.{Pair}
use Rattle.pip_model.specs.ReadOff.{node_read}
use Rattle.pip_model.specs.Tree.{config, pairs}
use Rattle.pip_audit.specs.FrameWords.{word_held}
use Rattle.pip_audit.specs.Given.{word_as}
use Rattle.pip_audit.specs.Givens.{no_pair}
use Rattle.pip_audit.proofs.Inserts.{frame_at, frames_long, next_page}
use Rattle.pip_audit.proofs.ShadowWords.{over_next, word_is}
use Rattle.pip_audit.proofs.frame_words.FrameWords.give_pages.Goals as goal

pub loop-k-preserved : goal.loop-k-preserved
loop-k-preserved g c =
    let m = g.M.Frames.memory c.args.mem.now in
    let x = node_read m c.args.part in
    let k = c.loop-k.k in
    let below = c.loop-k-test.true in
    let count = c.count_pages-count.ensures in
    let less : k < length (pairs x) = omega (arith, below, count) in
    let long = frames_long (pairs x) in
    let frame = c.page-given.result.frame in
    let is : slice_index (config x) k ≡ frame =
    frame_at (pairs x) k no_pair less ∙ sym (ap (λ (p : Pair). p.frame) c.page-given.ensures.page) in
    let next = next_page (config x) k frame (omega (arith, less, long)) is in
    let inv = c.loop-k.invariant in
    let new = c.hold.ensures in (
      λ f. over_next (word_as as_configuration x) (word_held c.loop-k.self) (word_held c.hold.new.self)
          (drop k (config x)) (drop (k + 1) (config x)) frame c.word_to-word.result next
          (word_is m c.args.part as_configuration frame c.word-born.result c.word_to-word.result
          c.word-born.ensures.word c.word_to-word.ensures) new.words f ∙ inv.0 f,
      new.room ∙ inv.1,
    )
