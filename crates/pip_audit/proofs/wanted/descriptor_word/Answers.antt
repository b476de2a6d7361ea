use Rattle.std.proofs.Common.{arith, ap, ◌∙◌, ◌%◌}
use Rattle.std.proofs.lemmas.Nat.{and_mask}
use Rattle.pip_audit.proofs.PageWords.{base_word, count_word, lines_word, mask_word, up_word}
use Rattle.pip_audit.proofs.wanted.descriptor_word.Goals as goal

pub returns-then-i-le-LIST_FRAME : goal.returns-then-i-le-LIST_FRAME
returns-then-i-le-LIST_FRAME g c =
    let low = c.if-i-le-LIST_FRAME.true in
    c.word-found.ensures.word
    ∙ base_word (g.M.Frames.memory c.args.mem.now) c.args.part c.args.i (omega (arith, low))

pub returns-then-i-eq-PARENT : goal.returns-then-i-eq-PARENT
returns-then-i-eq-PARENT g c =
    c.word-found.ensures.word ∙ up_word (g.M.Frames.memory c.args.mem.now) c.args.part c.args.i c.if-i-eq-PARENT.true

pub returns-then-i-eq-TABLES : goal.returns-then-i-eq-TABLES
returns-then-i-eq-TABLES g c =
    c.word-found.ensures.word ∙ count_word (g.M.Frames.memory c.args.mem.now) c.args.part c.args.i c.if-i-eq-TABLES.true

pub returns-then-i-eq-FLAGS : goal.returns-then-i-eq-FLAGS
returns-then-i-eq-FLAGS g c = and_mask c.word-found.result 1 ∙ ap (λ w. w % 2) c.word-found.ensures.word
    ∙ mask_word (g.M.Frames.memory c.args.mem.now) c.args.part c.args.i c.if-i-eq-FLAGS.true

pub returns-then-i-eq-PENDING : goal.returns-then-i-eq-PENDING
returns-then-i-eq-PENDING g c = ap (λ w. w % 65536) c.word-found.ensures.word
    ∙ lines_word (g.M.Frames.memory c.args.mem.now) c.args.part c.args.i c.if-i-eq-PENDING.true
