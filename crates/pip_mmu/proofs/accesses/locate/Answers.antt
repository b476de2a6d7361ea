use Rattle.std.proofs.Common.{◌∙◌, sym}
use Rattle.pip_mmu.specs.Answers.{reached_of, word_in}
use Rattle.pip_mmu.proofs.Places.{answer_inside, placed}
use Rattle.pip_mmu.proofs.accesses.locate.Goals as goal

pub returns-clause-place : goal.returns-clause-place
returns-clause-place g c t x s lays found =
    c.by_translation.ensures c.args.va
    ∙ placed t c.args.part c.args.va c.args.size c.args.access (reached_of (word_in c.args.va c.page_of.result))
    (sym c.is_misaligned.ensures ∙ c.if-is_misaligned.false) (c.page_of.ensures.reached t x s lays found)

pub returns-clause-inside : goal.returns-clause-inside
returns-clause-inside g c =
    let s = c.requires in
    answer_inside s.tree _ c.args.part c.args.va c.args.size c.args.access s.node s.sound s.laid s.found
    c.by_translation.result (returns-clause-place g c s.tree s.node s.sound s.laid s.found)
