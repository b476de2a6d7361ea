use Rattle.std.proofs.Common.{ap, ◌∙◌, arith}
use Rattle.pip_model.specs.Tree.{lists}
use Rattle.pip_model.proofs.Trees.Lookup.{found_in}
use Rattle.pip_kern.proofs.Climb.{part_frame}
use Rattle.pip_dump.proofs.Heads.{tables_word}
use Rattle.pip_dump.proofs.Whole.{config_long, tables_few}
use Rattle.pip_dump.proofs.sums.count_pages.Goals as goal

pub word-tables-requires-clause-frame : goal.word-tables-requires-clause-frame
word-tables-requires-clause-frame g c = part_frame (g.M.Frames.memory c.args.mem.now) c.args.part c.requires

pub overflow_mul-result : goal.overflow_mul-result
overflow_mul-result g c =
    let h = c.requires in
    let few = tables_few h.tree h.sound h.node (found_in h.tree c.args.part h.node h.found) in
    let word = c.word-tables.ensures.word
    ∙ tables_word h.tree h.sound (g.M.Frames.memory c.args.mem.now) h.laid c.args.part h.node h.found in
    omega (arith, few, word)

pub overflow_add-result : goal.overflow_add-result
overflow_add-result g c =
    let h = c.requires in
    let few = tables_few h.tree h.sound h.node (found_in h.tree c.args.part h.node h.found) in
    let word = c.word-tables.ensures.word
    ∙ tables_word h.tree h.sound (g.M.Frames.memory c.args.mem.now) h.laid c.args.part h.node h.found in
    omega (arith, few, word)

pub overflow_add-result-2 : goal.overflow_add-result-2
overflow_add-result-2 g c =
    let h = c.requires in
    let few = tables_few h.tree h.sound h.node (found_in h.tree c.args.part h.node h.found) in
    let word = c.word-tables.ensures.word
    ∙ tables_word h.tree h.sound (g.M.Frames.memory c.args.mem.now) h.laid c.args.part h.node h.found in
    let pages = c.lists.ensures ∙ ap lists word in
    omega (arith, few, word, pages)

pub returns : goal.returns
returns g c t x s lays found =
    let word =
    c.word-tables.ensures.word ∙ tables_word t s (g.M.Frames.memory c.args.mem.now) lays c.args.part x found in
    let pages = c.lists.ensures ∙ ap lists word in
    let long = config_long t s x (found_in t c.args.part x found) in
    omega (arith, long, word, pages)
