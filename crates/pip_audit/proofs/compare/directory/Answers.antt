use Rattle.std.proofs.Common.{arith, refl, sym, ap, ◌∙◌}
use Rattle.pip_base.specs.Memory.{word_at}
use Rattle.pip_model.specs.NodeIn.{directory_of}
use Rattle.pip_model.specs.ReadOff.{node_read}
use Rattle.pip_audit.proofs.Givens.{base_inside}
use Rattle.pip_audit.proofs.Loads.{passes}
use Rattle.pip_audit.proofs.PageWords.{mmu_directory, shadow1_directory, shadow2_directory}
use Rattle.pip_audit.proofs.compare.directory.Goals as goal

pub new-requires : goal.new-requires
new-requires g c =
    let m = g.M.Frames.memory c.args.mem.now in
    let inside = base_inside m c.args.part 1
    (passes m c.args.part (word_at m c.args.part 12) refl c.requires.passes).base (omega arith) in
    let word = c.word.ensures.word in
    let most = (g.met.M.Frames.bounds c.args.mem.now).1 in
    omega (arith, word, inside, most)

pub new-requires-in-Shadow1 : goal.new-requires-in-Shadow1
new-requires-in-Shadow1 g c =
    let m = g.M.Frames.memory c.args.mem.now in
    let inside = base_inside m c.args.part 2
    (passes m c.args.part (word_at m c.args.part 12) refl c.requires.passes).base (omega arith) in
    let word = c.word-in-Shadow1.ensures.word in
    let most = (g.met.M.Frames.bounds c.args.mem.now).1 in
    omega (arith, word, inside, most)

pub new-requires-in-Shadow2 : goal.new-requires-in-Shadow2
new-requires-in-Shadow2 g c =
    let m = g.M.Frames.memory c.args.mem.now in
    let inside = base_inside m c.args.part 3
    (passes m c.args.part (word_at m c.args.part 12) refl c.requires.passes).base (omega arith) in
    let word = c.word-in-Shadow2.ensures.word in
    let most = (g.met.M.Frames.bounds c.args.mem.now).1 in
    omega (arith, word, inside, most)

pub returns-in-Mmu : goal.returns-in-Mmu
returns-in-Mmu g c =
    let m = g.M.Frames.memory c.args.mem.now in
    c.new.ensures ∙ c.word.ensures.word ∙ mmu_directory m c.args.part
    ∙ sym (ap (λ l. (directory_of l (node_read m c.args.part).base).frame) c.in-Mmu.is)

pub returns-in-Shadow1 : goal.returns-in-Shadow1
returns-in-Shadow1 g c =
    let m = g.M.Frames.memory c.args.mem.now in
    c.new-in-Shadow1.ensures ∙ c.word-in-Shadow1.ensures.word ∙ shadow1_directory m c.args.part
    ∙ sym (ap (λ l. (directory_of l (node_read m c.args.part).base).frame) c.in-Shadow1.is)

pub returns-in-Shadow2 : goal.returns-in-Shadow2
returns-in-Shadow2 g c =
    let m = g.M.Frames.memory c.args.mem.now in
    c.new-in-Shadow2.ensures ∙ c.word-in-Shadow2.ensures.word ∙ shadow2_directory m c.args.part
    ∙ sym (ap (λ l. (directory_of l (node_read m c.args.part).base).frame) c.in-Shadow2.is)
