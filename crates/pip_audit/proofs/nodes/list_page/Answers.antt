use Rattle.std.proofs.Common.{◌≡◌, ◌<◌, ◌+◌, length, arith, sym, ap, ◌∙◌, subst}
use Rattle.pip_base.specs.Memory.{word_at}
use Rattle.pip_audit.specs.Links.{page_after}
use Rattle.pip_audit.proofs.Links.{after_none, after_one}
use Rattle.pip_audit.proofs.nodes.list_page.Goals as goal

pub new-page-requires : goal.new-page-requires
new-page-requires g c =
    let m = g.M.Frames.memory c.args.mem.now in
    let list = word_at m c.args.part 9 in
    let word = c.word-first.ensures.word in
    let inside : list < length m =
    subst (λ p. p < length m) (after_none m list) (c.requires.pages 0 (omega arith)) in
    let most = (g.met.M.Frames.bounds c.args.mem.now).1 in
    omega (arith, word, inside, most)

pub loop-j-init : goal.loop-j-init
loop-j-init g c =
    let m = g.M.Frames.memory c.args.mem.now in
    c.new-page.ensures ∙ c.word-first.ensures.word ∙ sym (after_none m (word_at m c.args.part 9))

pub word-next-requires-clause-frame : goal.word-next-requires-clause-frame
word-next-requires-clause-frame g c =
    let m = g.M.Frames.memory c.args.mem.now in
    let below = c.loop-j-test.true in
    subst (λ p. p < length m) (sym c.loop-j.invariant) (c.requires.pages c.loop-j.j (omega (arith, below)))

pub new-page-requires-in-loop-j : goal.new-page-requires-in-loop-j
new-page-requires-in-loop-j g c =
    let m = g.M.Frames.memory c.args.mem.now in
    let list = word_at m c.args.part 9 in
    let below = c.loop-j-test.true in
    let word : c.word-next.result ≡ page_after m list (c.loop-j.j + 1) =
    c.word-next.ensures.word ∙ ap (λ p. word_at m p 0) c.loop-j.invariant ∙ sym (after_one m list c.loop-j.j) in
    let inside : page_after m list (c.loop-j.j + 1) < length m =
    c.requires.pages (c.loop-j.j + 1) (omega (arith, below)) in
    let most = (g.met.M.Frames.bounds c.args.mem.now).1 in
    omega (arith, word, inside, most)

pub loop-j-preserved : goal.loop-j-preserved
loop-j-preserved g c =
    let m = g.M.Frames.memory c.args.mem.now in
    c.new-page-in-loop-j.ensures ∙ c.word-next.ensures.word ∙ ap (λ p. word_at m p 0) c.loop-j.invariant
    ∙ sym (after_one m (word_at m c.args.part 9) c.loop-j.j)
