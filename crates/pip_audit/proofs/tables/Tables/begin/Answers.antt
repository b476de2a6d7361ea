use Rattle.std.proofs.Common.{◌<◌, length, arith, sym, ◌∙◌, subst}
use Rattle.pip_audit.proofs.Links.{directory_inside}
use Rattle.pip_audit.proofs.tables.Tables.begin.Goals as goal

pub new-directory-requires : goal.new-directory-requires
new-directory-requires g c =
    let inside = directory_inside (g.M.Frames.memory c.args.mem.now) c.args.part c.requires.base in
    let word = c.word.ensures.word in
    let most = (g.met.M.Frames.bounds c.args.mem.now).1 in
    omega (arith, word, inside, most)

pub find_places-requires-clause-directory : goal.find_places-requires-clause-directory
find_places-requires-clause-directory g c =
    let m = g.M.Frames.memory c.args.mem.now in
    subst (λ q. q < length m)
    (sym (c.new-directory.ensures ∙ c.word.ensures.word)) (directory_inside m c.args.part c.requires.base)
