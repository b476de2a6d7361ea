use Rattle.std.proofs.Common.{arith, [], ◌∷◌, ◌++◌, ◌-◌}
use Rattle.pip_model.specs.NodeWords.{slots}
use Rattle.pip_config.proofs.Links.{last_read, length_more, pop_list}
use Rattle.pip_config.proofs.PageWords.{next_small}
use Rattle.pip_config.proofs.pages.pop_page.Goals as goal

pub new-frame-requires : goal.new-frame-requires
new-frame-requires g c =
    let p = c.requires.list in
    let count = p.count in
    let two = c.requires.two in
    let few = (g.met.M.Frames.bounds c.args.mem.now).1 in
    next_small (g.M.Frames.memory c.args.mem.now) c.args.first p.more (slots p.tables) p.is_in.pages
    (c.args.pages - 2) c.page_at-page.result c.word.result
    (c.page_at-page.ensures.frame p.more (slots p.tables) p.is_in.pages (omega arith)) c.word.ensures.word (omega arith)
    few

pub returns-clause-last : goal.returns-clause-last
returns-clause-last g c more p ts list count =
    let long = length_more more p in
    last_read (g.M.Frames.memory c.args.mem.now) c.args.first more p ts list (c.args.pages - 2) c.page_at-page.result
    (omega arith)
    (c.page_at-page.ensures.frame (more ++ p ∷ []) (slots ts) list.pages (omega arith))
    (record { va = c.word-va.result; frame = c.new-frame.result }) c.word.result c.word-va.ensures.word
    c.new-frame.ensures c.word.ensures.word

pub returns-clause-list : goal.returns-clause-list
returns-clause-list g c more p ts list count room =
    let long = length_more more p in
    pop_list (g.M.Frames.memory c.args.mem.now) (g.M.Frames.memory c.set_link.new.mem) c.args.first more p ts list room
    (c.args.pages - 2) c.page_at-page.result (omega arith)
    (c.page_at-page.ensures.frame (more ++ p ∷ []) (slots ts) list.pages (omega arith))
    c.new.result c.new.ensures c.set_link.ensures.words
