use Rattle.std.proofs.Common.{arith}
use Rattle.pip_space.proofs.ListChanges.{page_list-slice}
use Rattle.pip_grow.proofs.CollectTable.Writes.{link_can, list_can, remove_can, collect-writes_tree, space, taken_in}
use Rattle.pip_grow.proofs.CollectTable.Writes.{tables_can}
use Rattle.pip_grow.proofs.calls.collect.take_table.Goals as goal

pub remove_pages-pages-requires-clause-can : goal.remove_pages-pages-requires-clause-can
remove_pages-pages-requires-clause-can g c =
    let r = c.requires.can in
    let s = r.stands in
    remove_can s.tree s.sound c.args.caller s.node s.found c.args.child c.args.i r.can
    (g.M.Frames.memory c.args.mem.now) s.laid

pub take_pages-requires : goal.take_pages-requires
take_pages-requires g c =
    let r = c.requires.can in
    let s = r.stands in
    tables_can s.tree s.sound c.args.caller s.node s.found c.args.child c.args.i r.can
    (g.M.Frames.memory c.args.mem.now) s.laid
    (g.M.Frames.memory c.remove_pages-pages.new.mem) c.remove_pages-pages.result c.remove_pages-pages.ensures.pages
    c.remove_pages-pages.ensures.node

pub take_pages-requires-2 : goal.take_pages-requires-2
take_pages-requires-2 g c =
    let r = c.requires.can in
    let s = r.stands in
    list_can s.tree s.sound c.args.caller s.node s.found c.args.child c.args.i r.can (g.M.Frames.memory c.args.mem.now)
    s.laid
    (g.M.Frames.memory c.remove_pages-pages.new.mem) c.remove_pages-pages.result c.remove_pages-pages.ensures.pages
    c.remove_pages-pages.ensures.node
    (g.M.Frames.memory c.take_pages.new.mem) c.take_pages.ensures.taken c.as_slice.result.now
    (page_list-slice c.remove_pages-pages.result.list c.as_slice.result.now c.as_slice.ensures)

pub link_pages-requires : goal.link_pages-requires
link_pages-requires g c =
    let r = c.requires.can in
    let s = r.stands in
    link_can s.tree s.sound c.args.caller s.node s.found c.args.child c.args.i r.can (g.M.Frames.memory c.args.mem.now)
    s.laid
    (g.M.Frames.memory c.remove_pages-pages.new.mem) c.remove_pages-pages.result c.remove_pages-pages.ensures.pages
    c.remove_pages-pages.ensures.node
    (g.M.Frames.memory c.take_pages.new.mem) c.take_pages.ensures.taken c.as_slice.result.now
    (page_list-slice c.remove_pages-pages.result.list c.as_slice.result.now c.as_slice.ensures)
    (g.M.Frames.memory c.take_pages-2.new.mem) c.take_pages-2.ensures.taken

pub returns-clause-tree : goal.returns-clause-tree
returns-clause-tree g c t x s lays found can =
    collect-writes_tree t s c.args.caller x found c.args.child c.args.i can (g.M.Frames.memory c.args.mem.now) lays
    (g.M.Frames.memory c.remove_pages-pages.new.mem) c.remove_pages-pages.result c.remove_pages-pages.ensures.pages
    c.remove_pages-pages.ensures.node
    (g.M.Frames.memory c.take_pages.new.mem) c.take_pages.ensures.taken c.as_slice.result.now
    (page_list-slice c.remove_pages-pages.result.list c.as_slice.result.now c.as_slice.ensures)
    (g.M.Frames.memory c.take_pages-2.new.mem) c.take_pages-2.ensures.taken
    (g.M.Frames.memory c.link_pages.new.mem) c.link_pages.ensures.words

pub returns-clause-chain : goal.returns-clause-chain
returns-clause-chain g c t x s lays found can =
    let takes = taken_in t s c.args.caller x found c.args.child c.args.i can (g.M.Frames.memory c.args.mem.now) lays
    (g.M.Frames.memory c.remove_pages-pages.new.mem) c.remove_pages-pages.result c.remove_pages-pages.ensures.pages
    c.remove_pages-pages.ensures.node
    (g.M.Frames.memory c.take_pages.new.mem) c.take_pages.ensures.taken c.as_slice.result.now
    (page_list-slice c.remove_pages-pages.result.list c.as_slice.result.now c.as_slice.ensures) _ c.take_pages.new.steps
    _ c.take_pages.ensures.chain c.take_pages-2.ensures.chain in
    let removes = c.remove_pages-pages.ensures.steps can.node _ (space t s c.args.caller x found c.args.child c.args.i
    can (g.M.Frames.memory c.args.mem.now) lays) can.name in
    omega (arith, takes, removes)
