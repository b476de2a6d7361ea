use Rattle.std.proofs.Common.{arith}
use Rattle.pip_space.proofs.ListChanges.{page_list-slice}
use Rattle.pip_grow.proofs.PrepareTable.Writes.{born_some, given_in, prepare-tree, install_can, list_can}
use Rattle.pip_grow.proofs.PrepareTable.Writes.{tables_can}
use Rattle.pip_grow.proofs.calls.prepare.give_table.Goals as goal

pub give_pages-requires-clause-can : goal.give_pages-requires-clause-can
give_pages-requires-clause-can g c =
    let r = c.requires.can in
    let s = r.stands in
    tables_can s.tree s.sound c.args.caller s.node s.found c.args.child c.args.born c.args.i c.args.pages.now r.can
    (g.M.Frames.memory c.args.mem.now) s.laid

pub give_pages-requires-clause-place : goal.give_pages-requires-clause-place
give_pages-requires-clause-place g c =
    let r = c.requires.can in
    born_some r.stands.tree r.stands.sound c.args.caller c.args.child c.args.born c.args.i c.args.pages.now r.can

pub give_pages-requires-2-clause-can : goal.give_pages-requires-2-clause-can
give_pages-requires-2-clause-can g c =
    let r = c.requires.can in
    let s = r.stands in
    list_can s.tree s.sound c.args.caller s.node s.found c.args.child c.args.born c.args.i c.args.pages.now r.can
    (g.M.Frames.memory c.args.mem.now) s.laid
    (g.M.Frames.memory c.give_pages.new.mem) c.give_pages.ensures.given c.as_slice.result.now
    (page_list-slice c.args.pages.now.list c.as_slice.result.now c.as_slice.ensures)

pub give_pages-requires-2-clause-place : goal.give_pages-requires-2-clause-place
give_pages-requires-2-clause-place g c =
    let r = c.requires.can in
    born_some r.stands.tree r.stands.sound c.args.caller c.args.child c.args.born c.args.i c.args.pages.now r.can

pub install_table-requires-clause-can : goal.install_table-requires-clause-can
install_table-requires-clause-can g c =
    let r = c.requires.can in
    let s = r.stands in
    install_can s.tree s.sound c.args.caller s.node s.found c.args.child c.args.born c.args.i c.args.pages.now r.can
    (g.M.Frames.memory c.args.mem.now) s.laid
    (g.M.Frames.memory c.give_pages.new.mem) c.give_pages.ensures.given c.as_slice.result.now
    (page_list-slice c.args.pages.now.list c.as_slice.result.now c.as_slice.ensures)
    (g.M.Frames.memory c.give_pages-2.new.mem) c.give_pages-2.ensures.given

pub returns-clause-tree : goal.returns-clause-tree
returns-clause-tree g c t x s lays found can =
    prepare-tree t s c.args.caller x found c.args.child c.args.born c.args.i c.args.pages.now can
    (g.M.Frames.memory c.args.mem.now) lays
    (g.M.Frames.memory c.give_pages.new.mem) c.give_pages.ensures.given c.as_slice.result.now
    (page_list-slice c.args.pages.now.list c.as_slice.result.now c.as_slice.ensures)
    (g.M.Frames.memory c.give_pages-2.new.mem) c.give_pages-2.ensures.given
    (g.M.Frames.memory c.install_table.new.mem) c.install_table.ensures.node

pub returns-clause-chain : goal.returns-clause-chain
returns-clause-chain g c t x s lays found can =
    let gives = given_in t s c.args.caller x found c.args.child c.args.born c.args.i c.args.pages.now can
    (g.M.Frames.memory c.args.mem.now) lays
    (g.M.Frames.memory c.give_pages.new.mem) c.give_pages.ensures.given c.as_slice.result.now
    (page_list-slice c.args.pages.now.list c.as_slice.result.now c.as_slice.ensures) _ c.give_pages.new.steps _
    c.give_pages.ensures.chain c.give_pages-2.ensures.chain in
    let installs = c.install_table.ensures.steps in
    omega (arith, gives, installs)
