use Rattle.std.proofs.Common.{arith, ◌+◌, ◌-◌, sym, ◌∙◌}
use Rattle.pip_parent.proofs.Counting.{opened_most, place_opens, place_within, stores_are}
use Rattle.pip_parent.proofs.Opening.{opened_world}
use Rattle.pip_parent.proofs.Working.{table_given}
use Rattle.pip_parent.proofs.building.open_table.Goals as goal

pub overflow_add-taken : goal.overflow_add-taken
overflow_add-taken g c =
    let m = opened_most c.args.wants.now c.args.i in
    omega arith

pub overflow_add-taken-2 : goal.overflow_add-taken-2
overflow_add-taken-2 g c =
    let m = opened_most c.args.wants.now c.args.i in
    omega arith

pub link-requires-clause-within : goal.link-requires-clause-within
link-requires-clause-within g c =
    let s = stores_are c.args.wants.now c.args.i _ _ _ c.requires.taken.tables c.lists.ensures c.lists-2.ensures in
    let w = place_within c.args.wants.now c.args.i c.requires.low in
    let p = place_opens c.args.wants.now c.args.i (sym c.opens.ensures.opens ∙ c.if-not-opens.false) in
    omega arith

pub bounds-pool-first : goal.bounds-pool-first
bounds-pool-first g c =
    let w = place_within c.args.wants.now c.args.i c.requires.low in
    let p = place_opens c.args.wants.now c.args.i (sym c.opens.ensures.opens ∙ c.if-not-opens.false) in
    omega arith

pub returns-clause-tabled : goal.returns-clause-tabled
returns-clause-tabled g c w r b a =
    opened_world w c.args.cpu r c.args.pool.now c.args.wants.now c.args.i b c.requires.room c.requires.low
    c.requires.fits (g.P.Port.stands c.args.port.now) (g.P.Port.stands c.link.new.port)
    (g.P.Port.stands c.give_table.new.port) c.args.taken.now.pages (2 + (c.lists.result - c.lists-2.result))
    c.requires.taken.pages
    (stores_are c.args.wants.now c.args.i _ _ _ c.requires.taken.tables c.lists.ensures c.lists-2.ensures)
    (sym c.opens.ensures.opens ∙ c.if-not-opens.false) c.link.ensures.linked c.give_table.ensures.called a

pub returns-clause-work : goal.returns-clause-work
returns-clause-work g c =
    table_given _ _ _ c.args.cpu c.args.pool.now _ _ _ c.args.wants.now c.args.i c.args.taken.now.pages
    (2 + (c.lists.result - c.lists-2.result)) (sym c.opens.ensures.opens ∙ c.if-not-opens.false)
    c.requires.taken.pages
    (stores_are c.args.wants.now c.args.i _ _ _ c.requires.taken.tables c.lists.ensures c.lists-2.ensures)
    c.link.ensures.work c.give_table.ensures.work
