use Rattle.std.proofs.Common.{◌≡◌, ◌+◌, suc, arith}
use Rattle.pip_parent.proofs.Counting.{place_next, place_within}
use Rattle.pip_parent.proofs.Meeting.{met}
use Rattle.pip_parent.proofs.Working.{more_events}
use Rattle.pip_parent.proofs.building.meet.Goals as goal

pub bounds-pool-page : goal.bounds-pool-page
bounds-pool-page g c =
    let w = place_within c.args.wants.now c.args.i c.requires.low in
    omega arith

pub returns-clause-met : goal.returns-clause-met
returns-clause-met g c w r b a = met (g.P.Port.stands c.open_table-page.new.port) (g.P.Port.stands c.lend_page.new.port)
    w c.args.cpu r c.args.pool.now c.args.wants.now c.args.i b c.requires.room c.requires.low c.requires.fits
    c.lend_page.result c.open_table-page.result c.open_table-page.ensures.place c.lend_page.ensures.called
    c.lend_page.ensures.accepted (c.open_table-page.ensures.tabled w r b a)

pub returns-clause-taken : goal.returns-clause-taken
returns-clause-taken g c =
    let e : c.args.i + 1 ≡ suc c.args.i = omega arith in
    let page = c.open_table-page.ensures.place in
    record {
      pages = rw e (omega (arith, page, place_next c.args.wants.now c.args.i));
      tables = c.open_table-page.ensures.taken.tables;
      directories = c.open_table-page.ensures.taken.directories;
    }

pub returns-clause-work : goal.returns-clause-work
returns-clause-work g c = rw (← c.open_table-page.ensures.place)
    (more_events _ _ _ _ _ _ _ _ c.open_table-page.ensures.work c.lend_page.ensures.work)
