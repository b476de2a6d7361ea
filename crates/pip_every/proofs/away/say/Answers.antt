use Rattle.std.proofs.Common.{subst, arith}
use Rattle.pip_away.specs.Blind.{left_out}
use Rattle.pip_search.specs.Keys.{visits_of}
use Rattle.pip_search.specs.Ways.{way_to}
use Rattle.pip_search.proofs.Places.{get-below}
use Rattle.pip_search.proofs.Steps.{visit_count}
use Rattle.pip_every.specs.Explored.{explored}
use Rattle.pip_every.specs.Passing.{IsFirstToFail, LooksFirst}
use Rattle.pip_every.proofs.Passing.{all_pass, one_fails}
use Rattle.pip_every.proofs.away.say.Goals as goal

pub runs_to-requires-clause-place : goal.runs_to-requires-clause-place
runs_to-requires-clause-place g c =
    let z = c.args.search.now in
    let h = c.requires.closed c.in-Closed.depth c.in-Closed.is in
    let f : IsFirstToFail g.F.First.words (left_out c.args.blind.now) (explored c.args.explorer.now) (visits_of z)
    c.in-Some.place c.in-Some.cpu = subst (LooksFirst g.F.First.words (left_out c.args.blind.now)
    (explored c.args.explorer.now) (visits_of z)) c.in-Some.is c.in_ok-place.ensures.looks in
    omega (arith, visit_count z h.searching.keyed, get-below (visits_of z) c.in-Some.place f.visit f.at)

pub returns-in_ok-way-in-Some-clause-said : goal.returns-in_ok-way-in-Some-clause-said
returns-in_ok-way-in-Some-clause-said g c m k =
    let z = c.args.search.now in
    let first = g.F.First.words in
    let o = left_out c.args.blind.now in
    let menu = explored c.args.explorer.now in
    let f : IsFirstToFail first o menu (visits_of z) c.in-Some.place c.in-Some.cpu =
    rw c.in-Some.is at c.in_ok-place.ensures.looks in
    rw c.in-Closed.is (
      way_to z.visits.items c.in-Some.place,
      (
        c.in_ok-way-in-Some.ensures,
        one_fails first o menu c.args.start.now z
            (c.requires.closed c.in-Closed.depth c.in-Closed.is) m k c.in-Some.place c.in-Some.cpu f,
      ),
    )

pub returns-in-None-clause-said : goal.returns-in-None-clause-said
returns-in-None-clause-said g c m k =
    let z = c.args.search.now in
    let first = g.F.First.words in
    let o = left_out c.args.blind.now in
    let menu = explored c.args.explorer.now in
    rw c.in-Closed.is (all_pass first o menu c.args.start.now z (c.requires.closed c.in-Closed.depth c.in-Closed.is) m
    k (subst (LooksFirst first o menu (visits_of z)) c.in-None.is c.in_ok-place.ensures.looks))
