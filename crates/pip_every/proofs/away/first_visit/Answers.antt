use Rattle.std.proofs.Common.{◌∙◌, sym, subst, arith}
use Rattle.pip_away.specs.Blind.{left_out}
use Rattle.pip_search.specs.Keys.{visits_of}
use Rattle.pip_search.specs.Systems.{IsKey}
use Rattle.pip_search.proofs.Looking.{key_at}
use Rattle.pip_search.proofs.Places.{get-some}
use Rattle.pip_search.proofs.Steps.{visit_count}
use Rattle.pip_every.specs.Explored.{explored}
use Rattle.pip_every.specs.Keys.{IsKeyOf}
use Rattle.pip_every.specs.Menus.{menu_model}
use Rattle.pip_every.specs.Moments.{Moment}
use Rattle.pip_every.specs.Passing.{FailsFirst, FirstLooks}
use Rattle.pip_every.proofs.Passing.{visit_more}
use Rattle.pip_every.proofs.away.first_visit.Goals as goal

pub first_cpu-requires : goal.first_cpu-requires
first_cpu-requires g c =
    let z = c.args.search.now in
    let first = g.F.First.words in
    let count = visit_count z c.requires.closed.searching.keyed in
    let (u, at) = get-some (visits_of z) c.loop-place.place (omega (
      arith,
      count,
      c.loop-place-test.true,
      c.len-place-end.ensures,
    )) in
    subst (λ b. IsKey (menu_model first b) c.deref.result.now) (sym c.loop-place.invariant.base)
    (rw (c.deref.ensures.value, c.in_ok-read_key.ensures u at)
    (key_at (menu_model first (explored c.args.explorer.now)) c.args.start.now z c.requires.closed c.requires.key
    c.loop-place.place u at))

pub returns-in-Some-clause-looks : goal.returns-in-Some-clause-looks
returns-in-Some-clause-looks g c =
    let z = c.args.search.now in
    let first = g.F.First.words in
    let count = visit_count z c.requires.closed.searching.keyed in
    let (u, at) = get-some (visits_of z) c.loop-place.place (omega (
      arith,
      count,
      c.loop-place-test.true,
      c.len-place-end.ensures,
    )) in
    record {
      visit = u;
      at = at;
      fails = rw (← c.in_ok-read_key.ensures u at, ← c.deref.ensures.value)
          (subst (λ b. (m : Moment) → IsKeyOf first b.scope c.deref.result.now m → FailsFirst
          (left_out c.args.blind.now) b m.world c.in-Some.cpu) c.loop-place.invariant.base c.in-Some.ensures.looks);
      before = c.loop-place.invariant.passes;
    }

pub loop-place-preserved : goal.loop-place-preserved
loop-place-preserved g c =
    let first = g.F.First.words in
    let was = c.loop-place.invariant in
    record {
      base = c.first_cpu.ensures.base ∙ was.base;
      passes = visit_more first (left_out c.args.blind.now) (explored c.args.explorer.now)
          (visits_of c.args.search.now) c.loop-place.place was.passes (λ u m at own. rw (c.in_default.is)
          at (subst (λ b. IsKeyOf first b.scope c.deref.result.now m → FirstLooks (left_out c.args.blind.now) b m.world
          c.first_cpu.result) was.base (c.first_cpu.ensures.looks m)
          (rw (c.deref.ensures.value, c.in_ok-read_key.ensures u at) own)));
    }

pub returns-clause-looks : goal.returns-clause-looks
returns-clause-looks g c j u m low at own =
    let count = visit_count c.args.search.now c.requires.closed.searching.keyed in
    c.loop-place.invariant.passes j u m (omega arith)
    at own
