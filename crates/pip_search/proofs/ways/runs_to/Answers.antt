use Rattle.std.proofs.Common.{arith, ◌≡◌, ◌<◌, [], inl, inr, sym, refl, ◌∙◌, length}
use Rattle.std.specs.Prelude.{Some, slice_get}
use Rattle.std.proofs.lemmas.Option.{slice_get_read}
use Rattle.pip_search.specs.Ways.{way_to}
use Rattle.pip_search.proofs.Making.{at-same}
use Rattle.pip_search.proofs.Places.{get-below}
use Rattle.pip_search.proofs.Running.{runs_none}
use Rattle.pip_search.proofs.Tracing.{way_more, way_none}
use Rattle.pip_search.proofs.ways.runs_to.Goals as goal

pub returns-then-place-eq0 : goal.returns-then-place-eq0
returns-then-place-eq0 c =
    let vs = c.args.search.now.visits.items in
    let none : way_to vs c.args.place ≡ [] = rw (
      c.if-place-eq0.true,
      way_none vs c.args.search.now.found.items
          c.requires.traced,
    ) in
    c.new.ensures.items ∙ sym (rw (none, runs_none))

pub runs_with-requires-clause-place : goal.runs_with-requires-clause-place
runs_with-requires-clause-place c =
    let vs = c.args.search.now.visits.items in
    let u = c.index-visit.result.now in
    let there : slice_get vs c.args.place ≡ Some u = slice_get_read vs (length vs) c.args.place u refl c.requires.place
    c.index-visit.ensures in
    elim (c.requires.traced.visits c.args.place u there) [
      | inl first ↦ absurd (c.if-place-eq0.false first.0)
      | inr from ↦ get-below vs u.parent from.from from.at
    ]

pub runs_with-requires-clause-depth : goal.runs_with-requires-clause-depth
runs_with-requires-clause-depth c = λ v e.
    let vs = c.args.search.now.visits.items in
    let u = c.index-visit.result.now in
    let there : slice_get vs c.args.place ≡ Some u = slice_get_read vs (length vs) c.args.place u refl c.requires.place
    c.index-visit.ensures in
    elim (c.requires.traced.visits c.args.place u there) [
      | inl first ↦ absurd (c.if-place-eq0.false first.0)
      | inr from ↦ rw (from.depth, at-same vs u.parent from.from v from.at e)
    ]

pub returns : goal.returns
returns c =
    let vs = c.args.search.now.visits.items in
    let u = c.index-visit.result.now in
    let there : slice_get vs c.args.place ≡ Some u = slice_get_read vs (length vs) c.args.place u refl c.requires.place
    c.index-visit.ensures in
    let some : 0 < c.args.place = omega arith in
    rw (c.in_ok-runs.ensures, ← way_more vs c.args.search.now.found.items c.requires.traced c.args.place u some there)
