use Rattle.std.proofs.Common.{arith, ◌≡◌, ◌+◌, ◌-◌, ◌<◌, ◌∷◌, sym, refl, length}
use Rattle.std.specs.Prelude.{Some, slice_get}
use Rattle.std.proofs.lemmas.Option.{slice_get_read}
use Rattle.pip_search.specs.Ways.{runs_of, way_to}
use Rattle.pip_search.proofs.Making.{at-same}
use Rattle.pip_search.proofs.Places.{get-some}
use Rattle.pip_search.proofs.Running.{all_joined, begins_anew, goes_on, runs_first}
use Rattle.pip_search.proofs.Tracing.{run_back}
use Rattle.pip_search.proofs.ways.runs_with.Goals as goal
use Rattle.pip_search.proofs.ways.runs_with.Goals.{then-visit-last+in_ok-push, else-visit-last}

pub loop-j-init : goal.loop-j-init
loop-j-init c =
    let vs = c.args.search.now.visits.items in
    record {
      place = c.requires.place;
      above = λ u e. omega arith;
      joined = λ u e.
          let d = c.requires.depth u e in
          let one : c.args.depth - u.depth ≡ 1 = omega arith in
          rw (c.new-runs.ensures.items, one, runs_first c.args.choice (way_to vs c.args.at));
    }

pub loop-j-preserved : goal.loop-j-preserved
loop-j-preserved c =
    let vs = c.args.search.now.visits.items in
    let fs = c.args.search.now.found.items in
    let all = runs_of (c.args.choice ∷ way_to vs c.args.at) in
    let j = c.loop-j.j in
    let v = c.index-visit.result.now in
    let t = c.requires.traced in
    let at : slice_get vs j ≡ Some v = slice_get_read vs (length vs) j v refl c.loop-j.invariant.place
    c.index-visit.ensures in
    let some : 0 < j = omega arith in
    let r = run_back vs fs t (j + 1) j v (omega arith) some at in
    let above : v.depth < c.loop-j.end = c.loop-j.invariant.above v at in
    let low = r.low in
    let place = c.loop-j.invariant.place in
    let deep = r.depth in
    let many = r.some in
    elim c.if-visit-last.branch [
      | then-visit-last+in_ok-push w ↦
          record {
            place = omega arith;
            above = λ u e. let d : r.start.depth ≡ u.depth = rw (at-same vs v.run r.start u r.at e) in
                omega arith;
            joined = λ u e.
                rw (
                  w.runs-is,
                  w.last-is,
                  w.end-is,
                  begins_anew vs fs t c.loop-j.runs.items c.loop-j.last c.loop-j.end
                      j all v at some above (c.loop-j.invariant.joined v at) (λ same. w.if-visit-last.true (sym same))
                      w.push.new.self.items w.in_ok-push.ensures.items u e,
                );
          }
      | else-visit-last w ↦
          record {
            place = omega arith;
            above = λ u e. let d : r.start.depth ≡ u.depth = rw (at-same vs v.run r.start u r.at e) in
                omega arith;
            joined = λ u e.
                rw (
                  w.runs-is,
                  w.last-is,
                  w.end-is,
                  goes_on vs fs t c.loop-j.runs.items c.loop-j.last c.loop-j.end j
                      all v at some above (c.loop-j.invariant.joined v at) (sym w.if-visit-last.false) u e,
                );
          }
    ]

pub loop-j-smaller : goal.loop-j-smaller
loop-j-smaller c =
    let vs = c.args.search.now.visits.items in
    let j = c.loop-j.j in
    let v = c.index-visit.result.now in
    let at : slice_get vs j ≡ Some v = slice_get_read vs (length vs) j v refl c.loop-j.invariant.place
    c.index-visit.ensures in
    (run_back vs c.args.search.now.found.items c.requires.traced (j + 1) j v (omega arith)
    (omega arith) at).low

pub returns : goal.returns
returns c =
    let vs = c.args.search.now.visits.items in
    let (u, at) = get-some vs c.loop-j.j c.loop-j.invariant.place in
    rw (
      c.reverse.ensures.items,
      c.in_ok-push-2.ensures.items,
      all_joined vs c.args.search.now.found.items
          c.requires.traced c.loop-j.runs.items c.loop-j.last c.loop-j.end c.loop-j.j
          (runs_of (c.args.choice ∷ way_to vs c.args.at)) u at c.loop-j-test.false (c.loop-j.invariant.joined u at),
    )
