use Rattle.std.proofs.Common.{◌≡◌, refl, length}
use Rattle.std.specs.Prelude.{Some, slice_get}
use Rattle.std.proofs.lemmas.List.{reverse-reverse}
use Rattle.std.proofs.lemmas.Option.{slice_get_read}
use Rattle.pip_search.specs.Ways.{found_way, runs_of}
use Rattle.pip_search.proofs.Making.{at-same}
use Rattle.pip_search.proofs.Places.{get-below, get-some}
use Rattle.pip_search.proofs.Running.{are_runs, unfolded_runs}
use Rattle.pip_search.proofs.ways.runs.Goals as goal

pub runs_with-requires-clause-place : goal.runs_with-requires-clause-place
runs_with-requires-clause-place c =
    let vs = c.args.search.now.visits.items in
    let fs = c.args.search.now.found.items in
    let own = c.index-found.result.now in
    let there : slice_get fs c.args.k ≡ Some own = slice_get_read fs (length fs) c.args.k own refl c.requires.place
    c.index-found.ensures in
    let from = c.requires.traced.labels c.args.k own there in
    get-below vs own.at from.from from.at

pub runs_with-requires-clause-depth : goal.runs_with-requires-clause-depth
runs_with-requires-clause-depth c = λ u e.
    let vs = c.args.search.now.visits.items in
    let fs = c.args.search.now.found.items in
    let own = c.index-found.result.now in
    let there : slice_get fs c.args.k ≡ Some own = slice_get_read fs (length fs) c.args.k own refl c.requires.place
    c.index-found.ensures in
    let from = c.requires.traced.labels c.args.k own there in
    rw (from.depth, at-same vs own.at from.from u from.at e)

pub returns-clause-way : goal.returns-clause-way
returns-clause-way c = λ f e.
    let vs = c.args.search.now.visits.items in
    let fs = c.args.search.now.found.items in
    let own = c.index-found.result.now in
    let there : slice_get fs c.args.k ≡ Some own = slice_get_read fs (length fs) c.args.k own refl c.requires.place
    c.index-found.ensures in
    rw (c.in_ok-runs.ensures, at-same fs c.args.k own f there e)

pub returns-clause-unfolds : goal.returns-clause-unfolds
returns-clause-unfolds c = λ f e.
    let way = found_way c.args.search.now.visits.items f in
    rw (returns-clause-way c f e, reverse-reverse (runs_of way), unfolded_runs way)

pub returns-clause-differ : goal.returns-clause-differ
returns-clause-differ c =
    let (f, e) = get-some c.args.search.now.found.items c.args.k c.requires.place in
    let way = found_way c.args.search.now.visits.items f in
    rw (returns-clause-way c f e, reverse-reverse (runs_of way)) (are_runs way)
