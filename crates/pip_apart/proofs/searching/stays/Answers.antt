use Rattle.pip_search.specs.Ways.{witnesses_of}
use Rattle.pip_search.specs.declared.searching.Extent.TheVariants.{Closed}
use Rattle.pip_apart.proofs.Telling.{labels_marked, none_marked, unmarked}
use Rattle.pip_apart.proofs.searching.stays.Goals as goal

pub returns-in-Closed-clause-leaves : goal.returns-in-Closed-clause-leaves
returns-in-Closed-clause-leaves c e =
    let d = c.in-Closed.depth in
    let vs = c.args.search.now.visits.items in
    let fs = c.args.search.now.found.items in (
      d,
      (
        c.in-Closed.is,
        rw c.in-Closed.is (none_marked (witnesses_of (Closed d) vs fs)
            (unmarked d vs fs c.some_marked.result c.some_marked.ensures e)),
      ),
    )

pub returns-in-Closed-clause-is : goal.returns-in-Closed-clause-is
returns-in-Closed-clause-is c =
    let d = c.in-Closed.depth in
    let vs = c.args.search.now.visits.items in
    let fs = c.args.search.now.found.items in
    cc (c.some_marked.ensures, labels_marked d vs fs, c.in-Closed.is)
