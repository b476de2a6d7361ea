use Rattle.std.proofs.lemmas.Result.{err_from_is_err_and}
use Rattle.pip_kern.proofs.Climb.{part_node}
use Rattle.pip_grow.proofs.CountToMap.Call.{child_needs, count-accepted, count-refused}
use Rattle.pip_grow.proofs.calls.count_to_map.count_to_map.Goals as goal

pub returns-in_err-child-clause-answer : goal.returns-in_err-child-clause-answer
returns-in_err-child-clause-answer g c t x s lays found =
    let p = err_from_is_err_and c.from_residual.result c.from_residual.ensures.1 in
    rw (p.1, p.2) (count-refused t c.args.caller c.args.d c.args.cv c.in_err-child.field-0.0
    (c.in_err-child.ensures.child t x s lays found))

pub pages_needed-requires : goal.pages_needed-requires
pages_needed-requires g c =
    part_node (g.M.Frames.memory c.args.mem.now) c.in_ok-child.child c.in_ok-child.ensures.stands

pub returns-clause-answer : goal.returns-clause-answer
returns-clause-answer g c t x s lays found =
    let tested = c.in_ok-child.ensures.child t x s lays found in
    count-accepted t c.args.caller c.args.d c.args.cv c.pages_needed.result tested.0
    (child_needs t s (g.M.Frames.memory c.args.mem.now) lays c.args.caller c.args.d c.args.cv c.in_ok-child.child
    c.of_address.result c.pages_needed.result tested.1 c.of_address.ensures c.pages_needed.ensures.pages)
