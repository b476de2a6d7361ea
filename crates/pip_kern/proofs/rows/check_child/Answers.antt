use Rattle.std.proofs.Common.{Some, refl}
use Rattle.pip_kern.proofs.Calls.{child_stands}
use Rattle.pip_kern.proofs.Tested.{place_passed}
use Rattle.pip_kern.proofs.rows.check_child.Goals as goal

pub child_at-requires-clause-place : goal.child_at-requires-clause-place
child_at-requires-clause-place g c =
    place_passed c.args.places.now c.args.d c.requires.named c.in_ok-check_places.ensures.0

pub returns-in-Some-clause-stands : goal.returns-in-Some-clause-stands
returns-in-Some-clause-stands g c =
    let s = c.requires.stands in
    child_stands (g.M.Frames.memory c.args.mem.now) c.args.caller c.args.d c.in-Some.child (Some c.in-Some.child) refl s
    (c.in-Some.ensures.child s.tree s.node s.sound s.laid s.found)
