use Rattle.std.proofs.Common.{rules, ◌≤◌, ◌+◌, ◌-◌, ◌++◌, arith, subst, ap, ◌∙◌}
use Rattle.pip_io.specs.Taken.{Appends}
use Rattle.pip_io.proofs.Taken.{Appends-trans}
use Rattle.pip_io.specs.Gathering.{between}
use Rattle.pip_io.proofs.Gathered.{between_front, between_joined}
use Rattle.pip_io.proofs.gather.write_between.Goals as goal

pub loop-place-preserved : goal.loop-place-preserved
loop-place-preserved g c =
    let xs = c.args.bytes.now in
    let place = c.loop-place.place in
    let taken = c.in-Ok.taken in
    let loop = c.loop-place.invariant in
    let low = loop.least in
    let bound = c.in-Ok.ensures.bound in
    let few : taken ≤ c.args.end - place = search rules in
    let high : place + taken ≤ c.args.end = omega arith in
    record {
      least = omega arith;
      most = high;
      written = rw (
        ← between_joined xs c.args.start place (place + taken) low (omega arith),
        ← between_front xs place c.args.end taken few,
      ) (Appends-trans _ _ _ _ _ loop.written c.in-Ok.ensures.bytes);
      no_faults = c.in-Ok.ensures.cause.no_faults ∙ loop.no_faults;
    }
