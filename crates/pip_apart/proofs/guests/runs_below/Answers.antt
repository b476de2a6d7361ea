use Rattle.pip_apart.proofs.Machines.{none_runs, part_below, part_stands}
use Rattle.pip_apart.proofs.guests.runs_below.Goals as goal

pub is_below-requires : goal.is_below-requires
is_below-requires g c = let (w, s) = c.requires.stands in
    part_stands c.args.machine.now w _ c.args.cpu c.in-Some.part s c.mem.ensures
    (rw (← c.runs.ensures w s) c.in-Some.is)

pub returns-in-Some : goal.returns-in-Some
returns-in-Some g c w s =
    part_below c.args.machine.now w _ c.args.top c.args.cpu c.in-Some.part c.is_below.result s
    c.mem.ensures (rw (← c.runs.ensures w s) c.in-Some.is) c.is_below.ensures.below

pub returns-in-None : goal.returns-in-None
returns-in-None g c w s =
    none_runs c.args.machine.now w c.args.top c.args.cpu s (rw (← c.runs.ensures w s) c.in-None.is)
