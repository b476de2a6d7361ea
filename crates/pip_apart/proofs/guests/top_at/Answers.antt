use Rattle.pip_apart.proofs.Machines.{part_stands}
use Rattle.pip_apart.proofs.OnMachines.{none_tells, top_tells}
use Rattle.pip_apart.proofs.guests.top_at.Goals as goal

pub top_of-requires : goal.top_of-requires
top_of-requires g c = let (w, s) = c.requires.stands in
    part_stands c.args.machine.now w _ c.args.cpu c.in-Some.part s c.mem.ensures
    (rw (← c.runs.ensures w s) c.in-Some.is)

pub returns-in-Some : goal.returns-in-Some
returns-in-Some g c w s =
    top_tells c.args.machine.now w _ c.args.cpu c.in-Some.part c.top_of.result s c.mem.ensures
    (rw (← c.runs.ensures w s) c.in-Some.is) c.top_of.ensures

pub returns-in-None : goal.returns-in-None
returns-in-None g c w s = none_tells w c.args.cpu (rw (← c.runs.ensures w s) c.in-None.is)
