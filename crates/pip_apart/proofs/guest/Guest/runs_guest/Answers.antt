use Rattle.pip_apart.proofs.Machines.{none_runs, part_below, part_stands}
use Rattle.pip_apart.proofs.guest.Guest.runs_guest.Goals as goal

pub is_below-requires : goal.is_below-requires
is_below-requires g c = let (w, s) = c.requires.stands in
    part_stands c.args.self.now.machine w _ c.args.cpu c.in-Some.part s c.mem.ensures
    (rw (← c.runs.ensures w s) c.in-Some.is)

pub returns-in-Some-clause-runs : goal.returns-in-Some-clause-runs
returns-in-Some-clause-runs g c w s =
    part_below c.args.self.now.machine w _ c.args.self.now.top c.args.cpu c.in-Some.part c.is_below.result s
    c.mem.ensures (rw (← c.runs.ensures w s) c.in-Some.is) c.is_below.ensures.below

pub returns-in-None-clause-runs : goal.returns-in-None-clause-runs
returns-in-None-clause-runs g c w s =
    none_runs c.args.self.now.machine w c.args.self.now.top c.args.cpu s (rw (← c.runs.ensures w s) c.in-None.is)
