use Rattle.pip_apart.proofs.OnMachines.{root_stands, taken_tells}
use Rattle.pip_apart.proofs.searching.find_out.Goals as goal

pub first_taken-line-requires : goal.first_taken-line-requires
first_taken-line-requires g c =
    let (w, s) = c.requires.stands in root_stands c.args.machine w _ s c.mem.ensures

pub returns-clause-known : goal.returns-clause-known
returns-clause-known g c w s = record {
  sound = s.bare.sound;
  found = c.in_ok-guests.ensures.found w s;
  root_is = c.root_on-root.ensures w s;
  line_is = taken_tells c.args.machine w _ c.first_taken-line.result s c.mem.ensures c.first_taken-line.ensures;
}
