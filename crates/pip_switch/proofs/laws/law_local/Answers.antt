use Rattle.pip_switch.proofs.Isolating.{machines_depend_on_below, machines_leave_others_alone}
use Rattle.pip_switch.proofs.Isolating.{others_do_not_matter_to_machines}
use Rattle.pip_switch.proofs.laws.law_local.Goals as goal

pub returns : goal.returns
returns c = record {
  others = machines_leave_others_alone;
  depends = machines_depend_on_below;
  lists = others_do_not_matter_to_machines;
}
