use Rattle.std.proofs.Common.{rules, ◌≤◌, ◌*◌, ◌^◌, subst, sym}
use Rattle.pip_slots.specs.Slots.{plan_steps}
use Rattle.pip_lab_commands.proofs.Rounds.{rounds_few}
use Rattle.pip_lab_commands.proofs.commands.slots.SlottedScheduling.run.Goals as goal

pub run_rounds-requires-clause-few : goal.run_rounds-requires-clause-few
run_rounds-requires-clause-few g c =
    let rounds = c.args.self.rounds in
    subst (λ r. plan_steps r * rounds ≤ 2 ^ 63) (sym (search rules))
    (rounds_few rounds c.args.self.round.items c.args.children.items c.requires.fits.steps)
