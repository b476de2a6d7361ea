use Rattle.pip_commands.specs.Dues.{due_of}
use Rattle.pip_command_contracts.proofs.Answered.{inputs_are_answered}
use Rattle.pip_commands.proofs.laws.law_inputs_answered.Goals as goal

pub returns : goal.returns
returns c = inputs_are_answered due_of
