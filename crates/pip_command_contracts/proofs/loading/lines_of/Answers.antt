use Rattle.pip_command_contracts.proofs.loading.lines_of.Goals as goal

pub new-requires : goal.new-requires
new-requires g c = c.requires.answer _ c.make.result c.make.ensures
