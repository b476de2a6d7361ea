use Rattle.std.proofs.Common.{◌∙◌, ap}
use Rattle.pip_command_contracts.specs.Planned.{lines_planned}
use Rattle.pip_search_commands.proofs.commands.every.searching.give_away.Goals as goal

pub returns : goal.returns
returns g c =
    let lines = c.as_slice-2.ensures.value ∙ (c.planned_lines-lines.ensures ∙ ap lines_planned c.as_slice.ensures.value)
    in
    rw (← lines) c.write_away.ensures
