-- What runs there waited, or did a deed.
use Rattle.pip_every.specs.Choosing.{machine_menu}
use Rattle.pip_every.proofs.Choosing.{chosen_from_menu}
use Rattle.pip_every.proofs.explorer.Explorer.act.Goals as goal

pub returns-in-Ok-clause-made : goal.returns-in-Ok-clause-made
returns-in-Ok-clause-made g c m k at same =
    let s = c.args.self.now in
    chosen_from_menu (machine_menu s.machine s.lines.items s.from s.may.items) m k s.machine c.act_from_menu.new.port
    c.args.cpu c.args.deed.now c.args.turns c.turns_after.result s.label.bytes.items
    c.act_from_menu.new.sink.bytes.items same c.turns_after.ensures c.requires.empty
    (c.in-Ok.ensures.acts (record m.world { caches = s.machine.caches }) at)
