-- A partition that runs there may have deeds.
use Rattle.std.proofs.Common.{◌<◌, length, sym, arith}
use Rattle.pip_every.proofs.Picking.{hostile_turn, root_at}
use Rattle.pip_every.proofs.explorer.Explorer.waits.Goals as goal

pub returns-clause-waits : goal.returns-clause-waits
returns-clause-waits g c w at =
    let s = c.args.self.now in
    let lt : c.args.choice < length s.machine.cpus = omega arith in
    hostile_turn c.args.choice (length s.machine.cpus) 1 w.tree.root.name _ _ _ s.may.items c.is_hostile.result lt
    c.is_hostile.ensures (sym (root_at s.machine w at)) (c.runs.ensures (record w { caches = s.machine.caches }) at)
    c.deref.ensures.value
