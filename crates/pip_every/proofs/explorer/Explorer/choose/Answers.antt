-- A hostile partition waits in the place of its turn.
use Rattle.std.proofs.Common.{◌<◌, None, arith}
use Rattle.pip_every.specs.Choosing.{machine_menu}
use Rattle.pip_every.specs.Menus.{Hostile, Menu, usual_choices}
use Rattle.pip_every.proofs.Keying.{if_ok}
use Rattle.pip_every.proofs.Picking.{as_picked, waits_is}
use Rattle.pip_every.proofs.explorer.Explorer.choose.Goals as goal

pub returns-then-waits-clause-made : goal.returns-then-waits-clause-made
returns-then-waits-clause-made g c = if_ok c.act.result _ _ (λ n e m at same.
    let s = c.args.self.now in
    let all : Menu = machine_menu s.machine s.lines.items s.from s.may.items in
    let lt : c.args.choice < usual_choices all =
    omega arith in
    as_picked all m c.args.choice (Hostile c.args.choice None) c.act.new.self.machine n
    c.act.new.self.label.bytes.items (waits_is all m.world c.args.choice lt
    (rw (← c.waits.ensures.waits m.world at) c.if-waits.true)) (e m c.args.choice at same)) c.act.ensures.made
