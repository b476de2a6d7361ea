-- A deed of what runs there is done, and another one changes nothing.
use Rattle.std.proofs.Common.{◌≡◌, Some, true, false}
use Rattle.pip_every.specs.Choosing.{machine_menu}
use Rattle.pip_every.specs.Menus.{Hostile, Menu, Nothing, picked}
use Rattle.pip_every.proofs.Keying.{if_ok}
use Rattle.pip_every.proofs.Picking.{as_picked, its_is, nothing_made, others_is, own_is, root_at}
use Rattle.pip_every.proofs.explorer.Explorer.choose_deed.Goals as goal

pub returns-then-is_its-clause-made : goal.returns-then-is_its-clause-made
returns-then-is_its-clause-made g c = if_ok c.act.result _ _ (λ n e m at same.
    let s = c.args.self.now in
    let all : Menu = machine_menu s.machine s.lines.items s.from s.may.items in
    let d = c.deed-may.result in
    let cpu = c.deed_cpu-cpu.ensures.cpu in
    let its = its_is m.world c.deed_cpu-cpu.result _ c.runs.result d c.is_its.result true c.is_its.ensures
    c.if-is_its.true (root_at s.machine m.world at) (c.runs.ensures (record m.world { caches = s.machine.caches }) at)
    cpu in
    let own : picked all m.world c.args.choice ≡ Hostile c.deed_cpu-cpu.result (Some d.deed) =
    rw (own_is all m.world c.args.choice d c.deed-may.ensures its, ← cpu) in
    as_picked all m c.args.choice (Hostile c.deed_cpu-cpu.result (Some d.deed)) c.act.new.self.machine n
    c.act.new.self.label.bytes.items own (e m c.args.choice at same)) c.act.ensures.made

pub returns-clause-made : goal.returns-clause-made
returns-clause-made g c m at same =
    let s = c.args.self.now in
    let all : Menu = machine_menu s.machine s.lines.items s.from s.may.items in
    let d = c.deed-may.result in
    let its = its_is m.world c.deed_cpu-cpu.result _ c.runs.result d c.is_its.result false c.is_its.ensures
    c.if-is_its.false (root_at s.machine m.world at) (c.runs.ensures (record m.world { caches = s.machine.caches }) at)
    c.deed_cpu-cpu.ensures.cpu in
    as_picked all m c.args.choice Nothing s.machine c.args.turns s.label.bytes.items
    (others_is all m.world c.args.choice d c.deed-may.ensures its)
    (nothing_made all m c.args.choice s.machine c.args.turns s.label.bytes.items at same c.requires.empty)
