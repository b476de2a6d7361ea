-- The key of a moment says what runs there.
use Rattle.std.proofs.Common.{false, arith}
use Rattle.pip_model.proofs.Trees.Ancestry.{root_is_one}
use Rattle.pip_every.specs.Choosing.{machine_menu}
use Rattle.pip_every.specs.Menus.{Menu}
use Rattle.pip_every.proofs.Keying.{can_read, key_begins}
use Rattle.pip_every.proofs.Picking.{its_is, others_is}
use Rattle.pip_every.proofs.explorer.Explorer.is_own.Goals as goal

pub name_at-name-requires-clause-begins : goal.name_at-name-requires-clause-begins
name_at-name-requires-clause-begins g c = can_read c.args.self.now.shape c.requires.key.1 c.cpus.ensures

pub name_at-name-requires-clause-cpu : goal.name_at-name-requires-clause-cpu
name_at-name-requires-clause-cpu g c = omega (arith, c.deed_cpu.ensures.there, c.cpus.ensures)

pub returns : goal.returns
returns g c none m k =
    let s = c.args.self.now in
    let all : Menu = machine_menu s.machine s.lines.items s.from s.may.items in
    let runs = c.name_at-name.ensures m.world.cpus _ (key_begins s.shape k c.cpus.ensures) in
    let its = its_is m.world c.deed_cpu.result _ c.name_at-name.result c.deed.result c.is_its.result false
    c.is_its.ensures none (root_is_one m.world.tree k.stands.sound.tree) runs c.deed_cpu.ensures.cpu in
    others_is all m.world c.args.choice c.deed.result c.deed.ensures its
