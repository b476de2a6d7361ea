-- The key of the next moment was added, and what the choice shows.
use Rattle.std.proofs.Common.{◌≡◌, ◌∙◌, ◌++◌, ap, length, subst}
use Rattle.pip_every.specs.Choosing.{HasPicked, machine_menu}
use Rattle.pip_every.specs.Keys.{key_words}
use Rattle.pip_every.specs.Menus.{Menu, menu_after, menu_label, picked}
use Rattle.pip_every.proofs.Keying.{if_both, keyed, menu_is, scope_is}
use Rattle.pip_every.proofs.explorer.ExplorerSystem.make.Goals as goal

pub returns-clause-leads : goal.returns-clause-leads
returns-clause-leads g c = if_both c.add_next.result _ _ _ (λ x is frames m k.
    let s = c.args.self.now in
    let first = g.F.First.words in
    let all : Menu = machine_menu s.machine s.lines.items s.from s.may.items in
    let there = c.go_to-turns.new.self in
    let moved = c.go_to-turns.ensures in
    let same : machine_menu there.machine there.lines.items there.from there.may.items ≡ all =
    menu_is _ _ there.may.items s.may.items (scope_is (length there.machine.cpus) (length s.machine.cpus)
    there.lines.items s.lines.items there.from s.from moved.count (rw moved.lines) moved.from)
    (rw moved.may) in
    let q = c.choose.new.self.machine in
    let label = c.choose.new.self.label.bytes.items in
    let turns = c.in_ok-turns.turns in
    let at = moved.at m k in
    let made : HasPicked all m c.args.choice (picked all m.world c.args.choice) q turns label =
    subst (λ v. HasPicked v m c.args.choice (picked v m.world c.args.choice) q turns label) same
    (c.in_ok-turns.ensures.made m at.0 at.1) in (
      keyed first all.scope (menu_after all m c.args.choice) (menu_label all m c.args.choice) q turns label
          c.add_next.new.to.items made frames (c.in_ok-turns.ensures.count ∙ moved.count)
          (is ∙ ap (λ v. v ++ key_words first turns q.cpus q.memory) c.clear.ensures.items),
      rw (c.in_ok-extend_from_slice.ensures.items, c.clear-2.ensures.items, c.bytes.ensures, made.label_is),
    )) c.add_next.ensures.key c.add_next.ensures.count
