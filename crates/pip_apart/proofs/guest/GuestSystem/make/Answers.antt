-- A choice leads from each world of its key to the one after the turn, or stays there.
use Rattle.std.proofs.slice.Lists.{any-default}
use Rattle.std.proofs.Common.{◌≡◌, ◌∙◌, ◌<◌, ◌++◌, [], ◌∷◌, ap, ap₂, subst, length, slice_index}
use Rattle.pip_every.specs.Keys.{IsKeyOf}
use Rattle.pip_apart.specs.Alone.{guest_label, guest_world, turns_scope}
use Rattle.pip_apart.proofs.Turned.{chose_at, if_both, if_made, leads_kept, leads_left}
use Rattle.pip_apart.proofs.guest.GuestSystem.make.Goals as goal

pub returns-then-kept-clause-leads : goal.returns-then-kept-clause-leads
returns-then-kept-clause-leads g c =
    let s = c.args.self.now in
    let first = g.F.First.words in
    let n = length s.machine.cpus in
    let cpu = c.index-cpu.result.now in
    let q = c.take_turn.new.self.machine in
    let label = c.take_turn.new.self.label.bytes.items in
    let lt : c.args.choice < length s.cpus.items = c.requires.choice in
    let cpu_is : cpu ≡ slice_index s.cpus.items c.args.choice =
    c.index-cpu.ensures ∙ any-default s.cpus.items c.args.choice cpu 0 lt in
    let shows : c.extend_from_slice.new.self.items ≡ label =
    c.in_ok-extend_from_slice.ensures.items ∙ ap₂ (λ x y. x ++ y) c.clear-2.ensures.items c.bytes.ensures in
    let count = c.take_turn.ensures.count ∙ c.go_to-2.ensures.count ∙ c.asks-asks.ensures.count
    ∙ c.go_to.ensures.count in
    if_both c.add_key.result _ _ _ c.add_key.ensures.key c.add_key.ensures.count (λ x key frames w k.
    let h = chose_at first n s.top c.go_to.new.self.top c.go_to-2.new.self.top cpu c.args.from.now w
    c.go_to.new.self.machine c.asks-asks.new.self.machine c.go_to-2.new.self.machine q c.asks-asks.result
    c.in_ok-kept.kept label k c.go_to.ensures.at c.go_to.ensures.top c.asks-asks.ensures.asks
    (c.asks-asks.ensures.count ∙ c.go_to.ensures.count) c.go_to-2.ensures.at
    (c.go_to-2.ensures.top ∙ c.asks-asks.ensures.top ∙ c.go_to.ensures.top) c.in_ok-kept.ensures.turned in
    let y = leads_kept first n s.top cpu w q label c.add_key.new.to.items
    (rw (← c.if-kept.true) h) frames count
    (rw (key, c.clear.ensures.items)) in
    let z = subst (λ d. IsKeyOf first (turns_scope n) c.add_key.new.to.items
    (record { world = guest_world s.top w d; turns = 0 }) × (label ≡ guest_label s.top w d)) cpu_is y in
    (z.0, shows ∙ z.1))

pub returns-clause-leads : goal.returns-clause-leads
returns-clause-leads g c =
    let s = c.args.self.now in
    let first = g.F.First.words in
    let n = length s.machine.cpus in
    let cpu = c.index-cpu.result.now in
    let q = c.take_turn.new.self.machine in
    let label = c.take_turn.new.self.label.bytes.items in
    let lt : c.args.choice < length s.cpus.items = c.requires.choice in
    let cpu_is : cpu ≡ slice_index s.cpus.items c.args.choice =
    c.index-cpu.ensures ∙ any-default s.cpus.items c.args.choice cpu 0 lt in
    let shows : c.extend_from_slice-2.new.self.items ≡ 33 ∷ label =
    c.in_ok-extend_from_slice-2.ensures.items ∙ ap₂ (λ x y. x ++ y) (c.in_ok-push.ensures.items
    ∙ ap (λ v. v ++ 33 ∷ []) c.clear-2.ensures.items) c.bytes-2.ensures in
    if_made c.extend_from_slice-3.result _ _ _ _ c.extend_from_slice-3.ensures.items (λ x made w k.
    let same : c.extend_from_slice-3.new.self.items ≡ c.args.from.now =
    rw (made, c.clear.ensures.items) in
    let h = chose_at first n s.top c.go_to.new.self.top c.go_to-2.new.self.top cpu c.args.from.now w
    c.go_to.new.self.machine c.asks-asks.new.self.machine c.go_to-2.new.self.machine q c.asks-asks.result
    c.in_ok-kept.kept label k c.go_to.ensures.at c.go_to.ensures.top c.asks-asks.ensures.asks
    (c.asks-asks.ensures.count ∙ c.go_to.ensures.count) c.go_to-2.ensures.at
    (c.go_to-2.ensures.top ∙ c.asks-asks.ensures.top ∙ c.go_to.ensures.top) c.in_ok-kept.ensures.turned in
    let y = leads_left first n s.top cpu w q label c.args.from.now
    (rw (← c.if-kept.false) h) k in
    let z = subst (λ d. IsKeyOf first (turns_scope n) c.args.from.now
    (record { world = guest_world s.top w d; turns = 0 }) × (33 ∷ label ≡ guest_label s.top w d)) cpu_is y in (
      rw same z.0,
      shows ∙ z.1,
    ))
