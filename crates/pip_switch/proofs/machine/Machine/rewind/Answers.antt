-- The world of the words and the processors, with the emptied caches.
use Rattle.std.proofs.Common.{◌≡◌, ◌∙◌, ℕ, ap, length, subst, sym}
use Rattle.pip_base.specs.Memory.{Memory}
use Rattle.pip_switch.specs.Standing.{HasWorld, State}
use Rattle.pip_switch.proofs.Elsewhere.{rewound_world}
use Rattle.pip_switch.proofs.machine.Machine.rewind.Goals as goal

pub invariant_of-self : goal.invariant_of-self
invariant_of-self g c =
    let P : Memory → Type 0 = λ m. HasWorld m c.args.cpus.items in
    let count : State → ℕ = λ p. length p.cpus in
    let each : length c.self.inside.caches.items ≡ length c.args.cpus.items =
    c.self.invariant.stands.each ∙ (ap count c.self.view_is ∙ sym c.requires.count) in
    rewound_world _ _ _ _ c.empty_all.ensures each (subst P (sym c.rewind.ensures) c.requires.world)

pub invariant_of-self-inside : goal.invariant_of-self-inside
invariant_of-self-inside g c =
    let P : Memory → Type 0 = λ m. HasWorld m c.args.cpus.items in
    let count : State → ℕ = λ p. length p.cpus in
    let each : length c.self.inside.caches.items ≡ length c.args.cpus.items =
    c.self.invariant.stands.each ∙ (ap count c.self.view_is ∙ sym c.requires.count) in
    (∣ rewound_world _ _ _ _ c.empty_all.ensures each (subst P (sym c.rewind.ensures) c.requires.world) ∣₁, tt)
