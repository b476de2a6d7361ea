use Rattle.std.proofs.Common.{◌<◌, length, refl, subst, sym}
use Rattle.std.specs.Prelude.{slice_set}
use Rattle.pip_base.specs.declared.outcome.Outcome.{Outcome}
use Rattle.pip_base.specs.declared.types.Ctx.{Ctx}
use Rattle.pip_model.specs.Events as E
use Rattle.pip_model.specs.Events.{Event}
use Rattle.pip_model.specs.Worlds.{World, ctx_on}
use Rattle.pip_switch.specs.Occupied.{on_cpu}
use Rattle.pip_switch.specs.Standing.{StandsAs}
use Rattle.pip_switch.proofs.Changed.{register_set}
use Rattle.pip_switch.proofs.Happening.{came_set, set_outcome}
use Rattle.pip_switch.proofs.Standing.{follows, keeps_world, quiet}
use Rattle.pip_switch.proofs.machine.MachinePort.set_register.Goals as goal

pub invariant_of-self : goal.invariant_of-self
invariant_of-self g c =
    let f : Ctx → Ctx = λ x. record { pc = c.args.pc; regs = slice_set x.regs c.args.register c.args.word } in
    let e : World → Event = λ w. E.SetContext c.args.cpu (f (ctx_on w c.args.cpu)) in
    let o : World → Outcome = λ w. set_outcome (on_cpu c.self.inside.cpus.items c.args.cpu) in
    let inside = subst (λ v. c.args.cpu < length v.cpus) (sym c.self.view_is) c.requires in
    keeps_world _ _ _ _ _ _ c.set_register.ensures.count refl e o (λ w s. register_set w s c.args.cpu c.args.pc
    c.args.register c.args.word c.ranges.pc.fits c.ranges.word.fits) (quiet _ _ _ _ _ e o
    (λ w. refl) (λ w s. came_set _ _ w s c.args.cpu f _ c.set_register.ensures.set inside)) c.self.invariant

pub invariant_of-self-inside : goal.invariant_of-self-inside
invariant_of-self-inside g c =
    let f : Ctx → Ctx = λ x. record { pc = c.args.pc; regs = slice_set x.regs c.args.register c.args.word } in
    let e : World → Event = λ w. E.SetContext c.args.cpu (f (ctx_on w c.args.cpu)) in
    let o : World → Outcome = λ w. set_outcome (on_cpu c.self.inside.cpus.items c.args.cpu) in
    let inside = subst (λ v. c.args.cpu < length v.cpus) (sym c.self.view_is) c.requires in (
      ∣ keeps_world _ _ _ _ _ _ c.set_register.ensures.count refl e o (λ w s. register_set w s c.args.cpu c.args.pc
          c.args.register c.args.word c.ranges.pc.fits c.ranges.word.fits) (quiet _ _ _ _ _ e o
          (λ w. refl) (λ w s. came_set _ _ w s c.args.cpu f _ c.set_register.ensures.set inside)) c.self.invariant ∣₁,
      tt,
    )

pub returns-clause-event : goal.returns-clause-event
returns-clause-event g c w s =
    let f : Ctx → Ctx = λ x. record { pc = c.args.pc; regs = slice_set x.regs c.args.register c.args.word } in
    let e : World → Event = λ w. E.SetContext c.args.cpu (f (ctx_on w c.args.cpu)) in
    let o : World → Outcome = λ w. set_outcome (on_cpu c.self.inside.cpus.items c.args.cpu) in
    let inside = subst (λ v. c.args.cpu < length v.cpus) (sym c.self.view_is) c.requires in
    (follows _ _ _ _ _ _ c.set_register.ensures.count refl e o
    (λ w s. register_set w s c.args.cpu c.args.pc c.args.register c.args.word c.ranges.pc.fits c.ranges.word.fits)
    (quiet _ _ _ _ _ e o (λ w. refl) (λ w s. came_set _ _ w s c.args.cpu f _ c.set_register.ensures.set inside)) w
    (subst (λ v. StandsAs v w) (sym c.self.view_is) s)).1
