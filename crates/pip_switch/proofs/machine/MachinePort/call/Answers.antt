use Rattle.std.proofs.Common.{subst, sym}
use Rattle.pip_model.specs.Events as E
use Rattle.pip_model.specs.Answers.{five_of}
use Rattle.pip_switch.specs.Standing.{StandsAs}
use Rattle.pip_switch.proofs.Standing.{bare_world, follows, keeps_world}
use Rattle.pip_switch.proofs.machine.MachinePort.call.Goals as goal

pub call-requires-clause-world : goal.call-requires-clause-world
call-requires-clause-world g c = bare_world _ _ _ c.self.invariant

pub invariant_of-self : goal.invariant_of-self
invariant_of-self g c = keeps_world _ _ _ _ _ _ c.call.ensures.count c.call.ensures.each
    (λ w. E.Call c.args.cpu c.args.no (five_of c.args.args.now)) (λ w. c.call.result) (λ w s.
    (c.ranges.no.fits, c.call.ensures.words)) (λ w s. c.call.ensures.event w s.bare s.caches) c.self.invariant

pub invariant_of-self-inside : goal.invariant_of-self-inside
invariant_of-self-inside g c = (
  ∣ keeps_world _ _ _ _ _ _ c.call.ensures.count c.call.ensures.each
      (λ w. E.Call c.args.cpu c.args.no (five_of c.args.args.now)) (λ w. c.call.result) (λ w s.
      (c.ranges.no.fits, c.call.ensures.words)) (λ w s. c.call.ensures.event w s.bare s.caches) c.self.invariant ∣₁,
  tt,
)

pub returns-clause-event : goal.returns-clause-event
returns-clause-event g c w s = follows _ _ _ _ _ _ c.call.ensures.count c.call.ensures.each (λ w. E.Call c.args.cpu
    c.args.no (five_of c.args.args.now)) (λ w. c.call.result) (λ w s. (c.ranges.no.fits, c.call.ensures.words)) (λ w s.
    c.call.ensures.event w s.bare s.caches) w (subst (λ v. StandsAs v w) (sym c.self.view_is) s)

pub returns-clause-work : goal.returns-clause-work
returns-clause-work g c w s = c.call.ensures.work w (subst (λ v. StandsAs v w) (sym c.self.view_is) s).bare
