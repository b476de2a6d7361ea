-- The laws of the model, said of machines.
use Rattle.std.proofs.Common.{◌≡◌, ℕ, cond, List, [], ◌∷◌, refl, sym, ap, ap₂, ◌∙◌, subst}
use Rattle.pip_base.specs.declared.outcome.Outcome.{Outcome}
use Rattle.pip_model.specs.Events.{Event}
use Rattle.pip_model.specs.Events as E
use Rattle.pip_model.specs.GiveBack.{creation, deletion}
use Rattle.pip_model.specs.Happens.{after, outcomes, event}
use Rattle.pip_model.specs.Local.{Succeeded, IsPlain, outcomes_below, by_below, cpu_of, only_below}
use Rattle.pip_model.specs.Tree.{Tree}
use Rattle.pip_model.specs.Worlds.{World}
use Rattle.pip_model.proofs.Events.GiveBack.{gives_back}
use Rattle.pip_model.proofs.Locality.OneEvent.{event-again, event-leaves}
use Rattle.pip_model.proofs.Locality.Runs.{others_do_not_matter}
use Rattle.pip_switch.specs.Isolation.{IsPlainTo, MachinesDependOnBelow, MachinesGiveBack, MachinesLeaveOthersAlone}
use Rattle.pip_switch.specs.Isolation.{OthersDoNotMatterToMachines, RunsAreTheModels, told_below}
use Rattle.pip_switch.specs.Standing.{StandsAs}
use Rattle.pip_switch.proofs.Running.{runs_there}

pub runs_are_the_models : RunsAreTheModels
runs_are_the_models p q [] [] h w s = (refl, subst (λ z. StandsAs z w) h s)
runs_are_the_models p q [] (o ∷ os) h w s = absurd h
runs_are_the_models p q (e ∷ es) [] h w s = absurd h
runs_are_the_models p q (e ∷ es) (o ∷ os) h w s =
    let (r, first, others) = h in
    let (told, stands) = first w s in
    let (answered, last) = runs_are_the_models r q es os others (event w e).world stands in
    (ap₂ (λ k ks. k ∷ ks) told answered, last)

-- an event that was plain by what it answered is so in the model
plain_there : (w : World) (e : Event) (o : Outcome) → o ≡ (event w e).outcome → IsPlainTo e o → IsPlain w e
plain_there w (E.Call cpu number a) o is h = h
plain_there w (E.Load cpu va size) o is h = subst Succeeded is h
plain_there w (E.Store cpu va size word) o is h = subst Succeeded is h
plain_there w (E.Fetch cpu) o is h = subst Succeeded is h
plain_there w (E.Trap cpu k a b) o is h = h
plain_there w (E.Raise j) o is h = h
plain_there w (E.Poll cpu) o is h = h
plain_there w (E.SetContext cpu c) o is h = h

pub machines_leave_others_alone : MachinesLeaveOthersAlone
machines_leave_others_alone p q e o r takes is plain runs w s =
    let (told, stands) = takes w s in (
      (event w e).world,
      stands,
      event-leaves w e r s.bare.sound is (plain_there w e o told plain)
          (runs_there p.memory p.cpus (cpu_of e) w s.bare ∙ runs),
    )

pub machines_depend_on_below : MachinesDependOnBelow
machines_depend_on_below p q p2 q2 e o o2 r takes takes2 is plain runs runs2 w w2 s s2 agree same =
    let (told, stands) = takes w s in
    let (told2, stands2) = takes2 w2 s2 in
    let k = event-again w w2 e r s.bare.sound s2.bare.sound is (plain_there w e o told plain) (runs_there p.memory
    p.cpus (cpu_of e) w s.bare ∙ runs) (runs_there p2.memory p2.cpus (cpu_of e) w2 s2.bare ∙ runs2) agree same in
    record {
      outcome = told ∙ k.outcome ∙ sym told2;
      left = (event w e).world;
      right = (event w2 e).world;
      stands_left = stands;
      stands_right = stands2;
      below = k.below;
      cpu = sym (runs_there q.memory q.cpus (cpu_of e) (event w e).world stands.bare) ∙ k.cpu
          ∙ runs_there q2.memory q2.cpus (cpu_of e) (event w2 e).world stands2.bare;
      run = k.run;
    }

-- what the model answers below a is what is told of all its answers
told_answers : (t : Tree) (a : ℕ) (w : World) (es : List Event)
    → told_below t a w es (outcomes w es) ≡ outcomes_below t a w es
told_answers t a w [] = refl
told_answers t a w (e ∷ es) =
    ap (λ os. cond (by_below t a w e) ((event w e).outcome ∷ os) os) (told_answers t a (event w e).world es)

pub others_do_not_matter_to_machines : OthersDoNotMatterToMachines
others_do_not_matter_to_machines w a es p q p2 q2 os os2 s s2 all few there are fit =
    let (told, last) = runs_are_the_models p q es os all w s in
    let (told2, last2) = runs_are_the_models p2 q2 (only_below w.tree a w es) os2 few w s2 in
    let (same, left) = others_do_not_matter w a es s.bare.sound there are fit in (
      ap (told_below w.tree a w es) told ∙ told_answers w.tree a w es ∙ same ∙ sym told2,
      (after w es, after w (only_below w.tree a w es), last, last2, left),
    )

pub machines_give_back : MachinesGiveBack
machines_give_back p q r s i a es os j b o o2 first all end is are is2 w x c stands life =
    let (told, makes) = first w stands in
    let (answered, lives) = runs_are_the_models q r es os all (creation w i a).world makes in
    let (told2, ends) = end (after (creation w i a).world es) lives in (
      (deletion (after (creation w i a).world es) j b).world,
      ends,
      gives_back w i a es j b x c stands.bare.sound is.1 are is2.1 life,
    )
