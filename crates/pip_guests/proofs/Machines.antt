-- The laws of whole guests, said of machines: a run of a machine is one of the model.
use Rattle.std.proofs.Common.{◌≡◌, ℕ, cond, List, [], ◌∷◌, refl, sym, ap, ◌∙◌, subst}
use Rattle.pip_model.specs.Acts.{after_acts, events_made}
use Rattle.pip_model.specs.Events.{Event}
use Rattle.pip_model.specs.Happens.{after, event, outcomes}
use Rattle.pip_model.specs.Worlds.{World}
use Rattle.pip_model.proofs.OnLists.Acts.{after-events}
use Rattle.pip_switch.specs.Standing.{StandsAs}
use Rattle.pip_switch.proofs.Isolating.{runs_are_the_models}
use Rattle.pip_guests.specs.Guests.{Leaves, is_of_guest, learns, learns_all, learns_own, only_guest}
use Rattle.pip_guests.specs.Machines.{MachinesAreLeftAlike, MachinesDependOnGuests, MachinesDependOnInputs}
use Rattle.pip_guests.specs.Machines.{MachinesKeepGuestsApart, MachinesLeaveGuestsAlone, MachinesLeaveOtherGuestsAlone}
use Rattle.pip_guests.specs.Machines.{MachinesRunGuestsAsAlone, MachinesRunOnInputs, told_all, told_own}
use Rattle.pip_guests.specs.Programs.{all_steps}
use Rattle.pip_guests.proofs.Elsewhere.{elsewhere_kept, guests_leave}
use Rattle.pip_guests.proofs.Inputs.{guests_depend_on_inputs}
use Rattle.pip_guests.proofs.Inside.{inside_same}
use Rattle.pip_guests.proofs.Leaving.{guests_are_left_alike}
use Rattle.pip_guests.proofs.OnInputs.{steps_depend_on_inputs}
use Rattle.pip_guests.proofs.Together.{guests_run_as_alone, others_do_not_matter_to_guests}

pub machines_leave_other_guests_alone : MachinesLeaveOtherGuestsAlone
machines_leave_other_guests_alone m n e o p takes is own w stands not_root below =
    let (told, then) = takes w stands in
    ((event w e).world, then, guests_leave w p e stands.bare.sound is not_root own below)

pub machines_depend_on_guests : MachinesDependOnGuests
machines_depend_on_guests m n m2 n2 e o o2 p takes takes2 is w w2 s s2 not_root same inside =
    let (told, then) = takes w s in
    let (told2, then2) = takes2 w2 s2 in
    let z = inside_same w w2 p e s.bare.sound s2.bare.sound is not_root same inside in (
      cc (z.outcome),
      record {
        left = (event w e).world;
        right = (event w2 e).world;
        stands_left = then;
        stands_right = then2;
        guest = z.guest;
      },
    )

pub machines_are_left_alike : MachinesAreLeftAlike
machines_are_left_alike m n m2 n2 e o o2 p takes takes2 is w w2 s s2 not_root same leaving =
    let (told, then) = takes w s in
    let (told2, then2) = takes2 w2 s2 in
    let z = guests_are_left_alike w w2 p e s.bare.sound s2.bare.sound is not_root same leaving in (
      rw told2 z.leaving.leaves,
      record {
        left = (event w e).world;
        right = (event w2 e).world;
        stands_left = then;
        stands_right = then2;
        guest = z.guest;
      },
    )

pub machines_leave_guests_alone : MachinesLeaveGuestsAlone
machines_leave_guests_alone m n e o p takes is w stands there not_root elsewhere =
    let (told, then) = takes w stands in
    ((event w e).world, then, (elsewhere_kept w p e stands.bare.sound is there not_root elsewhere).guest)

-- ---- over lists

-- what the guest learns in the model is what it learns of the machine's answers, which are the model's
told_are_all : (p : ℕ) (w : World) (es : List Event) → told_all p w es (outcomes w es) ≡ learns_all p w es
told_are_all p w [] = refl
told_are_all p w (e ∷ es) = rw (told_are_all p (event w e).world es)

told_are_own : (p : ℕ) (w : World) (es : List Event) → told_own p w es (outcomes w es) ≡ learns_own p w es
told_are_own p w [] = refl
told_are_own p w (e ∷ es) =
    rw (told_are_own p (event w e).world es)

pub machines_keep_guests_apart : MachinesKeepGuestsApart
machines_keep_guests_apart w p es m n m2 n2 os os2 s s2 all few there not_root are fit =
    let (told, last) = runs_are_the_models m n es os all w s in
    let (told2, last2) = runs_are_the_models m2 n2 (only_guest p w es) os2 few w s2 in
    let (same, guest) = others_do_not_matter_to_guests w p es s.bare.sound there not_root are fit in (
      rw (told, told_are_own p w es, same, ← told_are_all p w (only_guest p w es), ← told2),
      record {
        left = after w es;
        right = after w (only_guest p w es);
        stands_left = last;
        stands_right = last2;
        guest = guest;
      },
    )

pub machines_run_guests_as_alone : MachinesRunGuestsAsAlone
machines_run_guests_as_alone w p q es xs ys m n m1 n1 m2 n2 os os1 os2 s s1 s2 all one two there aside are among first
    second =
    let (told, last) = runs_are_the_models m n es os all w s in
    let (told1, last1) = runs_are_the_models m1 n1 xs os1 one w s1 in
    let (told2, last2) = runs_are_the_models m2 n2 ys os2 two w s2 in
    let (a, b) = guests_run_as_alone w p q es xs ys s.bare.sound there aside are among first second in (
      ap (told_own p w es) told ∙ told_are_own p w es ∙ a.answers
          ∙ sym (ap (told_all p w xs) told1 ∙ told_are_all p w xs),
      record { left = after w es; right = after w xs; stands_left = last; stands_right = last1; guest = a.guest },
      ap (told_own q w es) told ∙ told_are_own q w es ∙ b.answers
          ∙ sym (ap (told_all q w ys) told2 ∙ told_are_all q w ys),
      record { left = after w es; right = after w ys; stands_left = last; stands_right = last2; guest = b.guest },
    )

pub machines_depend_on_inputs : MachinesDependOnInputs
machines_depend_on_inputs w v p es fs m n m2 n2 os os2 s s2 all all2 there not_root same are are2 alike =
    let (told, last) = runs_are_the_models m n es os all w s in
    let (told2, last2) = runs_are_the_models m2 n2 fs os2 all2 v s2 in
    let (learnt, guest) =
    guests_depend_on_inputs w v p es fs s.bare.sound s2.bare.sound there not_root same are are2 alike in (
      rw (told, told_are_own p w es, learnt, ← told_are_own p v fs, ← told2),
      record { left = after w es; right = after v fs; stands_left = last; stands_right = last2; guest = guest },
    )

pub machines_run_on_inputs : MachinesRunOnInputs
machines_run_on_inputs w v p plans plans2 ss rs m n m2 n2 os os2 s s2 all all2 there not_root same inputs =
    let es = events_made (all_steps plans w ss) in
    let fs = events_made (all_steps plans2 v rs) in
    let (told, last) = runs_are_the_models m n es os all w s in
    let (told2, last2) = runs_are_the_models m2 n2 fs os2 all2 v s2 in
    let (turns, guest) =
    steps_depend_on_inputs w v p plans plans2 ss rs s.bare.sound s2.bare.sound there not_root same inputs in (
      turns,
      record {
        left = after_acts w (all_steps plans w ss);
        right = after_acts v (all_steps plans2 v rs);
        stands_left = rw (after-events w (all_steps plans w ss)) last;
        stands_right = rw (after-events v (all_steps plans2 v rs)) last2;
        guest = guest;
      },
    )
