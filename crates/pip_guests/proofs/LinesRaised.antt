-- The premises of the law on lines of guests are met: a line is raised at step 0 for which the root has removed its
-- handler, so it stays pending, while two of the root's children have a turn each.
use Rattle.std.proofs.Common.{inl, inr, List, [], ◌∷◌, Some, refl, arith}
use Rattle.pip_base.specs.declared.types.Plan.{Plan}
use Rattle.pip_base.specs.declared.types.Size.TheVariants.{Word}
use Rattle.pip_model.specs.Events.{Event}
use Rattle.pip_model.specs.Events as E
use Rattle.pip_model.specs.Happens.{event}
use Rattle.pip_model.specs.Local.{IsAside}
use Rattle.pip_model.specs.Worlds.{IsSoundWorld, World, with_running}
use Rattle.pip_model.proofs.Events.Soundness.{cpu_runs, event-sound}
use Rattle.pip_guests.specs.Programs.{AreInsideTurns, IsRunAsAlone, NoneTaken, left, next_world, none, ready}
use Rattle.pip_guests.specs.Programs.{right}
use Rattle.pip_guests.proofs.Premises.{at, context, guest, made, made_sound, off_13, off_22, stays}
use Rattle.pip_guests.proofs.Programs.{lines_do_not_matter}
use Rattle.pip_guests.proofs.Turns.{poll_leaves}

-- entry 32 of the root's handler table becomes 0
abbrev removes : Event
removes = E.Store 0 0xfffff080 Word 0

abbrev deaf : World
deaf = (event made removes).world

deaf_sound : IsSoundWorld deaf
deaf_sound = event-sound made removes made_sound (omega arith, omega arith)

-- 13 and 22 run, and the root doesn't
abbrev guests : World
guests = with_running (with_running deaf 0 (Some (guest 13))) 1 (Some (guest 22))

guests_sound : IsSoundWorld guests
guests_sound =
    let one = cpu_runs deaf 0 (guest 13) deaf_sound (inr (inr (inl refl)))
    (inl (λ i. elim i [ inl e ↦ omega arith | inr j ↦ j ])) (context 0xfffff000 (omega arith)) in
    cpu_runs (with_running deaf 0 (Some (guest 13))) 1 (guest 22) one (inr (inl refl))
    (inl (λ i. elim i [ inl e ↦ omega arith | inr j ↦ j ])) (context 0xfffff000 (omega arith))

guests_aside : IsAside guests.tree 13 22
guests_aside = record { there = inr (inl refl); not_below = off_22; not_above = off_13 }

shown_13 : AreInsideTurns 13 guests (at 0 0 ∷ [])
shown_13 = (
  record {
    below = inl refl;
    inside = (stays 13 _ _ (refl, inl refl, tt, (λ h. h)), (stays 13 _ _ (refl, inl refl, tt, (λ h. h)), tt));
  },
  tt,
)

shown_22 : AreInsideTurns 22 guests (at 1 1 ∷ [])
shown_22 = (
  record {
    below = inl refl;
    inside = (stays 22 _ _ (refl, inl refl, tt, (λ h. h)), (stays 22 _ _ (refl, inl refl, tt, (λ h. h)), tt));
  },
  tt,
)

-- line 0 comes once, at the first of the two steps
abbrev plans : List Plan
plans = record { line = 0; first = 0; period = 0 } ∷ []

untaken : NoneTaken plans guests (at 0 0 ∷ at 1 1 ∷ [])
untaken = (
  poll_leaves (ready plans guests (at 0 0)) 0 (guest 13) refl refl,
  (poll_leaves (ready plans (next_world plans guests (at 0 0)) (at 1 1)) 1 (guest 22) refl refl, tt),
)

-- each runs as alone
lines_met : IsRunAsAlone plans 13 guests (at 0 0 ∷ at 1 1 ∷ []) (at 0 0 ∷ [])
    × IsRunAsAlone plans 22 guests (at 0 0 ∷ at 1 1 ∷ []) (at 1 1 ∷ [])
lines_met = lines_do_not_matter plans 13 22 guests (at 0 0 ∷ at 1 1 ∷ []) (at 0 0 ∷ []) (at 1 1 ∷ []) (record {
  sound = guests_sound;
  name = inr (inr (inl refl));
  aside = guests_aside;
  pending = refl;
  among = left (at 0 0) (right (at 1 1) none);
  first = shown_13;
  second = shown_22;
}) (omega arith, tt) untaken
