-- The premises of the laws of turns, and of lists of events, are met: the two children of the computed world have one
-- turn each, and one event each.
use Rattle.std.proofs.Common.{◌≡◌, false, inl, inr, [], ◌∷◌, refl, arith}
use Rattle.pip_model.specs.Acts.{after_acts, events_made}
use Rattle.pip_model.specs.Events.{Event, IsEvent}
use Rattle.pip_model.specs.Events as E
use Rattle.pip_model.specs.Happens.{event}
use Rattle.pip_model.specs.Lists.{has}
use Rattle.pip_model.specs.Local.{IsAside, actor}
use Rattle.pip_model.specs.Tree.{ancestry}
use Rattle.pip_model.specs.Turn.{turn}
use Rattle.pip_model.specs.Worlds.{IsSoundWorld, World}
use Rattle.pip_guests.specs.Guests.{IsApart, IsAsAlone, IsInside, PollsInVain, learns_all}
use Rattle.pip_guests.specs.Guests.{learns_own, left, none, only_guest}
use Rattle.pip_guests.specs.Guests.{right}
use Rattle.pip_guests.specs.Programs.{AllStayApart, AreOwnOrApartTurns, IsInsideTurn, Other, RunOnInputs, Slot, Turn}
use Rattle.pip_guests.specs.Programs.{ended, own, own_slots, own_turns, second, turn_of, turns, turns_among}
use Rattle.pip_guests.proofs.Elsewhere.{others_leave_guests_alone, same_world}
use Rattle.pip_guests.proofs.OnInputs.{programs_depend_on_inputs}
use Rattle.pip_guests.proofs.Premises.{aside, at, five, guest, inside_13, off_13, off_22, pair, pair_sound, stays}
use Rattle.pip_guests.proofs.Premises.{words}
use Rattle.pip_guests.proofs.Programs.{other_turns_do_not_matter, turn_apart}
use Rattle.pip_guests.proofs.Together.{guests_run_as_alone, others_do_not_matter_to_guests}
use Rattle.pip_guests.proofs.Turns.{poll_vain, turn_sound}

-- ---- turns of others left out

-- 13 has a turn, and then 22 has one
abbrev shown : World
shown = after_acts pair (turn_of pair (at 0 0))

shown_22 : IsInsideTurn 22 shown 1 1
shown_22 = record {
  below = inl refl;
  inside = (stays 22 _ _ (refl, inl refl, tt, (λ h. h)), (stays 22 _ _ (refl, inl refl, tt, (λ h. h)), tt));
}

pair_polls : PollsInVain pair 0
pair_polls = poll_vain pair 0 (guest 13) refl refl

shown_sound : IsSoundWorld shown
shown_sound = turn_sound pair 13 0 0 pair_sound pair_polls inside_13.0

fit : (w : World) (a b : Slot) → PollsInVain w a.cpu → IsInsideTurn 13 w a.cpu a.step
    → has (ancestry (after_acts w (turn_of w a)).tree (actor (after_acts w (turn_of w a)) (E.Poll b.cpu))) 13 ≡ false
    → AllStayApart 13 (after_acts w (turn_of w a)) (events_made (turn_of (after_acts w (turn_of w a)) b))
    → AreOwnOrApartTurns [] 13 w (a ∷ b ∷ [])
fit w a b vain i off apart = (inl (vain, i), (inr (off, apart), tt))

shown_aside : IsAside shown.tree 22 13
shown_aside = record { there = inr (inr (inl refl)); not_below = off_13; not_above = off_22 }

shown_apart : AllStayApart 13 shown (events_made (turn shown 1 1))
shown_apart = turn_apart 22 13 1 1 shown shown_sound (inr (inl refl)) shown_aside
    (poll_vain shown 1 (guest 22) refl refl) shown_22

turns_are : AreOwnOrApartTurns [] 13 pair (at 0 0 ∷ at 1 1 ∷ [])
turns_are = fit pair (at 0 0) (at 1 1) pair_polls inside_13.0 refl shown_apart

own_turn_13 : own_turns [] 13 pair (at 0 0 ∷ at 1 1 ∷ []) ≡ turns pair (own_slots [] 13 pair (at 0 0 ∷ at 1 1 ∷ []))
own_turn_13 = (other_turns_do_not_matter [] 13 pair (at 0 0 ∷ at 1 1 ∷ []) pair_sound (inr (inr (inl refl)))
    (λ e. omega arith) refl tt turns_are).acts

-- ---- a turn on inputs

-- between, 22 masks itself in one of the runs
abbrev masks : Event
masks = E.Call 1 10 (five 0 0 0 0 0)

masks_are : IsEvent masks
masks_are = let z = words 0 (omega arith) in (words 10 (omega arith), (z, (z, (z, (z, (z, tt))))))

masks_apart : IsApart 13 pair masks
masks_apart = others_leave_guests_alone pair 13 masks pair_sound masks_are (inr (inr (inl refl)))
    (λ e. omega arith) (inr aside)

on_inputs : RunOnInputs 13 pair (Turn (at 0 0) ∷ []) pair (Other masks ∷ Turn (at 0 0) ∷ [])
on_inputs = in_turn pair pair masks masks_are masks_apart inside_13.0 pair_polls
    (poll_vain (event pair masks).world 0 (guest 13) refl refl)
  where
    in_turn : (w v : World) (e : Event) → IsEvent e → IsApart 13 v e → IsInsideTurn 13 w 0 0 → PollsInVain w 0
        → PollsInVain (event v e).world 0 → RunOnInputs 13 w (Turn (at 0 0) ∷ []) v (Other e ∷ Turn (at 0 0) ∷ [])
    in_turn w v e ev h i vain vain' = second e ev h (own (at 0 0) i vain vain' ended)

same_turns : turns_among pair (Turn (at 0 0) ∷ []) ≡ turns_among pair (Other masks ∷ Turn (at 0 0) ∷ [])
same_turns = (programs_depend_on_inputs pair pair 13 _ _ pair_sound pair_sound (inr (inr (inl refl)))
    (λ e. omega arith) (same_world 13 pair) on_inputs).0

-- ---- events of others left out, and two guests side by side: 13 masks itself, and then 22 does

abbrev own_mask : Event
own_mask = E.Call 0 10 (five 0 0 0 0 0)

own_mask_is : IsEvent own_mask
own_mask_is = let z = words 0 (omega arith) in (words 10 (omega arith), (z, (z, (z, (z, (z, tt))))))

own_mask_inside : IsInside 13 pair own_mask
own_mask_inside = record { own = refl; below = inl refl; stays = tt; asks = λ h. cc }

masks_inside : IsInside 22 pair masks
masks_inside = record { own = refl; below = inl refl; stays = tt; asks = λ h. cc }

own_mask_after : IsInside 13 (event pair masks).world own_mask
own_mask_after = record { own = refl; below = inl refl; stays = tt; asks = λ h. cc }

left_out : (learns_own 13 pair (masks ∷ own_mask ∷ [])
    ≡ learns_all 13 pair (only_guest 13 pair (masks ∷ own_mask ∷ [])))
left_out = (others_do_not_matter_to_guests pair 13 (masks ∷ own_mask ∷ []) pair_sound (inr (inr (inl refl)))
    (λ e. omega arith) (masks_are, (own_mask_is, tt)) (inr masks_apart, (inl (inl own_mask_after), tt))).0

side_by_side : IsAsAlone 13 pair (own_mask ∷ masks ∷ []) (own_mask ∷ [])
    × IsAsAlone 22 pair (own_mask ∷ masks ∷ []) (masks ∷ [])
side_by_side = guests_run_as_alone pair 13 22 (own_mask ∷ masks ∷ []) (own_mask ∷ []) (masks ∷ []) pair_sound
    (inr (inr (inl refl))) aside (own_mask_is, (masks_are, tt)) (left own_mask (right masks none))
    (inl own_mask_inside, tt) (inl masks_inside, tt)
