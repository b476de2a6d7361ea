-- Where no line is pending and none comes.
use Rattle.std.proofs.Common.{◌≡◌, ◌≢◌, ℕ, ◌<◌, Bool, true, false, cond, List, [], ◌∷◌, refl, ap, ◌∙◌, Some, None}
use Rattle.std.specs.List.{AllByRecursion}
use Rattle.pip_base.specs.declared.types.Plan.{Plan}
use Rattle.pip_model.specs.Acts.{Makes, after_acts}
use Rattle.pip_model.specs.Due.{is_due}
use Rattle.pip_model.specs.Events as E
use Rattle.pip_model.specs.Happens.{event}
use Rattle.pip_model.specs.Lists.{In}
use Rattle.pip_model.specs.Poll.{lowest_line, may_take, none_taken, poll_line}
use Rattle.pip_model.specs.Run.{raises}
use Rattle.pip_model.specs.Turn.{turn}
use Rattle.pip_model.specs.Worlds.{IsSoundWorld, World, nothing, runs_on, with_caches}
use Rattle.pip_model.specs.declared.processors.Occupant.{Occupant}
use Rattle.pip_model.proofs.Trees.Free.{IsName}
use Rattle.pip_guests.specs.Guests.{IsSameGuest, PollsInVain}
use Rattle.pip_guests.specs.Programs.{IsInsideTurn, NoneDue, Slot}
use Rattle.pip_guests.proofs.Turns.{poll_vain, quiet_after}
use Rattle.pip_apart.specs.Company.{AreGuests, GuestsHoldInCompany}
use Rattle.pip_apart.proofs.Running.{AreRaised, guests_hold}

-- no line is pending
abbrev IsQuiet : World → Type 0
IsQuiet w = w.tree.root.pending ≡ []

-- no line may be raised
abbrev Never : ℕ → Type 0
Never j = ⊥

idle_poll : (w : World) (cpu : ℕ) → IsSoundWorld w → IsQuiet w → runs_on w cpu ≡ None
    → event w (E.Poll cpu) ≡ nothing w
idle_poll w cpu s e k = rw (go (may_take w cpu (runs_on w cpu)), k)
  where
    go : (b : Bool) → cond b (poll_line w cpu (runs_on w cpu) (lowest_line w w.tree.root.pending))
        (none_taken w (runs_on w cpu)) ≡ none_taken w (runs_on w cpu)
    go true = rw e
    go false = refl

module _ (w0 : World) (ps : List ℕ) (g : AreGuests w0 ps) (plans : List Plan) where
  vain : (w : World) (cpu : ℕ) (r : Occupant) → IsSoundWorld w → IsQuiet w → runs_on w cpu ≡ Some r
      → PollsInVain w cpu
  vain w cpu r s e k = poll_vain w cpu r k e

  vain_alone : (w : World) (q cpu : ℕ) (r : Occupant) → IsSoundWorld w → IsQuiet w → runs_on w cpu ≡ Some r
      → PollsInVain w cpu
  vain_alone w q cpu r s e k = poll_vain w cpu r k e

  later_alone : (w : World) (q cpu t : ℕ) → IsSoundWorld w → IsName w.tree q → q ≢ w.tree.root.name → IsQuiet w
      → PollsInVain w cpu → IsInsideTurn q w cpu t → IsQuiet (after_acts w (turn w cpu t))
  later_alone w q cpu t s n m e v i = quiet_after w q cpu t s m e i

  later : (w : World) (q cpu t : ℕ) → In q ps → IsSoundWorld w → IsName w.tree q → q ≢ w.tree.root.name → IsQuiet w
      → PollsInVain w cpu → IsInsideTurn q w cpu t → IsSoundWorld (after_acts w (turn w cpu t))
      → ((p : ℕ) → In p ps → p ≢ q → IsName w.tree p × IsSameGuest p w (after_acts w (turn w cpu t)))
      → IsQuiet (after_acts w (turn w cpu t))
  later w q cpu t j s n m e v i r g = quiet_after w q cpu t s m e i

  line : (j : ℕ) → Never j → j < 16
  line j h = absurd h

  raised : (w : World) (j : ℕ) → IsSoundWorld w → IsQuiet w → Never j → IsQuiet (event w (E.Raise j)).world
  raised w j s e h = absurd h

  abbrev None_raised : List Plan → ℕ → Type 0
  None_raised xs t = AreRaised w0 ps g (λ q w. IsQuiet w) IsQuiet Never vain_alone later_alone vain later idle_poll
      line raised plans xs t

  none_raised : (xs : List Plan) (t : ℕ) → raises xs t ≡ [] → None_raised xs t
  none_raised [] t e = tt
  none_raised (x ∷ xs) t e = go (is_due x t) e (none_raised xs t)
    where
      go : (d : Bool) → cond d (Makes (E.Raise x.line) ∷ raises xs t) (raises xs t) ≡ []
          → (raises xs t ≡ [] → None_raised xs t) → (d ≡ true → ⊥) × None_raised xs t
      go true e more = cc
      go false e more = ((λ h. cc), more e)

  all_none : (ss : List Slot) → NoneDue plans ss → AllByRecursion (λ s. None_raised plans s.step) ss
  all_none [] d = tt
  all_none (s ∷ ss) d = (none_raised plans s.step d.0, all_none ss d.1)

pub guests_hold_in_company : GuestsHoldInCompany
guests_hold_in_company plans w ps ss g e due os p i =
    guests_hold w ps g (λ q w. IsQuiet w) IsQuiet Never (vain_alone w ps g plans) (later_alone w ps g plans)
    (vain w ps g plans) (later w ps g plans) idle_poll (line w ps g plans) (raised w ps g plans) plans ss e
    (λ q j. e) (all_none w ps g plans ss due) os p i
