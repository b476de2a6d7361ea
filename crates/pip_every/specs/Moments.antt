-- What can be chosen at a moment of a run over all interleavings, and what comes of it.
use Rattle.std.specs.Prelude.{ℕ, suc, ◌-◌, nat_lt, if◌then◌else◌, List, [], ◌∷◌, slice_index}
use Rattle.pip_base.specs.declared.outcome.Outcome.TheVariants as O
use Rattle.pip_model.specs.Acts.{Act, Makes, after_acts, text_of}
use Rattle.pip_model.specs.Events as E
use Rattle.pip_model.specs.Turn.{turn, turn_end}
use Rattle.pip_model.specs.Worlds.{World, boot_world_with}
use Rattle.pip_model.specs.declared.turn_end.TurnEnd.{TurnEnd}
use Rattle.pip_model.specs.declared.turn_end.TurnEnd.TheVariants as N

-- a world, and how many turns were made so far, counted no further than a search has to know. Every step of a run is a
-- turn, also that of a processor that runs nothing
pub record Moment : Type 0 where
  pub world : World
  pub turns : ℕ

-- what is searched: how many processors there are, the lines that may be raised, and from how many turns on
pub record Scope : Type 0 where
  pub cpus : ℕ
  pub lines : List ℕ
  pub from : ℕ

-- choice k is the turn of processor k, and those after the processors raise a line each. Before its time a line does
-- nothing
abbrev pub choice_acts : Scope → Moment → ℕ → List Act
choice_acts g m k = if nat_lt k g.cpus then turn m.world k 0
    else if nat_lt m.turns g.from then []
    else Makes (E.Raise (slice_index g.lines (k - g.cpus))) ∷ []

-- how many turns were made after one that ended so. One of a processor that runs nothing changes nothing else, and may
-- be made again as often as one likes: so it stands for as many as have to be counted
abbrev pub turns_after : ℕ → ℕ → TurnEnd → ℕ
turns_after from n (N.Polled O.Idle) = from
turns_after from n _ = if nat_lt n from then suc n else n

-- how many turns were made after a choice
abbrev pub turns_chosen : Scope → Moment → ℕ → ℕ
turns_chosen g m k = if nat_lt k g.cpus then turns_after g.from m.turns (turn_end m.world k) else m.turns

-- the moment after a choice
abbrev pub moment_after : Scope → Moment → ℕ → Moment
moment_after g m k = record { world = after_acts m.world (choice_acts g m k); turns = turns_chosen g m k }

-- what a choice shows: its line of a trace, as at step 0, or nothing
abbrev pub choice_label : Scope → Moment → ℕ → List ℕ
choice_label g m k = text_of (choice_acts g m k)

-- the moment from which a search begins at a world: no turn was made after it
abbrev pub moment_at : World → Moment
moment_at w = record { world = w; turns = 0 }

-- the first moment over n frames, with these words in the root's pages
abbrev pub first_moment : (ℕ → ℕ → ℕ) → ℕ → ℕ → Moment
first_moment words n c = moment_at (boot_world_with words n c)
