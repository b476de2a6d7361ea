-- Counts of what comes of events.
use Rattle.std.specs.Prelude.{◌≡◌, ℕ, ◌+◌, ◌^◌, ◌<◌, List, [], ◌∷◌, ◌++◌, length, count_by, slice_index}
use Rattle.pip_base.specs.declared.outcome.Outcome.{Outcome}
use Rattle.pip_model.specs.Events.{Event}
use Rattle.pip_model.specs.Happens.{after, outcomes}
use Rattle.pip_model.specs.Soak.{is_done, is_idle, is_parked, is_reply, is_switched, is_word}
use Rattle.pip_model.specs.Worlds.{World}
use Rattle.pip_soak.specs.declared.counts.Counts.{Counts}

-- these are the counts of the outcomes
pub record CountsOf (c : Counts) (os : List Outcome) : Type 0 where
  pub events : c.events ≡ length os
  pub words : c.words ≡ count_by is_word os
  pub done : c.done ≡ count_by is_done os
  pub switched : c.switched ≡ count_by is_switched os
  pub parked : c.parked ≡ count_by is_parked os
  pub idle : c.idle ≡ count_by is_idle os
  pub replies : (s : ℕ) → s < 19 → slice_index c.replies s ≡ count_by (is_reply s) os

-- counts that were those of some outcomes are those of one more, where the type has room
abbrev pub CountsOne : Counts → Counts → Outcome → Type 0
CountsOne old new o = (os : List Outcome) → length os + 1 < 2 ^ 32 → CountsOf old os → CountsOf new (os ++ o ∷ [])

-- from the worlds for which a machine stood before to those for which it stands after, these events were made and
-- counted
pub record MakesAll (before after_them : World → Type 0) (old new : Counts) (es : List Event) : Type 0 where
  pub worlds : (w : World) → before w → after_them (after w es)
  pub counts : (w : World) (os : List Outcome) → before w → length os + length es < 2 ^ 32 → CountsOf old os
      → CountsOf new (os ++ outcomes w es)
