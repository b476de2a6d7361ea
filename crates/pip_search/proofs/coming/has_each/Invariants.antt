use Rattle.std.proofs.Common.{ℕ, ◌<◌, slice_index}
use Rattle.pip_search.specs.Comes.{HasOneOf}
use Rattle.pip_search.proofs.coming.has_each.Given as goal

abbrev pub invariant-loop-class : goal.invariant-loop-class
invariant-loop-class l = (c : ℕ) → c < l.class-index → 0 < slice_index l.classes c
    → HasOneOf l.classes l.choices (slice_index l.classes c)
