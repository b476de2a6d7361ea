-- The events with which a child is built, by what runs on cpu.
use Rattle.std.specs.Prelude.{ℕ, zero, suc, ◌+◌, ◌≤◌, if◌then◌else◌, List, [], ◌∷◌, ◌++◌, length, Result, Ok, Err}
use Rattle.pip_base.specs.declared.types.Size.TheVariants.{Word}
use Rattle.pip_model.specs.Events as E
use Rattle.pip_model.specs.Events.{Event}
use Rattle.pip_model.specs.Happens.{after}
use Rattle.pip_model.specs.Soak.{five}
use Rattle.pip_model.specs.Work.{events_work}
use Rattle.pip_model.specs.Worlds.{World}
use Rattle.pip_parent.specs.Built.{lists_more}
use Rattle.pip_parent.specs.Pool.{first_five, pool_at}
use Rattle.pip_parent.specs.Wants.{opened_before, opens, pages_used, place, want_at}
use Rattle.pip_parent.specs.declared.built.BuildError.{BuildError}
use Rattle.pip_parent.specs.declared.built.BuildError.TheVariants as B
use Rattle.pip_parent.specs.declared.built.Built.{Built}
use Rattle.pip_parent.specs.declared.wants.Want.{Want}

-- word 0 of that many pages of the pool, from place k on, becomes the address of the next
abbrev pub link_events : ℕ → List ℕ → ℕ → ℕ → List Event
link_events cpu pool k zero = []
link_events cpu pool k (suc n) =
    link_events cpu pool k n ++ E.Store cpu (pool_at pool (k + n)) Word (pool_at pool (k + n + 1)) ∷ []

-- the first five pages of the pool become the child
abbrev pub create_event : ℕ → List ℕ → Event
create_event cpu pool = E.Call cpu 0 (first_five pool)

-- the table for want i, where it is the first in its directory
abbrev pub table_events : ℕ → List ℕ → List Want → ℕ → List Event
table_events cpu pool ws i =
    if opens ws i
    then link_events cpu pool (pages_used ws i) (suc (suc (lists_more (opened_before ws i))))
    ++ E.Call cpu 3 (five (pool_at pool 0) (want_at ws i).va (pool_at pool (pages_used ws i)) 0 0) ∷ []
    else []

-- the page for want i is lent to the child
abbrev pub lend_event : ℕ → List ℕ → List Want → ℕ → Event
lend_event cpu pool ws i =
    E.Call cpu 5 (five (pool_at pool (place ws i)) (pool_at pool 0) (want_at ws i).va (want_at ws i).rights 0)

-- the child is made, and the wants before i are tried
abbrev pub events_before : ℕ → List ℕ → List Want → ℕ → List Event
events_before cpu pool ws zero = create_event cpu pool ∷ []
events_before cpu pool ws (suc i) =
    events_before cpu pool ws i ++ (table_events cpu pool ws i ++ lend_event cpu pool ws i ∷ [])

-- the child goes again
abbrev pub delete_event : ℕ → List ℕ → Event
delete_event cpu pool = E.Call cpu 1 (five (pool_at pool 0) 0 0 0 0)

-- all of them, by the answer
abbrev pub build_events : Result Built BuildError → ℕ → List ℕ → List Want → List Event
build_events (Ok b) cpu pool ws = events_before cpu pool ws (length ws)
build_events (Err (B.NoRight i)) cpu pool ws = events_before cpu pool ws (suc i) ++ delete_event cpu pool ∷ []
build_events (Err e) cpu pool ws = []

-- in each world for which a machine stands these events happen, and take no more steps than they may there
pub record MakesEvents (stands later : World → Type 0) (es : List Event) (before after_them : ℕ) : Type 0 where
  pub happen : (w : World) → stands w → later (after w es)
  pub most : (w : World) → stands w → after_them ≤ before + events_work w es
