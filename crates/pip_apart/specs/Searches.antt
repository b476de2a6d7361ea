-- What searches of guests found, as the model's values.
use Rattle.std.specs.Prelude.{◌≡◌, ℕ, List, length, map}
use Rattle.pip_base.specs.Memory.{Memory}
use Rattle.pip_model.specs.Worlds.{World}
use Rattle.pip_every.specs.Keys.{IsKeyOf}
use Rattle.pip_search.specs.Ways.{AreTraced, witnesses_of}
use Rattle.pip_every.specs.Told.{AreWaysOf, runs_to}
use Rattle.pip_apart.specs.Alone.{turns_scope}
use Rattle.pip_apart.specs.Found.{GuestAlone, Known}
use Rattle.pip_apart.specs.declared.searching.GuestSearch.{GuestSearch}
use Rattle.pip_apart.specs.declared.searching.Knowledge.{Knowledge}

-- a world has this key, of a machine with so many processors
abbrev pub IsGuestKey : Memory → ℕ → List ℕ → World → Type 0
IsGuestKey first count key w = IsKeyOf first (turns_scope count) key (record { world = w; turns = 0 })

-- what a search of a guest found
abbrev pub alone_of : GuestSearch → GuestAlone
alone_of s = record {
  top = s.top;
  cpus = s.cpus.items;
  lines = witnesses_of s.end s.search.visits.items s.search.found.items;
  count = length s.search.visits.items;
  end = s.end;
}

-- the ways are those of the labels, and each choice of those that were covered is one of the guest's processors
pub record CanBeShown (s : GuestSearch) : Type 0 where
  pub ways : map (λ way. way.items) s.ways.items ≡ runs_to s.search.visits.items s.search.found.items
  pub traced : AreTraced s.search.visits.items s.search.found.items
  pub known : AreWaysOf (length s.cpus.items) (witnesses_of s.end s.search.visits.items s.search.found.items)

-- what is known
abbrev pub known_of : Knowledge → Known
known_of k = record { guests = map alone_of k.guests.items; root = k.root; line = k.line }
