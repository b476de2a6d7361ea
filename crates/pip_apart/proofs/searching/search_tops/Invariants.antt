use Rattle.std.proofs.Common.{◌≡◌, length, map, take}
use Rattle.std.specs.List.{AllByRecursion}
use Rattle.pip_model.specs.Worlds.{World}
use Rattle.pip_apart.specs.Found.{IsFoundAt}
use Rattle.pip_apart.specs.Searches.{CanBeShown, IsGuestKey, alone_of}
use Rattle.pip_apart.proofs.searching.search_tops.Given as goal

-- the first guests were searched
abbrev pub invariant-loop-top : goal.invariant-loop-top
invariant-loop-top g l = record {
  count : length l.guest.machine.cpus ≡ length l.initial.guest.machine.cpus;
  tops : map (λ s. s.top) l.found.items ≡ take l.top-index l.fn.tops;
  each : (w : World) → IsGuestKey g.F.First.words (length l.initial.guest.machine.cpus) l.fn.start w
      → AllByRecursion (IsFoundAt g.F.First.words w l.fn.most l.fn.limit) (map alone_of l.found.items);
  shown : AllByRecursion CanBeShown l.found.items;
}
