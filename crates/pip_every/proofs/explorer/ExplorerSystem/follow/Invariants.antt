use Rattle.std.proofs.Common.{◌≡◌, length, take}
use Rattle.pip_search.specs.Systems.{after_way}
use Rattle.pip_every.specs.Choosing.{IsAtWorld}
use Rattle.pip_every.specs.Explored.{explored}
use Rattle.pip_every.specs.Keys.{IsKeyOf}
use Rattle.pip_every.specs.Menus.{menu_model}
use Rattle.pip_every.specs.Moments.{Moment}
use Rattle.pip_every.proofs.explorer.ExplorerSystem.follow.Given as goal

abbrev pub invariant-loop-choice : goal.invariant-loop-choice
invariant-loop-choice g l = record {
  count : length l.self.machine.cpus ≡ length l.fn.self.machine.cpus;
  lines : l.self.lines ≡ l.fn.self.lines;
  from : l.self.from ≡ l.fn.self.from;
  may : l.self.may ≡ l.fn.self.may;
  at : (m : Moment) → IsKeyOf g.F.First.words (explored l.fn.self).scope l.from m
      → IsAtWorld l.self.machine
      (after_way (menu_model g.F.First.words (explored l.fn.self)) m (take l.choice-index l.way)).world
      × (l.turns ≡ (after_way (menu_model g.F.First.words (explored l.fn.self)) m (take l.choice-index l.way)).turns);
}
