use Rattle.std.proofs.Common.{inl, inr}
use Rattle.pip_search_commands.specs.MenuReading.{menu_said}
use Rattle.pip_search_commands.specs.Searches.{told_text}
use Rattle.pip_search_commands.proofs.Searched.{searched}
use Rattle.pip_search_commands.proofs.commands.every.searching.end_search.Goals as goal

pub returns-in-Ok-show-clause-ends : goal.returns-in-Ok-show-clause-ends
returns-in-Ok-show-clause-ends g c = λ i b. inl (
  told_text c.args.begun.head c.in-Ok.told (menu_said c.args.menu.now),
  (
    searched (menu_said c.args.menu.now) c.args.states c.args.from c.args.depth c.args.start
        c.args.begun.head
        c.args.begun.mem.block.frames c.in-Ok.told i b c.in-Ok.ensures.found,
    inl (rw c.with_status.ensures, c.in-Ok-show.ensures.wrote),
  ),
)

pub returns-in-Ok-clause-ends : goal.returns-in-Ok-clause-ends
returns-in-Ok-clause-ends g c = λ i b. inl (
  told_text c.args.begun.head c.in-Ok.told (menu_said c.args.menu.now),
  (
    searched (menu_said c.args.menu.now) c.args.states c.args.from c.args.depth c.args.start
        c.args.begun.head
        c.args.begun.mem.block.frames c.in-Ok.told i b c.in-Ok.ensures.found,
    inr (
      rw c.with_status-in-Err-show.ensures,
      c.in-Err-show.ensures.wrote,
      c.in-Err-show.ensures.cause.failed,
    ),
  ),
)
