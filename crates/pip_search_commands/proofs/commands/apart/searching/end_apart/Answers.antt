use Rattle.std.proofs.Common.{inl, inr}
use Rattle.pip_search_commands.specs.ApartSearches.{knowledge_text}
use Rattle.pip_search_commands.proofs.ApartFound.{found_apart}
use Rattle.pip_search_commands.proofs.commands.apart.searching.end_apart.Goals as goal

pub returns-in-Ok-show-clause-ends : goal.returns-in-Ok-show-clause-ends
returns-in-Ok-show-clause-ends g c = λ i b. inl (
  knowledge_text c.args.begun.head c.in-Ok.known,
  (
    found_apart c.args.states c.args.count c.args.seed c.args.begun.head c.args.begun.mem.block.frames c.in-Ok.known i
        b c.in-Ok.ensures.known,
    inl (rw c.with_status.ensures, c.in-Ok-show.ensures.wrote),
  ),
)

pub returns-in-Ok-clause-ends : goal.returns-in-Ok-clause-ends
returns-in-Ok-clause-ends g c = λ i b. inl (
  knowledge_text c.args.begun.head c.in-Ok.known,
  (
    found_apart c.args.states c.args.count c.args.seed c.args.begun.head c.args.begun.mem.block.frames c.in-Ok.known i
        b c.in-Ok.ensures.known,
    inr (
      rw c.with_status-in-Err-show.ensures,
      c.in-Err-show.ensures.wrote,
      c.in-Err-show.ensures.cause.failed,
    ),
  ),
)
