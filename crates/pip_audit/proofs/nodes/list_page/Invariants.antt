use Rattle.std.proofs.Common.{◌≡◌}
use Rattle.pip_base.specs.Memory.{word_at}
use Rattle.pip_audit.specs.Links.{page_after}
use Rattle.pip_audit.proofs.nodes.list_page.Given as goal

abbrev pub invariant-loop-j : goal.invariant-loop-j
invariant-loop-j g l =
    l.page ≡ page_after (g.M.Frames.memory l.mem) (word_at (g.M.Frames.memory l.mem) l.fn.part 9) l.j
