use Rattle.std.proofs.Common.{arith, ◌-◌}
use Rattle.pip_model.specs.NodeWords.{slots}
use Rattle.pip_config.proofs.Links.{append_list}
use Rattle.pip_config.proofs.pages.append_page.Goals as goal

pub returns-clause-list : goal.returns-clause-list
returns-clause-list g c more ts list count fresh =
    append_list (g.M.Frames.memory c.args.mem.now) (g.M.Frames.memory c.set_link.new.mem) c.args.first more ts list
    c.args.p fresh (c.args.pages - 1) c.page_at-last.result (omega arith)
    (c.page_at-last.ensures.frame more (slots ts) list.pages (omega arith)) c.set_link.ensures.words
