use Rattle.pip_space.proofs.ListChanges.{shrunk_at}
use Rattle.pip_space.proofs.lists.drop_list_page.Goals as goal

pub returns-then-lists-pages-clause-list : goal.returns-then-lists-pages-clause-list
returns-then-lists-pages-clause-list g c more ts list long pages =
    shrunk_at _ _ c.args.first c.args.m c.lists-pages.result c.pop_page.result more ts c.lists-pages.ensures
    (rw (← c.lists.ensures, ← c.lists-pages.ensures) c.if-lists-pages.true) list long pages c.pop_page.ensures.last
    c.pop_page.ensures.list
