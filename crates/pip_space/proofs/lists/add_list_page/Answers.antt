use Rattle.std.proofs.Common.{◌∙◌, sym}
use Rattle.pip_space.proofs.ListChanges.{page_added, zero_pages}
use Rattle.pip_space.proofs.lists.add_list_page.Goals as goal

pub append_page-requires : goal.append_page-requires
append_page-requires g c =
    let r = c.requires in
    rw c.zero.ensures.words (zero_pages _ c.args.first r.more r.tables r.is_in
    c.in-Some.page (r.further c.in-Some.page c.in-Some.is) c.lists.result (r.pages ∙ sym c.lists.ensures))

pub returns-in-Some-clause-list : goal.returns-in-Some-clause-list
returns-in-Some-clause-list g c more ts list count pages far =
    page_added _ _ _ c.args.first c.lists.result more ts c.in-Some.page c.args.list c.in-Some.is list
    (cc (c.lists.ensures)) far (c.requires.inside c.in-Some.page c.in-Some.is) c.zero.ensures.words
    c.append_page.ensures.list
