use Rattle.std.proofs.Common.{◌∙◌, arith}
use Rattle.pip_search.proofs.Chains.{linked_at}
use Rattle.pip_search.proofs.index.Index.add.Goals as goal

pub link-requires-clause-linked : goal.link-requires-clause-linked
link-requires-clause-linked c =
    let x = c.args.self.now in
    linked_at x.hashes.items x.chains.items x.heads.items c.args.hash 0
    (c.deref.ensures.value ∙ c.in_ok-push.ensures.items) (c.deref_mut.ensures.value ∙ c.in_ok-push-2.ensures.items)
    c.deref_mut-then-at-len.ensures.value (omega arith) c.requires.filed.count
    c.requires.filed.linked
