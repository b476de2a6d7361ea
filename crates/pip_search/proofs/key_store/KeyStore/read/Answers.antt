use Rattle.std.proofs.Common.{◌∙◌, ap, Some}
use Rattle.pip_search.proofs.Collapsed.{blocks_at, whole_at}
use Rattle.pip_search.proofs.key_store.KeyStore.read.Goals as goal

pub returns-in-Some : goal.returns-in-Some
returns-in-Some c =
    whole_at c.args.self.now c.args.place c.list_at-entry.result.now c.list_at-entry.ensures c.in-Some.whole.now
    c.in-Some.ensures
    ∙ ap Some (cc (c.clear.ensures.items, c.in_ok-extend_from_slice.ensures.items))

pub join-requires-clause-numbers : goal.join-requires-clause-numbers
join-requires-clause-numbers c =
    (blocks_at c.args.self.now c.args.place c.list_at-entry.result.now c.list_at-entry.ensures c.requires.collapsed
    c.in_default.ensures).0

pub returns : goal.returns
returns c =
    rw (
      (blocks_at c.args.self.now c.args.place c.list_at-entry.result.now c.list_at-entry.ensures c.requires.collapsed
          c.in_default.ensures).1,
      ← c.in_ok-join.ensures,
    )
