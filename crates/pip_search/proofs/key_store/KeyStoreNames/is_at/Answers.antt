use Rattle.pip_search.proofs.Collapsed.{blocks_at, whole_at}
use Rattle.pip_search.proofs.key_store.KeyStoreNames.is_at.Goals as goal

pub returns-in-Some-clause-same : goal.returns-in-Some-clause-same
returns-in-Some-clause-same c = λ yes.
    rw (
      whole_at c.args.self.now c.args.place c.list_at-entry.result.now c.list_at-entry.ensures c.in-Some.whole.now
          c.in-Some.ensures,
      c.is_same.ensures.same yes,
    )

pub returns-in-Some-clause-other : goal.returns-in-Some-clause-other
returns-in-Some-clause-other c = λ no same.
    let at = whole_at c.args.self.now c.args.place c.list_at-entry.result.now c.list_at-entry.ensures
    c.in-Some.whole.now c.in-Some.ensures in
    c.is_same.ensures.other no (cc (at, same))

pub is_of-requires : goal.is_of-requires
is_of-requires c = record {
  numbers = (blocks_at c.args.self.now c.args.place c.list_at-entry.result.now c.list_at-entry.ensures c.requires.can
      c.in_default.ensures).0;
}

pub returns-clause-same : goal.returns-clause-same
returns-clause-same c = λ yes.
    let (by, at) = blocks_at c.args.self.now c.args.place c.list_at-entry.result.now c.list_at-entry.ensures
    c.requires.can c.in_default.ensures in
    rw (at, c.is_of.ensures.same yes)

pub returns-clause-other : goal.returns-clause-other
returns-clause-other c = λ no same.
    let (by, at) = blocks_at c.args.self.now c.args.place c.list_at-entry.result.now c.list_at-entry.ensures
    c.requires.can c.in_default.ensures in
    c.is_of.ensures.other no (cc (at, same))
