use Rattle.std.proofs.Common.{◌≡◌, ◌∷◌, ◌++◌, [], All, map}
use Rattle.pip_search.specs.Collapsing.{IsKeyEntry, blocks_of, key_of_entry, keys_in}
use Rattle.pip_search.specs.Storing.{listed}
use Rattle.pip_search.proofs.Collapsed.{entries_more}
use Rattle.pip_search.proofs.key_store.KeyStore.push.Goals as goal
use Rattle.pip_search.proofs.key_store.KeyStore.push.Goals.{In_ok-push}

pushed : (c : In_ok-push) → All (IsKeyEntry (blocks_of c.make_entry.new.self.blocks)) (listed c.push.new.self)
    × (map (key_of_entry (blocks_of c.make_entry.new.self.blocks)) (listed c.push.new.self)
    ≡ keys_in c.args.self.now ++ c.args.key.now ∷ [])
pushed c =
    let own = c.in_ok-make_entry.ensures in
    let x = c.args.self.now in
    let y = c.make_entry.new.self in
    entries_more (blocks_of x.blocks) (blocks_of y.blocks) (listed x.entries) (listed c.push.new.self) c.args.key.now
    y.entry.items own.extended c.requires.collapsed.entries own.made
    (rw (c.in_ok-push.ensures.added, c.deref.ensures.value, own.entries))

pub returns-clause-collapsed : goal.returns-clause-collapsed
returns-clause-collapsed c = record {
  stored = c.in_ok-push.ensures.stored;
  named = c.in_ok-make_entry.ensures.named;
  entries = (pushed c).0;
}

pub returns-clause-added : goal.returns-clause-added
returns-clause-added c = (pushed c).1
