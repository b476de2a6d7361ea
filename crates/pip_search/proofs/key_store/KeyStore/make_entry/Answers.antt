use Rattle.std.proofs.Common.{rules, ◌≡◌, ◌∷◌}
use Rattle.pip_search.specs.Collapsing.{blocks_of}
use Rattle.pip_search.proofs.Collapsed.{made_entry, whole_entry}
use Rattle.pip_search.proofs.key_store.KeyStore.make_entry.Goals as goal

pub returns-then-branch-clause-made : goal.returns-then-branch-clause-made
returns-then-branch-clause-made c = made_entry (blocks_of c.make_by_blocks.new.self.blocks) c.args.key.now
    c.make_by_blocks.new.self.entry.items (c.in_ok-make_by_blocks.ensures.made (search rules))

pub returns-clause-made : goal.returns-clause-made
returns-clause-made c =
    let blocks = blocks_of c.make_by_blocks.new.self.blocks in
    let key = c.args.key.now in
    let is : c.extend_from_slice.new.self.items ≡ 0 ∷ key = rw
    (c.in_ok-extend_from_slice.ensures.items, c.in_ok-push.ensures.items, c.clear.ensures.items) in
    rw is (whole_entry blocks key)
