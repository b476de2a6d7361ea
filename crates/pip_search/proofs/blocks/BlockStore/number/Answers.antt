use Rattle.std.proofs.Common.{◌≡◌, sym, arith, length, subst, slice_get, Some}
use Rattle.pip_search.specs.Collapsing.{blocks_of}
use Rattle.pip_search.proofs.Placed.{tag_low}
use Rattle.pip_search.proofs.Places.{get-below, get-new}
use Rattle.pip_search.proofs.Walking.{named_more}
use Rattle.pip_search.proofs.blocks.BlockStore.number.Goals as goal

pub overflow_cast-result : goal.overflow_cast-result
overflow_cast-result c =
    let t = c.args.self.now.table in
    let h = c.requires.named in
    omega (
      arith,
      get-below (blocks_of c.args.self.now) c.in-Some.place c.args.block.now c.in-Some.ensures,
      tag_low
          t.cells.items 0 h.filled.sized,
    )

pub returns-clause-named : goal.returns-clause-named
returns-clause-named c =
    let names = blocks_of c.args.self.now in
    rw c.in_ok-push.ensures.items (named_more names c.args.self.now.table c.add.new.self c.args.block.now
    c.hash_bytes-hash.result c.requires.named c.hash_bytes-hash.ensures c.in_default.ensures c.in_ok-add.ensures.filled
    c.in_ok-add.ensures.hashes c.in_ok-add.ensures.seed)

pub returns-clause-number : goal.returns-clause-number
returns-clause-number c =
    let names = blocks_of c.args.self.now in
    let block = c.args.block.now in
    let count = c.args.self.now.blocks.items.ok.0 in
    let at : c.len-place.result ≡ length names = omega arith in
    rw at (subst (λ zs. slice_get zs (length names) ≡ Some block) (sym c.in_ok-push.ensures.items)
    (get-new names block))
