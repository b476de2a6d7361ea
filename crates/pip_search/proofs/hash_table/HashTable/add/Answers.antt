use Rattle.std.proofs.Common.{◌≡◌, ◌∙◌, ℕ, suc, ◌+◌, ◌*◌, ◌^◌, ◌/◌, ◌<◌, ◌≤◌, List, [], ◌∷◌, inl, inr, arith}
use Rattle.std.proofs.Common.{length, length-append, replicate, sym}
use Rattle.std.proofs.Math.Nat.{pow-suc}
use Rattle.std.proofs.lemmas.Bool.{cases_lt}
use Rattle.std.proofs.lemmas.List.{length-replicate, with_items_is}
use Rattle.std.proofs.lemmas.Nat.{pow_pos}
use Rattle.pip_search.specs.Cells.{IsSized}
use Rattle.pip_search.proofs.Placed.{filled_by, sized_by}
use Rattle.pip_search.proofs.hash_table.HashTable.add.Goals as goal

module _ (cells more : List ℕ) (count at : ℕ) (s : IsSized cells) (counted : count ≡ length cells)
    (zeros : more ≡ replicate (2 * count) 0) where
  twice_as_many : length more ≡ 2 * length cells
  twice_as_many = rw (zeros, length-replicate {A = ℕ} (2 * count) 0, counted)

  -- twice as many are a power of two, too, and not too many where these hashes fill three in four
  sized_then : at < 2 ^ 31 → count / 4 * 3 ≤ at → IsSized more
  sized_then low full =
      let before = s.count in
      elim (cases_lt s.power 32) [
        | inl less ↦
            let twice = pow-suc 2 s.power in
            sized_by more (suc s.power) (omega arith) (omega (arith, twice, before, twice_as_many))
        | inr most ↦
            let few = s.few in
            let is : s.power ≡ 32 = omega arith in
            let all : 2 ^ s.power ≡ 2 ^ 32 = rw is in
            absurd (omega arith)
      ]

pub place_all-requires-clause-sized : goal.place_all-requires-clause-sized
place_all-requires-clause-sized c =
    let x = c.args.self.now in
    let counted : c.len-count.result ≡ length x.cells.items = omega arith in
    sized_then x.cells.items c.deref_mut.result.now c.len-count.result c.len-at.result c.requires.filled.sized counted
    (c.deref_mut.ensures.value ∙ c.in_ok-self.ensures.items_if_clones_equal (λ y h. h))
    (omega arith) (omega arith)

pub returns-in_ok-self-clause-filled : goal.returns-in_ok-self-clause-filled
returns-in_ok-self-clause-filled c =
    let x = c.args.self.now in
    let hashes = c.deref.result.now in
    let cells = c.place_all.new.cells in
    let zeros = c.deref_mut.ensures.value ∙ c.in_ok-self.ensures.items_if_clones_equal (λ y h. h) in
    let counted : c.len-count.result ≡ length x.cells.items = omega arith in
    let long : length cells ≡ length c.deref_mut.result.now = c.place_all.auto.cells in
    let one : length hashes ≡ length x.hashes.items + 1 = rw
    (c.deref.ensures.value, c.in_ok-push.ensures.items, length-append x.hashes.items (c.args.hash ∷ [])) in
    let twice = twice_as_many x.cells.items c.deref_mut.result.now c.len-count.result c.len-at.result
    c.requires.filled.sized counted zeros in
    let sized = sized_then x.cells.items c.deref_mut.result.now c.len-count.result c.len-at.result
    c.requires.filled.sized counted zeros (omega arith)
    (omega arith) in
    let full = c.if-at-count.true in
    let load = c.requires.filled.load in
    let power = pow_pos c.requires.filled.sized.power in
    let at : c.len-at.result ≡ length x.hashes.items = omega arith in
    let some : 0 < length x.cells.items = omega arith in
    filled_by _ hashes cells (sym c.deref.ensures.value)
    (with_items_is c.in_ok-self.field-0 cells (cc (c.deref_mut.ensures.len)))
    (sized_by cells sized.power sized.few (cc (sized.count)))
    (omega arith) (omega arith)
    c.place_all.ensures.have
