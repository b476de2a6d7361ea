use Rattle.std.proofs.Common.{◌≡◌, ℕ, ap, arith, length, replicate}
use Rattle.std.proofs.lemmas.List.{length-replicate}
use Rattle.pip_search.proofs.Placed.{none_placed, sized_by}
use Rattle.pip_search.proofs.hash_table.HashTable.new.Goals as goal

pub returns-clause-filled : goal.returns-clause-filled
returns-clause-filled c =
    let cells = c.in_ok-vec.field-0.items in
    let zeros : cells ≡ replicate 16 0 = c.in_ok-vec.ensures.items_if_clones_equal (λ y h. h) in
    let count : length cells ≡ 16 = rw (zeros, length-replicate {A = ℕ} 16 0) in
    let none = ap length c.new.ensures.items in
    record {
      sized = sized_by cells 4 (omega arith) count;
      load = omega arith;
      spare = omega arith;
      have = rw none (none_placed c.new.result.items cells 16 zeros);
    }
