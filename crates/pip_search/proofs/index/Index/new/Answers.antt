use Rattle.std.proofs.Common.{◌≡◌, ℕ, arith, length, replicate}
use Rattle.std.proofs.lemmas.List.{length-replicate}
use Rattle.pip_search.proofs.Chains.{none_filed}
use Rattle.pip_search.proofs.index.Index.new.Goals as goal

pub returns-clause-filed : goal.returns-clause-filed
returns-clause-filed c =
    let zeros : c.in_ok-vec.field-0.items ≡ replicate 16 0 = c.in_ok-vec.ensures.items_if_clones_equal (λ y h. h) in
    let count : length c.in_ok-vec.field-0.items ≡ 16 = rw (zeros, length-replicate {A = ℕ} 16 0) in
    none_filed _ 16 (omega arith) (omega arith) c.new.ensures.items c.new-2.ensures.items zeros count
