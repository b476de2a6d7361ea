use Rattle.std.proofs.Common.{◌≡◌, length, refl, ap, arith, ◌∙◌}
use Rattle.pip_search.proofs.Staging.{all_zero, staged_begin, zero_length}
use Rattle.pip_search.proofs.stages.settle.Goals as goal

pub settle_from-requires-clause-staged : goal.settle_from-requires-clause-staged
settle_from-requires-clause-staged c =
    let stages = c.in_ok-stages.stages.items in
    let none = all_zero stages _ (c.in_ok-stages.ensures.items_if_clones_equal (λ y h. h)) in
    rw (c.as_mut_slice.ensures.value, c.new-goals.ensures.items) (staged_begin c.args.targets.now c.args.classes.now
    c.args.width (length stages) stages refl none)

pub returns : goal.returns
returns c =
    let stages = c.in_ok-stages.stages.items in
    let zeros_are = c.in_ok-stages.ensures.items_if_clones_equal (λ y h. h) in
    let long = zero_length stages _ c.args.count zeros_are (omega arith) in
    let count : length c.as_mut_slice.result.now ≡ c.args.count = ap length c.as_mut_slice.ensures.value ∙ long in
    rw count at c.settle_from.ensures
