use Rattle.std.proofs.Common.{rules, ◌≡◌, ◌+◌, ◌-◌, ◌<◌, ◌≤◌, drop, length, slice_index, ap, arith, ◌∙◌, length-set}
use Rattle.std.proofs.lemmas.List.{get_or_default}
use Rattle.pip_search.proofs.Staging.{all_zero, begun_more, begun_within, fair_loop, zero_length, zeros_most, zeros_set}
use Rattle.pip_search.proofs.stages.find_loop.Goals as goal

pub loop-turn-init : goal.loop-turn-init
loop-turn-init c =
    let begun = c.in_ok-begun.begun.items in
    let zeros_are = c.in_ok-begun.ensures.items_if_clones_equal (λ y h. h) in
    let none = all_zero begun _ zeros_are in
    let most = zeros_most begun in
    let long = zero_length begun _ (length c.args.stages.now) zeros_are (omega arith) in
    record {
      left = c.requires.left;
      count = long;
      falls = omega arith;
      begun = λ j some. absurd (let h = none j in omega arith);
    }

pub loop-turn-preserved : goal.loop-turn-preserved
loop-turn-preserved c =
    let h = c.loop-turn.invariant in
    let at = c.loop-turn.at in
    let begun = c.loop-turn.begun.items in
    let cs = c.loop-turn.choices.items in
    let inside = h.left.inside in
    let count = h.count in
    let low : at < length begun = omega arith in
    let same : c.index-mark.result.now ≡ slice_index begun at =
    c.index-mark.ensures ∙ get_or_default begun at c.index-mark.result.now 0 low in
    let none : slice_index begun at ≡ 0 = omega arith in
    let long : c.len.result ≡ length cs = search rules in
    let down = zeros_set begun at (length cs + 1) low none (omega arith) in
    rw long (record {
      left = c.in_ok-at.ensures.left;
      count = length-set begun at (length cs + 1) ∙ h.count;
      falls = omega arith;
      begun = begun_more c.args.targets.now c.args.classes.now c.args.width begun at c.in_ok-at.at cs
          c.go_round.new.choices.items low h.begun c.in_ok-at.ensures.round;
    })

pub from_on-requires : goal.from_on-requires
from_on-requires c =
    let h = c.loop-turn.invariant in
    let at = c.loop-turn.at in
    let begun = c.loop-turn.begun.items in
    let cs = c.loop-turn.choices.items in
    let inside = h.left.inside in
    let count = h.count in
    let low : at < length begun = omega arith in
    let same : c.index-mark.result.now ≡ slice_index begun at =
    c.index-mark.ensures ∙ get_or_default begun at c.index-mark.result.now 0 low in
    let within = begun_within c.args.targets.now c.args.classes.now c.args.width (slice_index begun at) at at cs
    (h.begun at (omega arith)) in
    let long = ap length c.as_slice.ensures.value in
    omega arith

pub returns-then-mark-gt0 : goal.returns-then-mark-gt0
returns-then-mark-gt0 c =
    let h = c.loop-turn.invariant in
    let at = c.loop-turn.at in
    let begun = c.loop-turn.begun.items in
    let cs = c.loop-turn.choices.items in
    let inside = h.left.inside in
    let count = h.count in
    let low : at < length begun = omega arith in
    let same : c.index-mark.result.now ≡ slice_index begun at =
    c.index-mark.ensures ∙ get_or_default begun at c.index-mark.result.now 0 low in
    let loop = c.in_ok-round.round.items in
    let is : loop ≡ drop (slice_index begun at - 1) cs = rw (← same, ← c.as_slice.ensures.value) c.in_ok-round.ensures
    in
    fair_loop c.args.targets.now c.args.classes.now c.args.width (length c.args.stages.now) (slice_index begun at) at cs
    loop inside c.requires.some c.requires.classes (h.begun at (omega arith)) is
