use Rattle.std.proofs.Common.{sym, refl, arith, Some, ◌∙◌}
use Rattle.pip_dump.proofs.Moves.{at_small}
use Rattle.pip_dump.proofs.Tales.{told_end, told_first, told_more, told_place, told_part, told_same}
use Rattle.pip_dump.proofs.Pieces.{wrote_err}
use Rattle.pip_dump.proofs.tree.tree_text.Goals as goal

pub loop-i-init : goal.loop-i-init
loop-i-init g c = record {
  no_faults = refl;
  told = λ t held. told_first t held.0 c.first_place.result _ c.first_place.ensures.part c.first_place.ensures.depth;
}

pub returns-in_err-part_text-in-Some-clause-text : goal.returns-in_err-part_text-in-Some-clause-text
returns-in_err-part_text-in-Some-clause-text g c t held =
    let told = told_same t _ _ (Some c.in-Some.place) _ _ _ (sym c.in-Some.is) refl (c.loop-i.invariant.told t held) in
    wrote_err _ _ _ c.from_residual.result c.from_residual.ensures.0
    (told_part t held.0 _ c.in-Some.place _ _ _ told
    (λ y found deep. c.in_err-part_text-in-Some.ensures.text t y held.0 held.1 found deep))

pub next_place-next-requires-clause-depth : goal.next_place-next-requires-clause-depth
next_place-next-requires-clause-depth g c =
    let h = c.requires in
    let told = told_same h.tree _ _ (Some c.in-Some.place) _ _ _ (sym c.in-Some.is) refl
    (c.loop-i.invariant.told h.tree (h.sound, h.laid)) in
    let (rest, at) = told_place h.tree h.sound _ c.in-Some.place _ _ told in
    at_small h.tree h.sound c.in-Some.place.part _ _ rest at

pub loop-i-preserved : goal.loop-i-preserved
loop-i-preserved g c = record {
  no_faults = c.in_ok-part_text-in-Some.ensures.cause.no_faults ∙ c.loop-i.invariant.no_faults;
  told = λ t held.
      let told =
      told_same t _ _ (Some c.in-Some.place) _ _ _ (sym c.in-Some.is) refl (c.loop-i.invariant.told t held) in
      told_more t held.0 _ c.in-Some.place _ _ _ _ told (λ y found deep. c.in_ok-part_text-in-Some.ensures.text t y
      held.0 held.1 found deep) (λ rest at. c.next_place-next.ensures t rest held at);
}

pub returns-clause-text : goal.returns-clause-text
returns-clause-text g c t held =
    let full = c.loop-i-test.false in
    let count = c.count-i-end.ensures in
    let frames = held.1.count in
    told_end t held.0 _ _ _ _ (c.loop-i.invariant.told t held) (omega (arith, full, count, frames))
