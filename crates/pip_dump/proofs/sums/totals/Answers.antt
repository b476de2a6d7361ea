use Rattle.std.proofs.Common.{◌+◌, refl, ap, sym, arith, Some, None}
use Rattle.pip_dump.proofs.Moves.{at_small}
use Rattle.pip_dump.proofs.Counts.{counted_all, counted_end, counted_first, counted_fits, counted_more, counted_place}
use Rattle.pip_dump.proofs.Counts.{counted_same}
use Rattle.pip_dump.proofs.sums.totals.Goals as goal

pub loop-i-init : goal.loop-i-init
loop-i-init g c = record {
  seen = refl;
  counted =
      λ t held. counted_first t held.0 c.first_place.result c.first_place.ensures.part c.first_place.ensures.depth;
}

pub returns-in-None : goal.returns-in-None
returns-in-None g c t held =
    let (parts, rows, hidden) = counted_all t held.0 _ _ _
    (counted_same t _ None _ _ _ _ _ _ (sym c.in-None.is) refl refl refl (c.loop-i.invariant.counted t held)) in
    record { parts = parts; rows = rows; hidden = hidden }

pub overflow_add-rows : goal.overflow_add-rows
overflow_add-rows g c =
    let h = c.requires in
    let counted = counted_same h.tree _ (Some c.in-Some.place) _ _ _ _ _ _ (sym c.in-Some.is) refl refl refl
    (c.loop-i.invariant.counted h.tree (h.sound, h.laid)) in
    let most = (counted_fits h.tree h.sound c.in-Some.place _ _ _ counted).0 c.count_rows-rows.result
    (λ y found. c.count_rows-rows.ensures h.tree y h.sound h.laid found) in
    omega (arith, most)

pub overflow_add-hidden : goal.overflow_add-hidden
overflow_add-hidden g c =
    let h = c.requires in
    let counted = counted_same h.tree _ (Some c.in-Some.place) _ _ _ _ _ _ (sym c.in-Some.is) refl refl refl
    (c.loop-i.invariant.counted h.tree (h.sound, h.laid)) in
    let most = (counted_fits h.tree h.sound c.in-Some.place _ _ _ counted).1 c.count_pages-hidden.result
    (λ y found. c.count_pages-hidden.ensures h.tree y h.sound h.laid found) in
    omega (arith, most)

pub next_place-next-requires-clause-depth : goal.next_place-next-requires-clause-depth
next_place-next-requires-clause-depth g c =
    let h = c.requires in
    let counted = counted_same h.tree _ (Some c.in-Some.place) _ _ _ _ _ _ (sym c.in-Some.is) refl refl refl
    (c.loop-i.invariant.counted h.tree (h.sound, h.laid)) in
    let (rest, at) = counted_place h.tree c.in-Some.place _ _ _ counted in
    at_small h.tree h.sound c.in-Some.place.part _ _ rest at

pub loop-i-preserved : goal.loop-i-preserved
loop-i-preserved g c = record {
  seen = ap (λ n. n + 1) c.loop-i.invariant.seen;
  counted = λ t held.
      let counted = counted_same t _ (Some c.in-Some.place) _ _ _ _ _ _ (sym c.in-Some.is) refl refl refl
      (c.loop-i.invariant.counted t held) in
      counted_more t held.0 c.in-Some.place _ _ _ _ _ _ counted
      (λ y found. c.count_rows-rows.ensures t y held.0 held.1 found) (λ y found.
      c.count_pages-hidden.ensures t y held.0 held.1 found) (λ rest at. c.next_place-next.ensures t rest held at);
}

pub returns : goal.returns
returns g c t held =
    let full = c.loop-i-test.false in
    let count = c.count-i-end.ensures in
    let frames = held.1.count in
    let (parts, rows, hidden) = counted_end t held.0 _ _ _ _ c.loop-i._i (c.loop-i.invariant.counted t held)
    c.loop-i.invariant.seen (omega (arith, full, count, frames)) in
    record { parts = parts; rows = rows; hidden = hidden }
