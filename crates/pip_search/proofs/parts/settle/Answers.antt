use Rattle.std.proofs.Common.{arith, inl, inr, refl, ap, sym, ◌∙◌, ◌≡◌, ◌+◌}
use Rattle.std.specs.Prelude.{Some, slice_get, length}
use Rattle.std.proofs.lemmas.Option.{slice_get_read}
use Rattle.pip_search.specs.Packing.{packed_key, unpacked_key}
use Rattle.pip_search.specs.Parts.{stop_at, stop_of, stops}
use Rattle.pip_search.proofs.Making.{at-same}
use Rattle.pip_search.proofs.Parting.{has_new, has_own}
use Rattle.pip_search.proofs.Portioning.{other_asked, same_again}
use Rattle.pip_search.proofs.Picking.{map_at}
use Rattle.pip_search.proofs.parts.settle.Goals as goal

pub returns-then-is_same-clause-met : goal.returns-then-is_same-clause-met
returns-then-is_same-clause-met c =
    let xs = c.args.part.now.keys.items in
    let x = c.index.result.now in
    let at : slice_get xs c.args.i ≡ Some x = slice_get_read xs (length xs) c.args.i x refl (omega (
      arith,
      c.args.part.now.keys.ok.0,
    )) c.index.ensures in
    let there = map_at stop_of xs c.args.i x at in
    let deep : x.depth + 1 ≡ c.args.depth = c.requires.depth (stop_of x) there in
    inl (has_own (stops xs) c.args.i (stop_of x) (unpacked_key c.args.bytes.now) c.args.depth there
    (rw (← c.deref.ensures.value, c.is_same.ensures.same c.if-is_same.true)) (omega arith))

pub returns-then-is_same-clause-asks : goal.returns-then-is_same-clause-asks
returns-then-is_same-clause-asks c = λ x e.
    let xs = c.args.part.now.keys.items in
    let v = c.index.result.now in
    let at : slice_get xs c.args.i ≡ Some v = slice_get_read xs (length xs) c.args.i v refl (omega (
      arith,
      c.args.part.now.keys.ok.0,
    )) c.index.ensures in
    let own : stop_of v ≡ x = at-same (stops xs) c.args.i (stop_of v) x (map_at stop_of xs c.args.i v at) e in
    same_again c.args.own x (unpacked_key c.args.bytes.now) (stops c.args.part.now.asked.items)
    (stop_at (unpacked_key c.args.bytes.now) c.args.depth)
    (rw (← own, ← c.deref.ensures.value, c.is_same.ensures.same c.if-is_same.true))

pub returns-clause-asks : goal.returns-clause-asks
returns-clause-asks c = λ x e.
    let xs = c.args.part.now.keys.items in
    let v = c.index.result.now in
    let at : slice_get xs c.args.i ≡ Some v = slice_get_read xs (length xs) c.args.i v refl (omega (
      arith,
      c.args.part.now.keys.ok.0,
    )) c.index.ensures in
    let own : stop_of v ≡ x = at-same (stops xs) c.args.i (stop_of v) x (map_at stop_of xs c.args.i v at) e in
    other_asked c.args.own x (unpacked_key c.args.bytes.now) (stops c.args.part.now.asked.items)
    (stops c.add-2.new.list.items) (stop_at (unpacked_key c.args.bytes.now) c.args.depth) c.if-own.false (λ same.
    c.is_same.ensures.other c.if-is_same.false (c.deref.ensures.value ∙ (sym (c.requires.kept c.args.i v at)
    ∙ ap packed_key (cc) ∙ c.requires.packed))) c.in_ok-add-2.ensures.added

pub returns-clause-met : goal.returns-clause-met
returns-clause-met c = inr (has_new (stops c.args.part.now.asked.items) (stops c.add-2.new.list.items)
    (unpacked_key c.args.bytes.now) c.args.depth c.in_ok-add-2.ensures.added)
