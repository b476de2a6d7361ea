use Rattle.std.proofs.Common.{rules, arith, refl, ap, sym, subst, ◌≡◌, ◌+◌, ◌⊎◌}
use Rattle.std.specs.Prelude.{Some, slice_get, length}
use Rattle.std.proofs.lemmas.Option.{slice_get_read}
use Rattle.pip_search.specs.Certificates.{HasStop, Stop}
use Rattle.pip_search.specs.Growing.{Told}
use Rattle.pip_search.specs.Keys.{labels}
use Rattle.pip_search.specs.Naming.{AreNamed}
use Rattle.pip_search.specs.Packing.{unpacked_key}
use Rattle.pip_search.specs.Parts.{stop_at, stop_of, stops}
use Rattle.pip_search.proofs.Making.{at-same}
use Rattle.pip_search.proofs.Parting.{grows, key_reached, may_has, old_words}
use Rattle.pip_search.proofs.Picking.{map_at}
use Rattle.pip_search.proofs.Places.{get-some}
use Rattle.pip_search.proofs.Portioning.{has_moved}
use Rattle.pip_search.proofs.parts.meet.Goals as goal

pub make-requires-clause-key : goal.make-requires-clause-key
make-requires-clause-key g c =
    let m = g.S.System.model (g.S.System.base c.args.system.now) in
    let xs = c.args.part.now.keys.items in
    let (v, at) = get-some xs c.args.i (omega arith) in
    let there = map_at stop_of xs c.args.i v at in
    rw (c.as_slice.ensures.value, ← c.requires.hand (stop_of v) there)
    (key_reached m c.args.start.now c.args.part.now c.args.i c.args.choice c.requires.growing c.requires.key
    (stop_of v) there)

pub settle-requires-clause-depth : goal.settle-requires-clause-depth
settle-requires-clause-depth g c = λ x e.
    let xs = c.args.part.now.keys.items in
    let v = c.index.result.now in
    let at : slice_get xs c.args.i ≡ Some v = slice_get_read xs (length xs) c.args.i v refl (omega (
      arith,
      c.args.part.now.keys.ok.0,
    )) c.index.ensures in
    let same : stop_of v ≡ x = at-same (stops xs) c.args.i (stop_of v) x (map_at stop_of xs c.args.i v at) e in
    let own : v.depth ≡ x.depth = ap (λ (y : Stop). y.depth) same in
    let more : v.depth + 1 ≡ c.in-Some.depth = search rules in
    omega arith

pub returns-clause-growing : goal.returns-clause-growing
returns-clause-growing g c =
    let m = g.S.System.model (g.S.System.base c.args.system.now) in
    let p = c.args.part.now in
    let q = c.settle.new.part in
    let xs = p.keys.items in
    let v = c.index.result.now in
    let at : slice_get xs c.args.i ≡ Some v = slice_get_read xs (length xs) c.args.i v refl (omega (
      arith,
      p.keys.ok.0,
    )) c.index.ensures in
    let there = map_at stop_of xs c.args.i v at in
    let more : v.depth + 1 ≡ c.in-Some.depth = search rules in
    let next = c.make.new.to.items in
    let shown = c.make.new.shown.items in
    let words : unpacked_key c.deref-3.result.now ≡ next = rw
    (c.deref-3.ensures.value, c.in_ok-pack.ensures.words, c.deref-2.ensures.value) in
    let stop : stop_at (unpacked_key c.deref-3.result.now) c.in-Some.depth ≡ stop_at next (v.depth + 1) =
    rw (words, ← more) in
    grows m c.args.start.now p q c.args.i c.args.choice c.requires.growing (stop_of v) there c.requires.choice next
    shown
    (rw (c.requires.hand (stop_of v) there, ← c.as_slice.ensures.value) c.in_ok-make.ensures.leads)
    c.in-Some.depth
    (rw c.in_ok-settle.ensures.found (subst (λ label. Told p.found.items c.tell.new.found.items label c.args.i
    c.args.choice c.in-Some.depth) c.deref.ensures.value c.in_ok-tell.ensures.told))
    (rw (← stop) c.in_ok-settle.ensures.keys)
    (rw (← stop) c.in_ok-settle.ensures.asked)
    (subst (λ (y : Stop). HasStop (stops q.keys.items) y.key y.depth ⊎ HasStop (stops q.asked.items) y.key y.depth) stop
    c.in_ok-settle.ensures.met)
    (rw c.in_ok-settle.ensures.found (subst (λ x. AreNamed (labels c.tell.new.found.items) x)
    (sym c.in_ok-settle.ensures.labels) c.in_ok-tell.ensures.named))

pub returns-clause-hand : goal.returns-clause-hand
returns-clause-hand g c = λ x e.
    c.requires.hand x (old_words c.args.part.now c.settle.new.part c.args.i _ (omega (
      arith,
      c.args.part.now.keys.ok.0,
    )) c.in_ok-settle.ensures.keys x e)

pub returns-clause-keeps : goal.returns-clause-keeps
returns-clause-keeps g c = λ key n h.
    may_has (stops c.args.part.now.keys.items) (stops c.settle.new.part.keys.items) _ key n
    c.in_ok-settle.ensures.keys h

pub returns-clause-moved : goal.returns-clause-moved
returns-clause-moved g c = λ x e.
    let m = g.S.System.model (g.S.System.base c.args.system.now) in
    let p = c.args.part.now in
    let q = c.settle.new.part in
    let xs = p.keys.items in
    let v = c.index.result.now in
    let at : slice_get xs c.args.i ≡ Some v = slice_get_read xs (length xs) c.args.i v refl (omega (
      arith,
      p.keys.ok.0,
    )) c.index.ensures in
    let there = map_at stop_of xs c.args.i v at in
    let own : stop_of v ≡ x = at-same (stops xs) c.args.i (stop_of v) x there e in
    let deep : v.depth ≡ x.depth = ap (λ (y : Stop). y.depth) own in
    let more : v.depth + 1 ≡ c.in-Some.depth = search rules in
    let next = c.make.new.to.items in
    let shown = c.make.new.shown.items in
    let words : unpacked_key c.deref-3.result.now ≡ next = rw
    (c.deref-3.ensures.value, c.in_ok-pack.ensures.words, c.deref-2.ensures.value) in
    let stop : stop_at (unpacked_key c.deref-3.result.now) c.in-Some.depth ≡ stop_at next (x.depth + 1) =
    rw (words, ← more, deep) in
    has_moved m x c.args.choice c.args.own p q next shown c.args.i c.args.choice c.in-Some.depth
    (rw (c.requires.hand x e, ← c.as_slice.ensures.value) c.in_ok-make.ensures.leads)
    (rw c.in_ok-settle.ensures.found (subst (λ label. Told p.found.items c.tell.new.found.items label c.args.i
    c.args.choice c.in-Some.depth) c.deref.ensures.value c.in_ok-tell.ensures.told))
    (rw c.in_ok-settle.ensures.found c.in_ok-tell.ensures.named.distinct)
    (rw (c.in_ok-settle.ensures.own, stop))
    (cc (c.in_ok-settle.ensures.asks x e))
