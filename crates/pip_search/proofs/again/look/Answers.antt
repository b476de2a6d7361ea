use Rattle.std.proofs.Common.{◌≡◌, ◌<◌, length, arith}
use Rattle.pip_search.specs.Keys.{key_of, visits_of}
use Rattle.pip_search.specs.Packing.{packed_key, unpacked_key}
use Rattle.pip_search.specs.Systems.{LeadsOn}
use Rattle.pip_search.specs.Collapsing.{keys_in}
use Rattle.pip_search.proofs.Looking.{edge_to, is_there, key_at}
use Rattle.pip_search.proofs.Places.{get-below, get-some}
use Rattle.pip_search.proofs.Steps.{visit_count}
use Rattle.pip_search.proofs.again.look.Goals as goal

pub make-requires-clause-key : goal.make-requires-clause-key
make-requires-clause-key g c =
    let m = g.S.System.model (g.S.System.base c.args.system.now) in
    let s = c.args.search.now in
    let count = visit_count s c.requires.closed.searching.keyed in
    let (u, at) = get-some (visits_of s) c.args.i (omega arith) in
    rw (c.as_slice.ensures.value, c.requires.hand u at)
    (key_at m c.args.start.now c.args.search.now c.requires.closed c.requires.key c.args.i u at)

pub overflow_cast-result : goal.overflow_cast-result
overflow_cast-result g c =
    let s = c.args.search.now in
    let low : c.in-Some.to < length (keys_in s.store) = get-below (keys_in s.store) c.in-Some.to c.deref-3.result.now
    c.in-Some.ensures in
    omega arith

pub unreachable-requires : goal.unreachable-requires
unreachable-requires g c =
    let m = g.S.System.model (g.S.System.base c.args.system.now) in
    let s = c.args.search.now in
    let count = visit_count s c.requires.closed.searching.keyed in
    let next = c.make.new.to.items in
    let shown = c.make.new.shown.items in
    let (u, at) = get-some (visits_of s) c.args.i (omega arith) in
    let leads : LeadsOn m (key_of u) c.args.choice next shown = rw (← c.requires.hand u at, ← c.as_slice.ensures.value)
    c.in_ok-make.ensures.leads in
    let (j, there) = is_there m c.args.start.now c.args.search.now c.requires.closed c.requires.key c.requires.one
    c.args.i c.args.choice u next shown at c.requires.choice leads in
    let bytes : c.deref-3.result.now ≡ packed_key next = rw
    (c.deref-3.ensures.value, c.in_ok-pack.ensures.packed, c.deref.ensures.value) in
    c.in-None.ensures j (rw (there, ← bytes))

pub returns-clause-edge : goal.returns-clause-edge
returns-clause-edge g c =
    let m = g.S.System.model (g.S.System.base c.args.system.now) in
    let next = c.make.new.to.items in
    let shown = c.make.new.shown.items in
    let words : unpacked_key c.deref-3.result.now ≡ next = rw
    (c.deref-3.ensures.value, c.in_ok-pack.ensures.words, c.deref.ensures.value) in
    edge_to m c.args.start.now c.args.search.now c.requires.closed c.args.choice c.in-Some.to
    c.args.buffers.now.from.items c.deref-3.result.now next shown c.in-Some.ensures words
    (rw (← c.as_slice.ensures.value) c.in_ok-make.ensures.leads)
