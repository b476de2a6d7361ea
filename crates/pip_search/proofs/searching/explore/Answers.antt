use Rattle.std.proofs.Common.{rules, ◌≡◌, ◌+◌, ◌-◌, arith, refl, ◌∙◌, length, false, IsTrue}
use Rattle.pip_search.specs.Searching.{IsSearching}
use Rattle.pip_search.specs.Keys.{keyed_visit, visits_of}
use Rattle.pip_search.proofs.Done.{closed_done, stopped_done, visit_read, within_done}
use Rattle.pip_search.proofs.Ending.{shallow_more}
use Rattle.pip_search.proofs.Ranking.{ranked_begun}
use Rattle.pip_search.proofs.Telling.{begun}
use Rattle.pip_search.proofs.Steps.{visit_count}
use Rattle.pip_search.proofs.searching.explore.Goals as goal

pub returns-then-depth-most : goal.returns-then-depth-most
returns-then-depth-most g c =
    let h = c.loop-i.invariant in
    let v = c.index.result.now in
    let (key, at) = visit_read c.loop-i.search c.loop-i.i v h.searching.keyed (omega arith)
    c.index.ensures in
    within_done h.base h.searching h.room (keyed_visit key v) refl at h.shallow c.if-depth-most.true

pub expand-requires-clause-key : goal.expand-requires-clause-key
expand-requires-clause-key g c =
    rw c.loop-i.invariant.base c.requires.key

pub returns-then-not-room : goal.returns-then-not-room
returns-then-not-room g c =
    let v = c.index.result.now in
    let (key, at) = visit_read c.loop-i.search c.loop-i.i v c.loop-i.invariant.searching.keyed
    (omega arith) c.index.ensures in
    let room : c.in_ok-room.room ≡ false = search rules in
    let e = c.in_ok-room.ensures in
    rw (← c.loop-i.invariant.base) (stopped_done c.expand.ensures.base (e.left room).1 e.room (keyed_visit key v)
    (e.same ∙ at) c.if-depth-most.false (e.beyond room))

pub loop-i-preserved : goal.loop-i-preserved
loop-i-preserved g c =
    let m = g.S.System.model (g.S.System.base c.args.system.now) in
    let s = c.loop-i.search in
    let t = c.expand.new.search in
    let v = c.index.result.now in
    let (key, at) = visit_read s c.loop-i.i v c.loop-i.invariant.searching.keyed (omega arith)
    c.index.ensures in
    let room : IsTrue c.in_ok-room.room = search rules in
    let h : IsSearching m c.args.start.now t (c.loop-i.i + 1) 0 =
    rw (← c.loop-i.invariant.base) (c.in_ok-room.ensures.made room) in
    record {
      base = c.expand.ensures.base ∙ c.loop-i.invariant.base;
      searching = h;
      shallow = shallow_more m c.args.start.now (visits_of t) t.found.items (c.loop-i.i + 1) 0 c.loop-i.i c.args.most
          (keyed_visit key v) h.exploring (c.in_ok-room.ensures.same ∙ at) c.if-depth-most.false;
      fresh = c.in_ok-room.ensures.fresh;
      room = c.in_ok-room.ensures.room;
    }

pub overflow_sub-len : goal.overflow_sub-len
overflow_sub-len g c =
    let s = c.loop-i.search in
    let h = c.loop-i.invariant.searching in
    omega (arith, visit_count s h.keyed)

pub index-requires-2 : goal.index-requires-2
index-requires-2 g c =
    let s = c.loop-i.search in
    let h = c.loop-i.invariant.searching in
    omega (arith, visit_count s h.keyed)

pub returns : goal.returns
returns g c =
    let h = c.loop-i.invariant in
    closed_done h.base h.searching h.room c.index-2.result.now (c.len-2.result - 1) refl (omega arith)
    (omega arith) c.index-2.ensures h.shallow

pub loop-i-init : goal.loop-i-init
loop-i-init g c =
    let m = g.S.System.model (g.S.System.base c.args.system.now) in
    let s = c.in_ok-search.search in
    let b = c.in_ok-search.ensures.begun in
    let vs = visits_of s in
    let one : length vs ≡ 1 = rw b.one in
    let count = visit_count s c.in_ok-search.ensures.keys in
    record {
      base = refl;
      searching = record {
        exploring = begun m c.args.start.now vs s.found.items b;
        ranked = ranked_begun c.args.start.now vs s.found.items b;
        keyed = c.in_ok-search.ensures.keys;
        told = c.in_ok-search.ensures.labels;
        kept = c.in_ok-search.ensures.kept;
      };
      shallow = λ j u low e. absurd (omega arith);
      fresh = λ some. let first = c.new-buffers.ensures in let then = c.begin.ensures.fresh in absurd (omega arith);
      room = omega arith;
    }
