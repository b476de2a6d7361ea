use Rattle.std.proofs.Common.{false, rules, ◌≡◌, ◌+◌, arith, length, refl, sym, subst, ◌∙◌, IsTrue}
use Rattle.pip_search.specs.Keys.{key_of, keyed_visit, keyed_visits, visits_of}
use Rattle.pip_search.specs.Packing.{packed_key, unpacked_key}
use Rattle.pip_search.specs.Systems.{LeadsOn}
use Rattle.pip_search.specs.Collapsing.{keys_in}
use Rattle.pip_search.proofs.Freshness.{fresh_now}
use Rattle.pip_search.proofs.Keeping.{absent_key, kept_bytes, kept_more, kept_words}
use Rattle.pip_search.proofs.Making.{grew_same, grown_and_told}
use Rattle.pip_search.proofs.Staying.{stayed}
use Rattle.pip_search.proofs.Places.{get-some}
use Rattle.pip_search.proofs.Ranking.{ranked_more}
use Rattle.pip_search.proofs.Telling.{visit_key}
use Rattle.pip_search.proofs.Steps.{keyed_count, visit_count}
use Rattle.pip_search.proofs.Done.{visit_read}
use Rattle.pip_search.proofs.searching.make.Goals as goal

pub stays-requires-clause-key : goal.stays-requires-clause-key
stays-requires-clause-key g c =
    let m = g.S.System.model (g.S.System.base c.args.system.now) in
    let s = c.args.search.now in
    let count = visit_count s c.requires.searching.keyed in
    let (v, at) = get-some (visits_of s) c.args.i (omega arith) in
    rw (c.as_slice-key.ensures.value, c.requires.hand v at)
    (visit_key m c.args.start.now (visits_of s) s.found.items c.args.i c.args.choice c.requires.searching.exploring
    c.requires.key c.args.i v at)

pub returns-then-stays-clause-made : goal.returns-then-stays-clause-made
returns-then-stays-clause-made g c = λ t.
    let m = g.S.System.model (g.S.System.base c.args.system.now) in
    let s = c.args.search.now in
    let count = visit_count s c.requires.searching.keyed in
    let (v, at) = get-some (visits_of s) c.args.i (omega arith) in
    stayed m c.args.start.now s c.args.i c.args.choice v c.requires.searching at c.requires.choice
    (rw (← c.requires.hand v at, ← c.as_slice-key.ensures.value) (c.stays.ensures.stays c.if-stays.true))

pub make-requires-clause-key : goal.make-requires-clause-key
make-requires-clause-key g c =
    let m = g.S.System.model (g.S.System.base c.args.system.now) in
    let s = c.args.search.now in
    let count = visit_count s c.requires.searching.keyed in
    let (v, at) = get-some (visits_of s) c.args.i (omega arith) in
    rw (c.as_slice-key.ensures.value, c.requires.hand v at)
    (visit_key m c.args.start.now (visits_of s) s.found.items c.args.i c.args.choice c.requires.searching.exploring
    c.requires.key c.args.i v at)

pub reach_next-requires-clause-from : goal.reach_next-requires-clause-from
reach_next-requires-clause-from g c =
    let s = c.args.search.now in
    let count = visit_count s c.requires.searching.keyed in
    let (v, at) = get-some (visits_of s) c.args.i (omega arith) in
    kept_words (visits_of s) c.args.i v c.requires.searching.kept at (c.deref.ensures.value ∙ c.requires.hand v at)

pub overflow_add-step : goal.overflow_add-step
overflow_add-step g c =
    let s = c.args.search.now in
    let h = c.requires.searching in
    let (own, at) = visit_read s c.args.i c.index-from.result.now h.keyed (omega arith) c.index-from.ensures in
    omega (arith, h.exploring.low c.args.i (keyed_visit own c.index-from.result.now) at)

pub returns-clause-made : goal.returns-clause-made
returns-clause-made g c = λ t.
    let m = g.S.System.model (g.S.System.base c.args.system.now) in
    let s = c.args.search.now in
    let vs = visits_of s in
    let (own, at) = visit_read s c.args.i c.index-from.result.now c.requires.searching.keyed (omega arith)
    c.index-from.ensures in
    let v = keyed_visit own c.index-from.result.now in
    let room : IsTrue c.in_ok-room.room = search rules in
    let key = packed_key c.deref-2.result.now in
    let shown = c.deref-3.result.now in
    let run = c.run_from.result in
    let words : unpacked_key key ≡ c.make.new.to.items = c.in_ok-room.ensures.back ∙ c.deref-2.ensures.value in
    let packed : key ≡ packed_key c.make.new.to.items = rw c.deref-2.ensures.value in
    let h = c.requires.searching in
    let ws = keyed_visits (keys_in c.reach_next.new.store) c.reach_next.new.visits.items in
    let r = ranked_more vs ws s.found.items c.tell.new.found.items key shown c.args.i
    c.args.choice (v.depth + 1) run h.ranked (c.in_ok-room.ensures.grew room) c.in_ok-tell.ensures.told in
    record {
      exploring = grown_and_told m c.args.start.now vs s.found.items c.args.i c.args.choice h.exploring v
          key shown (v.depth + 1) run
          (record {
            at = at;
            can = c.requires.choice;
            leads = rw words (subst (λ k. LeadsOn m (key_of v) c.args.choice c.make.new.to.items k)
                (sym c.deref-3.ensures.value) (subst
                (λ k. LeadsOn m k c.args.choice c.make.new.to.items c.make.new.shown.items)
                (c.as_slice-key.ensures.value ∙ c.requires.hand v at) c.in_ok-make.ensures.leads));
            depth = refl;
            run = c.run_from.ensures;
          })
          ws c.tell.new.found.items r (c.in_ok-room.ensures.grew room) c.in_ok-tell.ensures.told;
      ranked = r;
      keyed = c.in_ok-room.ensures.keyed;
      told = c.in_ok-tell.ensures.named;
      kept = kept_more vs ws key c.args.i c.args.choice (v.depth + 1) run h.kept
          (kept_bytes c.make.new.to.items key packed words) (c.in_ok-room.ensures.grew room);
    }

pub returns-clause-fresh : goal.returns-clause-fresh
returns-clause-fresh g c =
    let s = c.args.search.now in
    let next = c.reach_next.new in
    let room : IsTrue c.in_ok-room.room = search rules in
    let key = packed_key c.deref-2.result.now in
    let words : unpacked_key key ≡ c.make.new.to.items = c.in_ok-room.ensures.back ∙ c.deref-2.ensures.value in
    let keyed = c.in_ok-room.ensures.keyed in
    fresh_now (visits_of s) (keyed_visits (keys_in next.store) next.visits.items) (length s.visits.items)
    (length next.visits.items) key c.make.new.to.items c.args.i c.args.choice _ c.run_from.result
    c.newest-buffers.result
    (visit_count s c.requires.searching.keyed) (keyed_count (keys_in next.store) next.visits.items keyed.count) words
    (λ l. let last = c.newest-buffers.ensures.more (omega arith) in omega arith)
    (λ l. c.newest-buffers.ensures.none (omega arith)) (c.in_ok-room.ensures.grew room)

pub returns-then-not-room-clause-beyond : goal.returns-then-not-room-clause-beyond
returns-then-not-room-clause-beyond g c = λ t.
    let m = g.S.System.model (g.S.System.base c.args.system.now) in
    let s = c.args.search.now in
    let vs = visits_of s in
    let (own, at) = visit_read s c.args.i c.index-from.result.now c.requires.searching.keyed (omega arith)
    c.index-from.ensures in
    let v = keyed_visit own c.index-from.result.now in
    let room : c.in_ok-room.room ≡ false = c.if-not-room.true in
    let key = packed_key c.deref-2.result.now in
    let packed : key ≡ packed_key c.make.new.to.items = rw c.deref-2.ensures.value in
    let full = c.in_ok-room.ensures.full room in
    rw (c.in_ok-room.ensures.stays room) (record {
      from = v;
      at = at;
      choice = c.args.choice;
      can = c.requires.choice;
      key = c.make.new.to.items;
      shown = c.make.new.shown.items;
      leads = subst
          (λ k. LeadsOn m k c.args.choice c.make.new.to.items c.make.new.shown.items)
          (c.as_slice-key.ensures.value ∙ c.requires.hand v at) c.in_ok-make.ensures.leads;
      full = full.count;
      absent
          = absent_key vs key c.make.new.to.items c.requires.searching.kept packed full.absent;
    })

pub returns-then-not-room-clause-left : goal.returns-then-not-room-clause-left
returns-then-not-room-clause-left g c = λ t.
    let m = g.S.System.model (g.S.System.base c.args.system.now) in
    let s = c.args.search.now in
    let h = c.requires.searching in
    let stay = c.in_ok-room.ensures.stays c.if-not-room.true in
    record {
      exploring = rw stay h.exploring;
      ranked = rw stay h.ranked;
      keyed = c.in_ok-room.ensures.keyed;
      told = h.told;
      kept = rw stay h.kept;
    }

pub returns-clause-same : goal.returns-clause-same
returns-clause-same g c =
    let s = c.args.search.now in
    let vs = visits_of s in
    let (own, at) = visit_read s c.args.i c.index-from.result.now c.requires.searching.keyed (omega arith)
    c.index-from.ensures in
    let v = keyed_visit own c.index-from.result.now in
    let room : IsTrue c.in_ok-room.room = search rules in
    grew_same vs (keyed_visits (keys_in c.reach_next.new.store) c.reach_next.new.visits.items)
    (packed_key c.deref-2.result.now) c.args.i
    c.args.choice (v.depth + 1) c.run_from.result c.args.i v at (c.in_ok-room.ensures.grew room)
