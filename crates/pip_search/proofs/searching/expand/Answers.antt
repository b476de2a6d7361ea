use Rattle.std.proofs.Common.{◌≡◌, ◌<◌, arith, refl, length, false}
use Rattle.pip_search.specs.Keys.{steps_of, visits_of}
use Rattle.pip_search.proofs.Ranking.{ranked_next}
use Rattle.pip_search.proofs.Telling.{next_visit}
use Rattle.pip_search.proofs.Steps.{visit_count}
use Rattle.pip_search.proofs.searching.expand.Goals as goal

pub make-requires-clause-key : goal.make-requires-clause-key
make-requires-clause-key g c = rw c.loop-choice.invariant.base c.requires.key

pub loop-choice-init : goal.loop-choice-init
loop-choice-init g c = record {
  base = refl;
  searching = c.requires.searching;
  hand = c.in_ok-bring_key.ensures.hand;
  fresh = λ some. let none = c.bring_key.ensures.fresh in absurd (omega arith);
  same = refl;
  grows = omega arith;
  room = c.requires.room;
}

pub returns-clause-made : goal.returns-clause-made
returns-clause-made g c = λ t.
    let m = g.S.System.model (g.S.System.base c.args.system.now) in
    let s = c.loop-choice.search in
    let n = c.count-count.ensures in
    let whole : c.loop-choice.choice ≡ m.choices = omega arith in
    let grows = c.loop-choice.invariant.grows in
    let h = c.loop-choice.invariant.searching in
    let vs = visits_of s in
    let count = visit_count s h.keyed in
    let inside : c.args.i < length vs = omega arith in
    record {
      exploring = next_visit m c.args.start.now vs s.found.items c.args.i c.loop-choice.choice h.exploring whole inside;
      ranked = ranked_next (steps_of vs) s.found.items c.args.i c.loop-choice.choice h.ranked;
      keyed = h.keyed;
      told = h.told;
      kept = h.kept;
    }

pub returns-then-not-room-clause-beyond : goal.returns-then-not-room-clause-beyond
returns-then-not-room-clause-beyond g c = λ t.
    let room : c.in_ok-room.room ≡ false = c.if-not-room.true in
    rw (← c.loop-choice.invariant.base) (c.in_ok-room.ensures.beyond room)
