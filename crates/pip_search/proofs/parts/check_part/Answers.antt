use Rattle.std.proofs.Common.{rules, arith, sym, subst, ◌∙◌, ◌≡◌, ◌≤◌, ◌∷◌, []}
use Rattle.std.specs.Prelude.{length}
use Rattle.std.proofs.lemmas.List.{length-map}
use Rattle.pip_search.specs.Parts.{IsWalked, portion_of, stop_at, stop_of, stops}
use Rattle.pip_search.proofs.Parting.{all_closed, first_grows, has_new}
use Rattle.pip_search.proofs.Portioning.{first_portion, portion_said, walked_first}
use Rattle.pip_search.proofs.parts.check_part.Goals as goal

pub meet_all-requires-clause-key : goal.meet_all-requires-clause-key
meet_all-requires-clause-key g c = rw c.loop-i.invariant.base c.requires.key

pub meet_all-requires-clause-growing : goal.meet_all-requires-clause-growing
meet_all-requires-clause-growing g c = rw c.loop-i.invariant.base c.loop-i.invariant.growing

pub returns-clause-closed : goal.returns-clause-closed
returns-clause-closed g c = λ p e.
    let m = g.S.System.model (g.S.System.base c.args.system.now) in
    let part = c.loop-i.part in
    let same : part ≡ p = cc in
    let whole : length part.keys.items ≤ c.loop-i.i = omega (
      arith,
      c.loop-i-test.false,
      c.len.ensures,
      part.keys.ok.0,
    ) in
    rw (← same) (all_closed m c.args.start.now part c.loop-i.i c.loop-i.invariant.growing whole)

pub loop-i-init : goal.loop-i-init
loop-i-init g c =
    let m = g.S.System.model (g.S.System.base c.args.system.now) in
    let start = c.args.start.now in
    let p = c.in_ok-part.part in
    let from = c.walk.new.buffers.from.items in
    let n = length c.args.way.now in
    let keys : stops p.keys.items ≡ stop_at from n ∷ [] = c.in_ok-part.ensures.keys in
    record {
      base = c.in_ok-walk.ensures.base;
      growing = first_grows m start p (stop_at from n) (c.in_ok-walk.ensures.reached c.if-not-branch.false) keys
          c.in_ok-part.ensures.found c.in_ok-part.ensures.labels;
      within = omega arith;
      begins = λ none.
          let few : n ≡ 0 = rw none in
          has_new [] (stops p.keys.items) start 0
          (rw (keys, c.in_ok-walk.ensures.stays none, few));
      kept = c.in_ok-part.ensures.kept;
      low = omega arith;
      walked = (
        from,
        (
          c.in_ok-walk.ensures.leads c.if-not-branch.false,
          walked_first m c.args.marks.now (stop_at from n) (portion_of p)
              (first_portion p (stop_at from n) keys c.in_ok-part.ensures.asked c.in_ok-part.ensures.found),
        ),
      );
      few = omega (arith, c.in_ok-part.ensures.count);
    }

pub loop-i-preserved : goal.loop-i-preserved
loop-i-preserved g c =
    let m = g.S.System.model (g.S.System.base c.args.system.now) in
    record {
      base = c.in_ok-at.ensures.base ∙ c.loop-i.invariant.base;
      growing = rw (← c.loop-i.invariant.base) c.in_ok-at.ensures.growing;
      within = c.in_ok-at.ensures.within;
      begins = λ none. c.in_ok-at.ensures.keeps c.args.start.now 0 (c.loop-i.invariant.begins none);
      kept = c.in_ok-at.ensures.kept;
      low = let more = c.in_ok-at.ensures.least in search (rules, arith);
      walked = let w = c.loop-i.invariant.walked in (
        w.0,
        (
          w.1.0,
          rw (← c.loop-i.invariant.base) (c.in_ok-at.ensures.walked (stop_at w.0 (length c.args.way.now))
              (subst (λ b. IsWalked (g.S.System.model b) c.args.marks.now (stop_at w.0 (length c.args.way.now))
              (portion_of c.loop-i.part) c.loop-i.i c.loop-i.at) (sym c.loop-i.invariant.base) w.1.1)),
        ),
      );
      few = omega (arith, c.in_ok-at.ensures.few, c.loop-i.invariant.few);
    }

pub returns-clause-says : goal.returns-clause-says
returns-clause-says g c = λ p e.
    let m = g.S.System.model (g.S.System.base c.args.system.now) in
    let part = c.loop-i.part in
    let same : part ≡ p = cc in
    let w = c.loop-i.invariant.walked in
    let low = c.loop-i.invariant.low in
    let whole : length part.keys.items ≤ c.loop-i.i = omega (
      arith,
      c.loop-i-test.false,
      c.len.ensures,
      part.keys.ok.0,
    ) in
    let size : length (stops part.keys.items) ≡ length part.keys.items = length-map part.keys.items stop_of in
    let all : c.loop-i.i ≡ length (stops part.keys.items) = omega arith in
    rw (← same) (portion_said m c.args.start.now c.args.way.now c.args.marks.now w.0 (portion_of part) c.loop-i.i
    c.loop-i.at w.1.0 w.1.1 all)
