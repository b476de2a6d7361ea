use Rattle.std.proofs.Common.{◌≡◌, ℕ, Bool, List, [], ◌∷◌, length, length-append, Some, slice_get}
use Rattle.std.proofs.Common.{refl, ap, subst, ◌∙◌, arith}
use Rattle.pip_search.specs.Again.{IsShownAmong}
use Rattle.pip_search.specs.Keys.{key_of, visits_of}
use Rattle.pip_search.proofs.Looking.{flags_more, no_edges}
use Rattle.pip_search.proofs.again.look_everywhere.Goals as goal

pub look_around-requires-clause-key : goal.look_around-requires-clause-key
look_around-requires-clause-key g c = rw c.loop-i.invariant.base c.requires.key

pub look_around-requires-clause-one : goal.look_around-requires-clause-one
look_around-requires-clause-one g c = rw c.loop-i.invariant.base c.requires.one

pub look_around-requires-clause-edges : goal.look_around-requires-clause-edges
look_around-requires-clause-edges g c = rw c.loop-i.invariant.base c.loop-i.invariant.edges

pub loop-i-init : goal.loop-i-init
loop-i-init g c =
    let m = g.S.System.model (g.S.System.base c.args.system.now) in
    let none = c.in_ok-edges.ensures.hashes in
    record {
      base = refl;
      filed = c.in_ok-edges.ensures.filed;
      edges = no_edges m (visits_of c.args.search.now) c.args.width c.in_ok-edges.edges.hashes.items none;
      count = omega (arith, ap length none);
      flags = λ j u b at is. absurd (let n = c.new-flags.ensures.items in none_at c.new-flags.result.items j b n is);
      places = rw c.new-flags.ensures.items;
    }
  where
    none_at : (bs : List Bool) (j : ℕ) (b : Bool) → bs ≡ [] → slice_get bs j ≡ Some b → ⊥
    none_at [] j b n e = cc
    none_at (x ∷ bs) j b n e = cc

pub loop-i-preserved : goal.loop-i-preserved
loop-i-preserved g c =
    let m = g.S.System.model (g.S.System.base c.args.system.now) in
    let vs = visits_of c.args.search.now in
    let h = c.loop-i.invariant in
    let own = c.in_ok-shows.ensures in
    let flags = c.loop-i.flags.items in
    let shows = c.in_ok-shows.shows in
    record {
      base = own.base ∙ h.base;
      filed = own.filed;
      edges = rw (← h.base) own.edges;
      count = own.count;
      flags = rw c.in_ok-push.ensures.items (flags_more m vs c.args.label.now c.args.width flags c.loop-i.i shows
          h.flags h.places (λ u at. subst (λ b. IsShownAmong (g.S.System.model b) (key_of u) c.args.label.now
          c.args.width shows) h.base (own.flag u at)));
      places = rw (c.in_ok-push.ensures.items, length-append flags (shows ∷ []), h.places);
    }
