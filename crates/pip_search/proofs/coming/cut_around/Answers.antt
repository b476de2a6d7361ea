use Rattle.std.proofs.Common.{◌≡◌, ◌+◌, length, length-append}
use Rattle.std.proofs.Common.{[], ◌∷◌, ◌++◌, refl, subst, ◌∙◌, arith}
use Rattle.pip_search.specs.Comes.{AreCutEdges, IsCutEdge}
use Rattle.pip_search.specs.Keys.{key_of, visits_of}
use Rattle.pip_search.proofs.Looping.{cut_is, cut_more}
use Rattle.pip_search.proofs.Places.{get-some}
use Rattle.pip_search.proofs.Steps.{visit_count}
use Rattle.pip_search.proofs.coming.cut_around.Goals as goal

pub look-requires-clause-key : goal.look-requires-clause-key
look-requires-clause-key g c = rw c.loop-choice.invariant.base c.requires.key

pub look-requires-clause-one : goal.look-requires-clause-one
look-requires-clause-one g c = rw c.loop-choice.invariant.base c.requires.one

pub look-requires-clause-choice : goal.look-requires-clause-choice
look-requires-clause-choice g c = rw c.loop-choice.invariant.base
    (omega (arith, c.loop-choice-test.true, c.count-count.ensures))

pub loop-choice-init : goal.loop-choice-init
loop-choice-init g c = record {
  base = refl;
  hand = c.in_ok-read_key.ensures;
  cut = c.requires.cut;
  count = omega arith;
}

pub loop-choice-preserved : goal.loop-choice-preserved
loop-choice-preserved g c =
    let m = g.S.System.model (g.S.System.base c.args.system.now) in
    let h = c.loop-choice.invariant in
    let own = c.in_ok-to.ensures in
    let vs = visits_of c.args.search.now in
    let places = visit_count c.args.search.now c.requires.closed.searching.keyed in
    let n = c.loop-choice.choice in
    let label = c.args.label.now in
    let from = c.loop-choice.buffers.from.items in
    let targets = c.loop-choice.targets.items in
    let t = c.cut.result in
    let (u, at) = get-some vs c.args.i (omega arith) in
    let is : from ≡ key_of u = h.hand u at in
    let here : IsCutEdge m vs (key_of u) n label t = rw (← is)
    (subst (λ b. IsCutEdge (g.S.System.model b) vs from n label t) h.base
    (cut_is (g.S.System.model (g.S.System.base c.loop-choice.system)) vs from label n c.in_ok-to.to t c.in_ok-to.shown
    own.edge own.shows own.other c.cut.ensures.shown c.cut.ensures.other)) in
    let all : AreCutEdges m vs label m.choices (targets ++ t ∷ []) = cut_more m vs label m.choices targets
    c.args.i n t u
    h.cut h.count (omega arith) at here in
    let long : length c.push.new.self.items ≡ length targets + 1 = rw
    (c.in_ok-push.ensures.items, length-append targets (t ∷ [])) in
    record {
      base = own.base ∙ h.base;
      hand = λ v e. own.hand ∙ h.hand v e;
      cut = rw c.in_ok-push.ensures.items all;
      count = omega arith;
    }
