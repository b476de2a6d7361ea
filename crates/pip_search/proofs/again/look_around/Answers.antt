use Rattle.std.proofs.Common.{rules, ◌≡◌, ◌+◌, length, length-append}
use Rattle.std.proofs.Common.{[], ◌∷◌, ◌++◌, refl, subst, ◌∙◌, arith}
use Rattle.pip_search.specs.Again.{AreEdges, IsEdge, IsShownAmong, ShowsAt, ShowsOther}
use Rattle.pip_search.specs.Keys.{key_of, visits_of}
use Rattle.pip_search.proofs.Looking.{among_other, among_shown, edges_more}
use Rattle.pip_search.proofs.Places.{get-some}
use Rattle.pip_search.proofs.Steps.{visit_count}
use Rattle.pip_search.proofs.again.look_around.Goals as goal
use Rattle.pip_search.proofs.again.look_around.Goals.{else-shown, then-shown}

pub look-requires-clause-key : goal.look-requires-clause-key
look-requires-clause-key g c = rw c.loop-choice.invariant.base c.requires.key

pub look-requires-clause-one : goal.look-requires-clause-one
look-requires-clause-one g c = rw c.loop-choice.invariant.base c.requires.one

pub loop-choice-init : goal.loop-choice-init
loop-choice-init g c = record {
  base = refl;
  hand = c.in_ok-read_key.ensures;
  filed = c.requires.filed;
  edges = c.requires.edges;
  count = omega arith;
  flag = λ u at d low. absurd (omega arith);
}

pub loop-choice-preserved : goal.loop-choice-preserved
loop-choice-preserved g c =
    let m = g.S.System.model (g.S.System.base c.args.system.now) in
    let h = c.loop-choice.invariant in
    let own = c.in_ok-to.ensures in
    let vs = visits_of c.args.search.now in
    let places = visit_count c.args.search.now c.requires.closed.searching.keyed in
    let n = c.loop-choice.choice in
    let label = c.args.label.now in
    let from = c.loop-choice.buffers.from.items in
    let targets = c.loop-choice.edges.hashes.items in
    let to = c.in_ok-to.to in
    let (u, at) = get-some vs c.args.i (omega arith) in
    let is : from ≡ key_of u = h.hand u at in
    let edge : IsEdge m vs (key_of u) n to = rw (← is)
    (subst (λ b. IsEdge (g.S.System.model b) vs from n to) h.base own.edge) in
    let all : AreEdges m vs c.args.width (targets ++ to ∷ []) = edges_more m vs c.args.width targets c.args.i n to u
    h.edges h.count (omega arith) at edge in
    let long : length c.add.new.self.hashes.items ≡ length targets + 1 = rw
    (c.in_ok-add.ensures.hashes, length-append targets (to ∷ [])) in
    record {
      base = own.base ∙ h.base;
      hand = λ v e. own.hand ∙ h.hand v e;
      filed = c.in_ok-add.ensures.filed;
      edges = rw c.in_ok-add.ensures.hashes all;
      count = omega arith;
      flag = λ v e.
          let key : from ≡ key_of v = h.hand v e in
          let before : IsShownAmong m (key_of v) label n c.loop-choice.shows = h.flag v e in
          elim c.if-shown.branch [
            | then-shown w ↦
                let now : ShowsAt m (key_of v) n label = rw (← key)
                (subst (λ b. ShowsAt (g.S.System.model b) from n label) h.base (own.shows (search rules))) in
                rw w.shows-is (among_shown m (key_of v) label n c.loop-choice.shows before now)
            | else-shown w ↦
                let now : ShowsOther m (key_of v) n label = rw (← key)
                (subst (λ b. ShowsOther (g.S.System.model b) from n label) h.base (own.other (search rules))) in
                rw w.shows-is (among_other m (key_of v) label n c.loop-choice.shows before now)
          ];
    }

pub returns-clause-flag : goal.returns-clause-flag
returns-clause-flag g c = λ u at.
    let m = g.S.System.model (g.S.System.base c.args.system.now) in
    let end : c.loop-choice.choice ≡ c.args.width = omega arith in
    rw (← end) (c.loop-choice.invariant.flag u at)
