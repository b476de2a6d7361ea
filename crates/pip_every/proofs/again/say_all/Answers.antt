use Rattle.std.proofs.Common.{rules, arith, ◌≡◌, ℕ, List, ◌∷◌, [], map, length, length-append, Some, slice_get}
use Rattle.std.proofs.Common.{refl, subst, ◌∙◌}
use Rattle.std.proofs.lemmas.Option.{slice_get-map, slice_get_read}
use Rattle.pip_every.specs.Again.{IsSaid, shown_line}
use Rattle.pip_every.specs.declared.again.Again.{Again}
use Rattle.pip_every.proofs.Saying.{one_more_said}
use Rattle.pip_every.proofs.again.say_all.Goals as goal

pub say-requires-clause-key : goal.say-requires-clause-key
say-requires-clause-key g c =
    rw c.loop-line.invariant.base c.requires.key

pub say-requires-clause-one : goal.say-requires-clause-one
say-requires-clause-one g c =
    rw c.loop-line.invariant.base c.requires.one

pub loop-line-preserved : goal.loop-line-preserved
loop-line-preserved g c =
    let was = c.loop-line.invariant in
    let lines = map (λ v. v.items) c.args.lines.now in
    let said = c.loop-line.all.items in
    let r = c.in_ok-said.said in
    let own = subst (λ b. (x : (g.S.System.model b).State) → (g.S.System.model b).stands c.args.start.now x
    → IsSaid (g.S.System.model b) c.args.width x (shown_line c.as_slice.result.now) c.args.extent r) was.base
    c.in_ok-said.ensures.said in
    let same : (line : List ℕ) → slice_get lines c.loop-line.line-index ≡ Some line → c.as_slice.result.now ≡ line =
    λ line at.
    let item = slice_get_read c.args.lines.now (length c.args.lines.now) c.loop-line.line-index c.line-item.result refl
    (search (rules, arith)) c.line-item.is in
    let there : Some c.line-item.result.items ≡ Some line =
    cc (slice_get-map (λ v. v.items) c.args.lines.now c.loop-line.line-index) in
    c.as_slice.ensures.value ∙ cc in
    record {
      base = c.in_ok-said.ensures.base ∙ was.base;
      count = rw (c.in_ok-push.ensures.items, length-append said (r ∷ []), was.count);
      said = λ x stands.
          let IsOwn : List ℕ → Again → Type 0 = λ line v. IsSaid (g.S.System.model (g.S.System.base c.args.system.now))
          c.args.width x (shown_line line) c.args.extent v in
          rw c.in_ok-push.ensures.items (one_more_said IsOwn lines said c.loop-line.line-index r (was.said x stands)
          was.count (λ line at. subst (λ l. IsOwn l r) (same line at) (own x stands)));
    }
