use Rattle.std.proofs.Common.{refl, arith, ◌∙◌}
use Rattle.pip_search.proofs.Staging.{zeros_most}
use Rattle.pip_search.proofs.stages.settle_from.Goals as goal

pub loop-turn-init : goal.loop-turn-init
loop-turn-init c = record {
  count = refl;
  staged = c.requires.staged;
  falls = let most = zeros_most c.args.stages.now in omega arith;
}

pub loop-turn-preserved : goal.loop-turn-preserved
loop-turn-preserved c =
    let h = c.loop-turn.invariant in
    let own = c.in_ok-all.ensures in
    let less = own.less c.in_default.is in
    record {
      count = own.count ∙ h.count;
      staged = rw (← h.count) own.staged;
      falls = omega arith;
    }

pub advance-requires-clause-places : goal.advance-requires-clause-places
advance-requires-clause-places c = rw c.loop-turn.invariant.count c.requires.places

pub advance-requires-clause-inside : goal.advance-requires-clause-inside
advance-requires-clause-inside c = rw c.loop-turn.invariant.count c.requires.inside

pub advance-requires-clause-staged : goal.advance-requires-clause-staged
advance-requires-clause-staged c = rw c.loop-turn.invariant.count c.loop-turn.invariant.staged

pub returns-in-Some : goal.returns-in-Some
returns-in-Some c = rw (c.in_ok-all.ensures.count ∙ c.loop-turn.invariant.count) at c.conclude.ensures
