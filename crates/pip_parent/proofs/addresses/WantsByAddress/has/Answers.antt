use Rattle.std.proofs.Common.{◌-◌, ◌==◌, ap, ◌∙◌, arith}
use Rattle.std.proofs.lemmas.Bool.{ne_eqb}
use Rattle.pip_parent.specs.Seen.{chain_of_want, last}
use Rattle.pip_parent.proofs.Chains.{first_left, next_left, next_smaller}
use Rattle.pip_parent.proofs.addresses.WantsByAddress.has.Goals as goal

pub loop-at-init : goal.loop-at-init
loop-at-init c =
    first_left c.args.wants.now c.args.i _ (c.requires.known.latest c.chain_of.result c.chain_of.ensures.low
    ∙ ap (λ n. last (λ w. chain_of_want w == n) c.args.wants.now c.args.i) c.chain_of.ensures.chain)

pub loop-at-smaller : goal.loop-at-smaller
loop-at-smaller c =
    next_smaller c.args.wants.now c.args.i c.loop-at.at (c.loop-at.at - 1) _
    (omega arith) (c.requires.known.before (c.loop-at.at - 1) (omega arith))

pub loop-at-preserved : goal.loop-at-preserved
loop-at-preserved c =
    let t = c.loop-at-test.true in
    next_left c.args.wants.now c.args.i c.loop-at.at (c.loop-at.at - 1) _ c.loop-at.invariant (omega (
      arith,
      t,
    )) (ne_eqb _ _ c.if-wants-at.false) (c.requires.known.before (c.loop-at.at - 1) (omega arith))
