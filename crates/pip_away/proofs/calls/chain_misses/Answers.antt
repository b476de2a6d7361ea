use Rattle.std.proofs.Common.{◌≡◌, ◌∙◌, ◌-◌, ap, arith, sym}
use Rattle.pip_guests.specs.Sights as tests
use Rattle.pip_away.specs.Blind.{sight_of}
use Rattle.pip_away.proofs.Calling.{chain_met, chain_passed}
use Rattle.pip_away.proofs.calls.chain_misses.Goals as goal

pub returns-then-not-sees : goal.returns-then-not-sees
returns-then-not-sees g c t x s laid found =
    chain_met (sight_of c.args.blind.now) t c.args.part c.args.first c.loop-i.at c.loop-i._i c.link_at-link.result.0
    (c.loop-i.invariant t x s laid found) c.loop-i-test.true (c.link_at-link.ensures.page t x s laid found)
    (sym c.sees.ensures ∙ c.if-not-sees.true)

pub loop-i-preserved : goal.loop-i-preserved
loop-i-preserved g c t x s laid found =
    chain_passed (sight_of c.args.blind.now) t c.args.part c.args.first c.loop-i.at c.loop-i._i
    c.link_at-link.result.0 (c.loop-i.invariant t x s laid found) c.loop-i-test.true
    (c.link_at-link.ensures.page t x s laid found) (sym c.sees.ensures ∙ c.if-not-sees.false) c.link_at-link.result.1
    (c.link_at-link.ensures.next t x s laid found)

pub returns : goal.returns
returns g c t x s laid found =
    let end : c.loop-i._i ≡ 3 = omega arith in
    sym (c.loop-i.invariant t x s laid found
    ∙ ap (λ n. tests.chain_passes (sight_of c.args.blind.now) t c.args.part (3 - n) c.loop-i.at) end)
