-- Each choice is made at the key to which those before it led.
use Rattle.std.proofs.Common.{◌≡◌, ◌∙◌, sym, subst, get_or, take, arith}
use Rattle.pip_search.specs.Systems.{IsKey, LeadsOn}
use Rattle.pip_search.proofs.Following.{along_more, key_along}
use Rattle.pip_search.proofs.system.System.follow.Goals as goal

pub make-requires-clause-key : goal.make-requires-clause-key
make-requires-clause-key g c =
    let m = g.Self.System.model (g.Self.System.base c.args.self.now) in
    let i = c.loop-choice.choice-index in
    let same : c.swap.new.x.items ≡ c.loop-choice.to.items = cc in
    rw c.loop-choice.invariant.base (subst (λ k. IsKey m k) (sym (c.deref.ensures.value ∙ same))
    (key_along m c.args.from.now (take i c.args.way.now) c.loop-choice.to.items c.loop-choice.invariant.leads
    c.requires.key))

pub loop-choice-preserved : goal.loop-choice-preserved
loop-choice-preserved g c =
    let m = g.Self.System.model (g.Self.System.base c.args.self.now) in
    let i = c.loop-choice.choice-index in
    let d = get_or c.args.way.now i 0 in
    let next = c.make.new.to.items in
    let shown = c.make.new.shown.items in
    let same : c.swap.new.x.items ≡ c.loop-choice.to.items = cc in
    record {
      base = c.in_ok-make.ensures.base ∙ c.loop-choice.invariant.base;
      leads = along_more m c.args.from.now c.args.way.now c.loop-choice.to.items next shown i (omega arith)
          c.loop-choice.invariant.leads
          (rw (← same, ← c.deref.ensures.value) (subst
          (λ b. LeadsOn (g.Self.System.model b) c.deref.result.now d next shown) c.loop-choice.invariant.base
          c.in_ok-make.ensures.leads));
    }
