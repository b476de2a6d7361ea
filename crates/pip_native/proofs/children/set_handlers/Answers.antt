use Rattle.std.proofs.Common.{◌≡◌, ◌+◌, suc, ◌∙◌, subst, arith}
use Rattle.pip_native.specs.Watching.{with_handlers}
use Rattle.pip_native.proofs.children.set_handlers.Goals as goal

pub store-requires-clause-cpu : goal.store-requires-clause-cpu
store-requires-clause-cpu g c = omega arith

pub loop-k-preserved : goal.loop-k-preserved
loop-k-preserved g c = let e : suc c.loop-k.k ≡ c.loop-k.k + 1 = omega arith in record {
  world = λ w h. subst (λ k. g.P.Port.stands c.store.new.self (with_handlers w k)) e
      (c.store.ensures.event _ (c.loop-k.invariant.world w h)).1;
  count = c.store.ensures.count ∙ c.loop-k.invariant.count;
}
