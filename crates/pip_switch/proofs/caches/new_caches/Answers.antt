use Rattle.std.proofs.Common.{rules, ap, ◌∙◌, ◌++◌, ◌∷◌, []}
use Rattle.pip_model.specs.Cache.{empty_caches}
use Rattle.pip_switch.proofs.Emptying.{empty_more}
use Rattle.pip_switch.proofs.caches.new_caches.Goals as goal

pub loop-i-preserved : goal.loop-i-preserved
loop-i-preserved c = record {
  items = c.push.ensures.items ∙ ap (λ k. k ++ c.new.result ∷ []) c.loop-i.invariant.items
      ∙ ap (λ x. empty_caches c.loop-i._i ++ x ∷ []) c.new.ensures ∙ empty_more c.loop-i._i;
  count = search rules;
}
