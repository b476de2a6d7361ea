use Rattle.std.proofs.Common.{◌∙◌, subst}
use Rattle.pip_parent.proofs.Stored.{link_more, with_words}
use Rattle.pip_parent.proofs.Working.{link_on}
use Rattle.pip_parent.specs.Stages.{link_caches, link_words}
use Rattle.pip_parent.proofs.calls.link.Goals as goal

pub loop-k-preserved : goal.loop-k-preserved
loop-k-preserved g c = record {
  linked = λ w old r runs can. subst (g.P.Port.stands c.store.new.self)
      (link_more w r c.args.cpu c.args.pool.now c.args.first c.loop-k.k runs (can c.loop-k.k c.loop-k-test.true))
      (c.store.ensures.event (with_words w (link_words w.tree r.name c.args.pool.now c.args.first c.loop-k.k)
      (link_caches w.tree w.caches c.args.cpu r.name c.args.pool.now c.args.first c.loop-k.k))
      (c.loop-k.invariant.linked w old r runs can)).1;
  work = link_on _ _ _ c.args.cpu c.args.pool.now _ _ _ c.args.first c.loop-k.k _ c.loop-k.invariant.work
      c.store.ensures.event c.store.ensures.work;
  count = c.store.ensures.count ∙ c.loop-k.invariant.count;
}
