use Rattle.std.proofs.Common.{sym, subst, true, ◌%◌, ◌∙◌, None}
use Rattle.std.specs.Prelude.{slice_index_or}
use Rattle.pip_entry.specs.declared.leaf.Leaf.TheVariants.{Page}
use Rattle.pip_model.specs.Cache.{Agrees, holding}
use Rattle.pip_mmu.specs.Answers.{reached_of, word_in}
use Rattle.pip_mmu.proofs.Caching.{agrees_counted, hit_leaf}
use Rattle.pip_mmu.proofs.Leaves.{reach_by_leaf}
use Rattle.pip_mmu.proofs.cached.page_through.Goals as goal

pub returns-in-Some-clause-reached : goal.returns-in-Some-clause-reached
returns-in-Some-clause-reached g c t x s lays found old =
    reach_by_leaf t c.args.part c.args.va c.of_address.result x c.args.access (Page c.in-Some.held.0 true
    c.in-Some.held.1) (reached_of (word_in c.args.va c.through.result)) found c.of_address.ensures
    (hit_leaf t c.args.part c.of_address.result x found
    (slice_index_or c.args.cache.now.at (c.of_address.result % 64) None) c.in-Some.held.0 c.in-Some.held.1
    (old (c.of_address.result % 64)) (sym c.in-Some.is ∙ c.lookup.ensures.answer)) (c.through.ensures c.args.va)

pub returns-in-Some-clause-agrees : goal.returns-in-Some-clause-agrees
returns-in-Some-clause-agrees g c t x s lays found old = subst (Agrees t) (sym c.lookup.ensures.counts)
    (agrees_counted t c.args.cache.now (holding c.args.cache.now c.args.part c.of_address.result) old)

pub returns-in-None-clause-reached : goal.returns-in-None-clause-reached
returns-in-None-clause-reached g c t x s lays found old = c.after_miss.ensures.reached t x s lays found

pub returns-in-None-clause-agrees : goal.returns-in-None-clause-agrees
returns-in-None-clause-agrees g c t x s lays found old =
    c.after_miss.ensures.agrees t x s lays found (subst (Agrees t) (sym c.lookup.ensures.counts)
    (agrees_counted t c.args.cache.now (holding c.args.cache.now c.args.part c.of_address.result) old))
