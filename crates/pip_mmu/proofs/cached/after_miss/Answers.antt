use Rattle.std.proofs.Common.{◌/◌, ◌%◌, refl, sym, ap, subst, ◌∙◌}
use Rattle.std.specs.Prelude.{Ok, Err}
use Rattle.pip_entry.specs.declared.leaf.Leaf.TheVariants.{Empty, Page}
use Rattle.pip_model.specs.FullRows.{full_rows}
use Rattle.pip_model.specs.Reach.{Faulted, Unmapped}
use Rattle.pip_model.proofs.Frames.Laid.{laid_space}
use Rattle.pip_model.proofs.Trees.Lookup.{found_name}
use Rattle.pip_mmu.specs.Answers.{reached_of, word_in}
use Rattle.pip_mmu.specs.Faults.{translation_fault}
use Rattle.pip_model.specs.Cache.{Agrees}
use Rattle.pip_mmu.proofs.Caching.{agrees_filled, fault_left, fill_left, usable_new}
use Rattle.pip_mmu.proofs.Leaves.{reach_by_leaf}
use Rattle.pip_mmu.proofs.cached.after_miss.Goals as goal

pub returns-in-Empty-clause-reached : goal.returns-in-Empty-clause-reached
returns-in-Empty-clause-reached g c t x s lays found =
    reach_by_leaf t c.args.part c.args.va c.of_address-v.result x c.args.access Empty (Faulted Unmapped) found
    c.of_address-v.ensures
    (sym c.in-Empty.is ∙ c.mmu_leaf.ensures.leaf x (full_rows t x) (laid_space t s _ lays c.args.part x found)
    (found_name t c.args.part x found)) refl

pub returns-in-Empty-clause-cache : goal.returns-in-Empty-clause-cache
returns-in-Empty-clause-cache g c t x s lays found = fault_left t c.args.part c.args.va x c.args.access found
    c.args.cache.now Unmapped (returns-in-Empty-clause-reached g c t x s lays found)

pub returns-in-Ok-clause-reached : goal.returns-in-Ok-clause-reached
returns-in-Ok-clause-reached g c t x s lays found =
    reach_by_leaf t c.args.part c.args.va c.of_address-v.result x c.args.access (Page c.in-Page.frame c.in-Page.user
    c.in-Page.rights) (reached_of (word_in c.args.va (Ok c.in-Ok.page))) found c.of_address-v.ensures
    (sym c.in-Page.is ∙ c.mmu_leaf.ensures.leaf x (full_rows t x) (laid_space t s _ lays c.args.part x found)
    (found_name t c.args.part x found))
    (ap (λ r. reached_of (word_in c.args.va r)) (sym c.in-Ok.is) ∙ c.through.ensures c.args.va)

pub returns-in-Err-clause-reached : goal.returns-in-Err-clause-reached
returns-in-Err-clause-reached g c t x s lays found =
    reach_by_leaf t c.args.part c.args.va c.of_address-v.result x c.args.access (Page c.in-Page.frame c.in-Page.user
    c.in-Page.rights) (reached_of (word_in c.args.va (Err c.in-Err.fault))) found c.of_address-v.ensures
    (sym c.in-Page.is ∙ c.mmu_leaf.ensures.leaf x (full_rows t x) (laid_space t s _ lays c.args.part x found)
    (found_name t c.args.part x found))
    (ap (λ r. reached_of (word_in c.args.va r)) (sym c.in-Err.is) ∙ c.through.ensures c.args.va)

pub returns-in-Err-clause-cache : goal.returns-in-Err-clause-cache
returns-in-Err-clause-cache g c t x s lays found = fault_left t c.args.part c.args.va x c.args.access found
    c.args.cache.now (translation_fault c.in-Err.fault) (returns-in-Err-clause-reached g c t x s lays found)

pub returns-in-Ok-clause-cache : goal.returns-in-Ok-clause-cache
returns-in-Ok-clause-cache g c t x s lays found =
    c.fill.ensures ∙ fill_left t c.args.part c.args.va c.of_address-v.result x c.args.access found c.args.cache.now
    c.of_address-v.ensures c.in-Page.frame c.in-Page.user c.in-Page.rights c.in-Ok.page (c.args.va % 4096 / 4)
    (sym c.in-Page.is ∙ c.mmu_leaf.ensures.leaf x (full_rows t x) (laid_space t s _ lays c.args.part x found)
    (found_name t c.args.part x found)) (returns-in-Ok-clause-reached g c t x s lays found)

pub returns-in-Ok-clause-agrees : goal.returns-in-Ok-clause-agrees
returns-in-Ok-clause-agrees g c t x s lays found old =
    subst (Agrees t) (sym c.fill.ensures)
    (agrees_filled t c.args.cache.now _ old (usable_new t c.args.part c.args.va c.of_address-v.result x
    c.args.access found c.in-Page.frame c.in-Page.user c.in-Page.rights c.in-Ok.page (c.args.va % 4096 / 4)
    (sym c.in-Page.is ∙ c.mmu_leaf.ensures.leaf x (full_rows t x) (laid_space t s _ lays c.args.part x found)
    (found_name t c.args.part x found))
    (ap (λ r. reached_of (word_in c.args.va r)) (sym c.in-Ok.is) ∙ c.through.ensures c.args.va)))
