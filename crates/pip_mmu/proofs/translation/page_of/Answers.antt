use Rattle.pip_model.specs.FullRows.{full_rows}
use Rattle.pip_model.proofs.Frames.Laid.{laid_space}
use Rattle.pip_model.proofs.Trees.Lookup.{found_name}
use Rattle.pip_mmu.specs.Answers.{reached_of, word_in}
use Rattle.pip_mmu.proofs.Leaves.{reach_by_leaf}
use Rattle.pip_mmu.proofs.translation.page_of.Goals as goal

pub returns-clause-reached : goal.returns-clause-reached
returns-clause-reached g c t x s lays found =
    reach_by_leaf t c.args.part c.args.va c.of_address.result x c.args.access c.walk-entry.result
    (reached_of (word_in c.args.va c.through.result)) found c.of_address.ensures
    (c.walk-entry.ensures.leaf x (full_rows t x) (laid_space t s _ lays c.args.part x found)
    (found_name t c.args.part x found)) (c.through.ensures c.args.va)
