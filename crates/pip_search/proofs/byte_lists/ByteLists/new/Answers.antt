-- There are no keys and no blocks.
use Rattle.pip_search.proofs.Stored.{none_kept, none_stored}
use Rattle.pip_search.proofs.byte_lists.ByteLists.new.Goals as goal

pub returns-clause-stored : goal.returns-clause-stored
returns-clause-stored c =
    none_stored (record { bytes = c.new.result; blocks = c.new-2.result; ends = c.new-3.result }) c.new-3.ensures.items
    c.new.ensures.items c.new-2.ensures.items

pub returns-clause-none : goal.returns-clause-none
returns-clause-none c =
    none_kept (record { bytes = c.new.result; blocks = c.new-2.result; ends = c.new-3.result }) c.new-3.ensures.items
