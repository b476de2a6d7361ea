use Rattle.std.specs.Prelude.{option_map}
use Rattle.pip_model.specs.Tree.{vpage}
use Rattle.pip_space.specs.Rows.{full_of}
use Rattle.pip_apart.proofs.Entries.{lent_row, no_row}
use Rattle.pip_apart.proofs.taken.is_lent.Goals as goal

pub returns-in-Some : goal.returns-in-Some
returns-in-Some g c t x s lays is =
    lent_row t s x is (vpage c.args.va) (option_map full_of c.row_at.result) (full_of c.in-Some.row) c.is_free.result
    (c.row_at.ensures.row t x s lays (cc)) (rw c.in-Some.is) c.is_free.ensures

pub returns-in-None : goal.returns-in-None
returns-in-None g c t x s lays is =
    no_row t s x is (vpage c.args.va) (option_map full_of c.row_at.result) (c.row_at.ensures.row t x s lays (cc))
    (rw c.in-None.is)
