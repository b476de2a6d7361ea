use Rattle.std.proofs.lemmas.Result.{on_err_weaker}
use Rattle.pip_io.proofs.Taken.{on_err}
use Rattle.pip_io.proofs.Written.{front_cut, rest_cut}
use Rattle.pip_io.proofs.driver.write_pieces.Goals as goal

pub returns-in_err-write_all-clause-prefix : goal.returns-in_err-write_all-clause-prefix
returns-in_err-write_all-clause-prefix g c =
    on_err _ _ (front_cut _ _ _ _ _ c.parts.ensures c.in_err-write_all.ensures.prefix)

pub returns-clause-prefix : goal.returns-clause-prefix
returns-clause-prefix g c = on_err_weaker _
    (rest_cut _ _ _ _ _ _ c.parts.ensures c.in_ok-write_all.ensures.whole) c.write_all-2.ensures.prefix
