use Rattle.std.proofs.Common.{ap, ◌∙◌, ◌≡◌, true}
use Rattle.bitflags.proofs.OnLiterals.{bitflags_on_literals}
use Rattle.pip_model.specs.Booting.{user_row as user_row_of}
use Rattle.pip_kern.proofs.root.user_row.Goals as goal

pub returns : goal.returns
unfolding bitflags_on_literals
returns c =
    let all : c.all.result.0 ≡ 7 = c.all.ensures tt in
    rw (all, c.new.ensures)
