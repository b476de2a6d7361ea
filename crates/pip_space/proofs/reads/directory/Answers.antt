use Rattle.std.proofs.Common.{◌∙◌, ◌<◌, length, subst, arith}
use Rattle.pip_model.proofs.Nodes.Reads.{directory_inside, name_inside}
use Rattle.pip_space.proofs.Tables.{read_place}
use Rattle.pip_space.proofs.reads.directory.Goals as goal

pub word-requires-clause-frame : goal.word-requires-clause-frame
word-requires-clause-frame g c =
    let n = c.requires in
    rw (← n.name) (name_inside _ n.node n.cells n.is_in)

pub new-requires : goal.new-requires
new-requires g c =
    let n = c.requires in
    omega (
      arith,
      directory_inside _ n.node n.cells n.is_in c.args.level,
      read_place _ n.node n.cells n.is_in c.args.part n.name c.args.level c.place.result c.place.ensures,
    )

pub returns-clause-frame : goal.returns-clause-frame
returns-clause-frame g c x cells node name =
    c.new.ensures
    ∙ (c.word.ensures.word ∙ read_place _ x cells node c.args.part name c.args.level c.place.result c.place.ensures)
