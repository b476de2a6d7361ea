use Rattle.pip_model.specs.Handlers.{save_place}
use Rattle.pip_model.proofs.Events.Soundness.{saved-sound}
use Rattle.pip_switch.proofs.Blocking.{save_open}
use Rattle.pip_switch.proofs.saves.save_in.Goals as goal

pub returns-clause-tree : goal.returns-clause-tree
returns-clause-tree g c t x s laid found = (
  saved-sound t c.args.ctx.now (save_place t c.args.part c.args.vector) c.requires.context s,
  c.save_at.ensures.tree t (save_place t c.args.part c.args.vector) s laid
      (save_open t c.args.part c.args.vector x s found) (c.find_place-place.ensures.place t x s laid found),
)
