use Rattle.std.proofs.Common.{arith, sym, subst}
use Rattle.pip_model.specs.NodeWords.{slots}
use Rattle.pip_config.specs.Lists.{PagesIn, put_slot}
use Rattle.pip_config.proofs.SlotWrites.{push_list}
use Rattle.pip_config.proofs.slots.push_slot.Goals as goal

pub returns-clause-list : goal.returns-clause-list
returns-clause-list g c more ts t list count room pairs =
    let put = c.write_slot.ensures.pages more (slots ts) t list.pages (omega arith) pairs in (
      push_list (g.M.Frames.memory c.args.mem.now) (g.M.Frames.memory c.write_slot.new.mem) c.args.first more ts t list
          (omega arith) (c.write_slot.ensures.small t pairs)
          (rw count put.0),
      put.1,
    )
