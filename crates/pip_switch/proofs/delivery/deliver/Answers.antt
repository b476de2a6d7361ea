use Rattle.std.proofs.Common.{◌∙◌, ap, sym, subst}
use Rattle.pip_switch.specs.Plain.{plain_world}
use Rattle.pip_model.specs.Deliver.{deliver, nearest_taker}
use Rattle.pip_switch.specs.Standing.{Came}
use Rattle.pip_switch.proofs.Delivered.{parked, switched}
use Rattle.pip_switch.proofs.Running.{can_save, named_there, part_found, part_stands}
use Rattle.pip_switch.proofs.delivery.deliver.Goals as goal

pub find_taker-taker-requires-clause-stands : goal.find_taker-taker-requires-clause-stands
find_taker-taker-requires-clause-stands g c = part_stands _ _ c.args.cpu c.requires.world c.args.part c.requires.runs

pub save-requires-clause-saves : goal.save-requires-clause-saves
save-requires-clause-saves g c = can_save _ _ c.args.cpu c.requires.world

pub returns-in-None-clause-event : goal.returns-in-None-clause-event
returns-in-None-clause-event g c w r s runs =
    let x = part_found _ _ c.args.cpu w s c.args.part c.requires.runs in
    subst (λ o. Came (deliver w c.args.cpu r c.args.raised.vector c.args.raised.a c.args.raised.b) o
    (g.M.Frames.memory c.save.new.mem)
    c.set_running.new.cpus.items) (sym c.parked.ensures)
    (parked _ _ _ _ w s c.args.cpu r runs c.args.part c.requires.runs c.args.raised.vector c.args.raised.a
    c.args.raised.b
    c.find_taker-taker.result
    (c.find_taker-taker.ensures.taker w.tree x.0 s.sound.tree s.shows.laid x.1
    ∙ ap (λ cs. nearest_taker (plain_world w.tree cs) c.args.part c.args.raised.vector) c.as_slice.ensures.value)
    (c.save.ensures.tree w.tree s.sound.tree s.shows.laid (named_there _ _ c.args.cpu w s)) c.in-None.is
    c.set_running.ensures.set)

pub returns-in-Some-clause-event : goal.returns-in-Some-clause-event
returns-in-Some-clause-event g c w r s runs =
    let x = part_found _ _ c.args.cpu w s c.args.part c.requires.runs in
    subst (λ o. Came (deliver w c.args.cpu r c.args.raised.vector c.args.raised.a c.args.raised.b) o
    (g.M.Frames.memory c.save.new.mem)
    c.set_running-in-Some.new.cpus.items) (sym c.switched.ensures)
    (switched _ _ _ _ w s c.args.cpu r runs c.args.part c.requires.runs c.args.raised.vector c.args.raised.a
    c.args.raised.b
    c.find_taker-taker.result
    (c.find_taker-taker.ensures.taker w.tree x.0 s.sound.tree s.shows.laid x.1
    ∙ ap (λ cs. nearest_taker (plain_world w.tree cs) c.args.part c.args.raised.vector) c.as_slice.ensures.value)
    (c.save.ensures.tree w.tree s.sound.tree s.shows.laid (named_there _ _ c.args.cpu w s)) c.in-Some.y c.in-Some.is
    c.entering-runs.result c.entering-runs.ensures c.set_running-in-Some.ensures.set)
