use Rattle.std.proofs.Common.{◌∙◌, refl, sym, subst}
use Rattle.pip_model.specs.Answers.{five_of}
use Rattle.pip_model.specs.Handlers.{saved_to}
use Rattle.pip_model.specs.Switching.{with_zeros, yield, yield_place}
use Rattle.pip_switch.specs.Standing.{Came}
use Rattle.pip_switch.proofs.Blocking.{yield_open}
use Rattle.pip_switch.proofs.Running.{part_found, part_stands, runner_in, runs_there}
use Rattle.pip_switch.proofs.Switched.{came_yielded, saved_sound, saved_stands, yield_refused, zeroed, zeroed_there}
use Rattle.pip_switch.proofs.switching.yield_to.Goals as goal

pub check_yield-requires : goal.check_yield-requires
check_yield-requires g c = part_stands _ _ c.args.cpu c.requires.world c.args.caller c.requires.runs

pub unmask-requires : goal.unmask-requires
unmask-requires g c =
    let h = c.requires.world in
    let x = part_found _ _ c.args.cpu h.world h.stands c.args.caller c.requires.runs in
    let (r, runs, is) = runner_in _ _ c.args.cpu h.world h.stands c.args.caller c.requires.runs in
    let told = c.in-Ok.ensures.tested h.world x.0 h.stands x.1 in
    let q = yield_place h.world.tree c.args.caller (five_of c.args.args.now).x2 in
    saved_stands _ _ _ h.world h.stands c.args.cpu r runs c.args.caller q x.0 x.1
    (c.save_to.ensures.tree (zeroed r) (zeroed_there _ _ c.args.cpu c.requires.cpu c.set_reply.ensures.set r is)
    h.world.tree q h.stands.sound.tree h.stands.shows.laid
    (yield_open h.world.tree c.args.caller (five_of c.args.args.now).x2 x.0 h.stands.sound.tree x.1) told.1.2)

pub returns-in-Err-clause-event : goal.returns-in-Err-clause-event
returns-in-Err-clause-event g c w r s runs =
    let x = part_found _ _ c.args.cpu w s c.args.caller c.requires.runs in
    subst (λ o. Came (yield w c.args.cpu r (five_of c.args.args.now)) o (g.M.Frames.memory c.args.mem.now)
    c.put_reply.new.cpus.items) (sym c.put_reply.ensures.outcome)
    (yield_refused _ _ _ _ w s c.args.cpu r runs c.args.caller c.requires.runs (five_of c.args.args.now) c.in-Err.status
    (c.in-Err.ensures.tested w x.0 s x.1) refl c.put_reply.ensures.set)

pub returns-in-Ok-clause-event : goal.returns-in-Ok-clause-event
returns-in-Ok-clause-event g c w r s runs =
    let x = part_found _ _ c.args.cpu w s c.args.caller c.requires.runs in
    let told = c.in-Ok.ensures.tested w x.0 s x.1 in
    let q = yield_place w.tree c.args.caller (five_of c.args.args.now).x2 in
    let is = sym (runs_there _ _ c.args.cpu w s) ∙ runs in
    let saved = c.save_to.ensures.tree (zeroed r)
    (zeroed_there _ _ c.args.cpu c.requires.cpu c.set_reply.ensures.set r is)
    w.tree q s.sound.tree s.shows.laid
    (yield_open w.tree c.args.caller (five_of c.args.args.now).x2 x.0 s.sound.tree x.1) told.1.2 in
    subst (λ o. Came (yield w c.args.cpu r (five_of c.args.args.now)) o (g.M.Frames.memory c.unmask.new.mem)
    c.set_running.new.cpus.items) (sym c.switched.ensures)
    (came_yielded _ _ _ _ w s c.args.cpu r runs c.args.caller c.requires.runs (five_of c.args.args.now) _
    c.set_reply.ensures.set
    c.in-Ok.runs told.0 told.1.0 told.1.1 (c.unmask.ensures (saved_to w.tree (with_zeros r.ctx) q) x.0
    (saved_sound _ _ w s c.args.cpu r runs q) saved x.1) c.set_running.ensures.set)
