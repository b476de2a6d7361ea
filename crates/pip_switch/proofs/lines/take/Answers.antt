use Rattle.std.proofs.Common.{◌≡◌, ◌∙◌, sym, ap, subst, not, true, ◌==◌, ◌+◌, Some}
use Rattle.std.specs.Prelude.{filter}
use Rattle.pip_model.specs.Layout.{LaysOut}
use Rattle.pip_model.specs.Partitions.{HasPartition}
use Rattle.pip_model.specs.Tree.{find_node}
use Rattle.pip_model.specs.Worlds.{save_running, handler_context, with_masked, with_pending}
use Rattle.pip_model.proofs.Events.Soundness.{lines_left}
use Rattle.pip_switch.specs.Occupied.{on_cpu}
use Rattle.pip_switch.proofs.Running.{can_save, named_there, root_held}
use Rattle.pip_switch.proofs.Taking.{came_take}
use Rattle.pip_model.proofs.Frames.ControlLays.{root_stands, root_there}
use Rattle.pip_switch.proofs.lines.take.Goals as goal

pub pending-requires : goal.pending-requires
pending-requires g c = root_held _ _ c.requires.world

pub save-requires-clause-saves : goal.save-requires-clause-saves
save-requires-clause-saves g c = can_save _ _ c.args.cpu c.requires.world

pub set_masked-requires : goal.set_masked-requires
set_masked-requires g c =
    let k = c.requires.world in
    let l = c.save.ensures.tree k.world.tree k.stands.sound.tree k.stands.shows.laid
    (named_there _ _ c.args.cpu k.world k.stands) in
    subst (λ p. HasPartition (g.M.Frames.memory c.save.new.mem) p) (sym c.new-root.ensures)
    (root_stands (save_running k.world.tree (on_cpu c.args.cpus.now.items c.args.cpu)) l.0 _ l.1)

pub set_pending-requires : goal.set_pending-requires
set_pending-requires g c =
    let k = c.requires.world in
    let t = save_running k.world.tree (on_cpu c.args.cpus.now.items c.args.cpu) in
    let l = c.save.ensures.tree k.world.tree k.stands.sound.tree k.stands.shows.laid
    (named_there _ _ c.args.cpu k.world k.stands) in
    let m = c.set_masked.ensures.tree t t.root l.0 l.1
    (subst (λ p. find_node t p ≡ Some t.root) (sym c.new-root.ensures) (root_there t l.0)) in
    root_stands _ m.0 _ m.1

pub returns-clause-event : goal.returns-clause-event
returns-clause-event g c w s =
    let t = save_running w.tree (on_cpu c.args.cpus.now.items c.args.cpu) in
    let js = filter (λ i. not (i == c.args.line)) w.tree.root.pending in
    let l = c.save.ensures.tree w.tree s.sound.tree s.shows.laid (named_there _ _ c.args.cpu w s) in
    let m = c.set_masked.ensures.tree t t.root l.0 l.1
    (subst (λ p. find_node t p ≡ Some t.root) (sym c.new-root.ensures) (root_there t l.0)) in
    let laid = (c.set_pending.ensures.tree (with_masked c.new-root.result true t) js m.0 m.1
    (lines_left c.args.line w.tree.root.pending s.sound.tree.lines) (c.without_line-bits.ensures w.tree.root.pending
    s.sound.tree.lines (c.pending.ensures.lines w.tree s.sound.tree s.shows.laid))).1 in
    came_take _ _ _ _ w s c.args.cpu c.number_on-from.result c.args.line c.args.handler.now c.number_on-from.ensures
    (subst (λ p. LaysOut (with_pending js (with_masked p true t)) (g.M.Frames.memory c.set_pending.new.mem))
    c.new-root.ensures laid)
    c.entering.result (c.entering.ensures ∙ ap (λ p. record {
      name = p;
      ctx =
          handler_context c.args.handler.now (32 + c.args.line) 0 0 0;
    }) c.new-root.ensures) c.set_running.ensures.set
