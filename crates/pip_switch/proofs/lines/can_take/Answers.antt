use Rattle.std.proofs.Common.{◌∙◌, sym, ap, ap₂, subst, Some, ◌≡◌}
use Rattle.std.specs.List.{list_any}
use Rattle.pip_model.specs.Partitions.{HasPartition}
use Rattle.pip_model.specs.Tree.{find_node}
use Rattle.pip_switch.specs.Occupied.{runs_name}
use Rattle.pip_switch.proofs.Placed.{cell_read}
use Rattle.pip_switch.proofs.Running.{root_held}
use Rattle.pip_switch.proofs.Taking.{take_away, take_here}
use Rattle.pip_model.proofs.Frames.ControlLays.{root_there}
use Rattle.pip_switch.proofs.lines.can_take.Goals as goal

pub is_masked-requires : goal.is_masked-requires
is_masked-requires g c =
    subst (HasPartition (g.M.Frames.memory c.args.mem.now)) (sym c.new-root.ensures) (root_held _ _ c.requires.world)

pub returns-then-runs-clause-can : goal.returns-then-runs-clause-can
returns-then-runs-clause-can g c w s =
    take_here _ _ c.args.cpu c.index-as_slice-cpu.result (c.index-as_slice-cpu.is
    ∙ cell_read _ _ c.as_slice.ensures.value c.args.cpu c.requires.cpu _) c.requires.cpu w s (sym (c.runs.ensures
    ∙ ap (λ p. runs_name p c.index-as_slice-cpu.result) c.new-root.ensures) ∙ c.if-runs.true) c.is_masked.result
    (c.is_masked.ensures.masked w.tree w.tree.root s.sound.tree s.shows.laid
    (subst (λ p. find_node w.tree p ≡ Some w.tree.root) (sym c.new-root.ensures) (root_there w.tree s.sound.tree)))

pub returns-clause-can : goal.returns-clause-can
returns-clause-can g c w s =
    take_away _ _ c.args.cpu c.index-as_slice-cpu.result (c.index-as_slice-cpu.is
    ∙ cell_read _ _ c.as_slice.ensures.value c.args.cpu c.requires.cpu _) c.requires.cpu w s (sym (c.runs.ensures
    ∙ ap (λ p. runs_name p c.index-as_slice-cpu.result) c.new-root.ensures) ∙ c.if-runs.false) c.is_running.result
    (c.is_running.ensures ∙ ap₂ (λ p k. list_any (λ o. runs_name p o) k) c.new-root.ensures c.as_slice-2.ensures.value)

pub returns-then-runs-clause-root : goal.returns-then-runs-clause-root
returns-then-runs-clause-root g c = root_held _ _ c.requires.world

pub returns-clause-root : goal.returns-clause-root
returns-clause-root g c = root_held _ _ c.requires.world
