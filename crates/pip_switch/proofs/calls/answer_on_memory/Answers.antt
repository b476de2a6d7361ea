use Rattle.std.proofs.Common.{◌+◌, ◌≤◌, arith, subst}
use Rattle.std.specs.Prelude.{slice_index}
use Rattle.pip_kern.specs.Calls.{Does}
use Rattle.pip_model.specs.CountToMap.{count_to_map}
use Rattle.pip_model.specs.DeletePartition.{delete_partition}
use Rattle.pip_model.specs.Happens as model
use Rattle.pip_switch.specs.Plain.{plain_world}
use Rattle.pip_model.specs.MappedInChild.{mapped_in_child}
use Rattle.pip_model.specs.Collect.{collect}
use Rattle.pip_model.specs.Prepare.{prepare}
use Rattle.pip_model.specs.Answers.{five_of}
use Rattle.pip_model.specs.Tree.{child_at}
use Rattle.pip_model.specs.Work.{climbing_work, deleting_work}
use Rattle.pip_model.specs.declared.call_name.MemoryCall.TheVariants.{AddVAddr, Collect, CountToMap, CreatePartition}
use Rattle.pip_model.specs.declared.call_name.MemoryCall.TheVariants.{DeletePartition, MappedInChild, Prepare}
use Rattle.pip_model.specs.declared.call_name.MemoryCall.TheVariants.{RemoveVAddr}
use Rattle.pip_switch.specs.Occupied.{names_on}
use Rattle.pip_switch.proofs.Working.{same_work}
use Rattle.pip_switch.proofs.Replying.{are_running, asked-gives, asked_tree, same-does}
use Rattle.pip_switch.proofs.calls.answer_on_memory.Goals as goal

pub delete_partition-requires-clause-running : goal.delete_partition-requires-clause-running
delete_partition-requires-clause-running g c =
    are_running _ _ c.requires.world c.names_of.result.items c.names_of.ensures

pub returns-in-CreatePartition-clause-does : goal.returns-in-CreatePartition-clause-does
returns-in-CreatePartition-clause-does g c =
    same-does (λ k t. model.answer k (plain_world t c.args.cpus.now.items) c.args.caller (five_of c.args.args.now))
    c.args.caller c.in-CreatePartition.is _ _ _ _ c.create_partition.ensures.does

pub returns-in-DeletePartition-clause-does : goal.returns-in-DeletePartition-clause-does
returns-in-DeletePartition-clause-does g c =
    same-does (λ k t. model.answer k (plain_world t c.args.cpus.now.items) c.args.caller (five_of c.args.args.now))
    c.args.caller c.in-DeletePartition.is _ _ _ _ (subst (λ rs. Does (λ t. delete_partition t rs c.args.caller
    (slice_index c.args.args.now 0)) c.args.caller c.delete_partition.result 0 (g.M.Frames.memory c.args.mem.now)
    (g.M.Frames.memory c.delete_partition.new.mem)) c.names_of.ensures c.delete_partition.ensures.does)

pub returns-in-CountToMap-clause-does : goal.returns-in-CountToMap-clause-does
returns-in-CountToMap-clause-does g c =
    same-does (λ k t. model.answer k (plain_world t c.args.cpus.now.items) c.args.caller (five_of c.args.args.now))
    c.args.caller c.in-CountToMap.is _ _ _ _ (c.reply.ensures (λ t.
    count_to_map t c.args.caller (slice_index c.args.args.now 0) (slice_index c.args.args.now 1)) c.args.caller _ _
    (asked-gives (λ t. count_to_map t c.args.caller (slice_index c.args.args.now 0) (slice_index c.args.args.now 1))
    c.args.caller _ _ (λ t. asked_tree t _ _) c.requires.stands c.count_to_map.ensures.answer))

pub returns-in-Prepare-clause-does : goal.returns-in-Prepare-clause-does
returns-in-Prepare-clause-does g c =
    same-does (λ k t. model.answer k (plain_world t c.args.cpus.now.items) c.args.caller (five_of c.args.args.now))
    c.args.caller c.in-Prepare.is _ _ _ _
    (c.reply-in-Prepare.ensures (λ t. prepare t c.args.caller (slice_index c.args.args.now 0)
    (slice_index c.args.args.now 1) (slice_index c.args.args.now 2)) c.args.caller _ _ c.prepare.ensures.does)

pub returns-in-Collect-clause-does : goal.returns-in-Collect-clause-does
returns-in-Collect-clause-does g c =
    same-does (λ k t. model.answer k (plain_world t c.args.cpus.now.items) c.args.caller (five_of c.args.args.now))
    c.args.caller c.in-Collect.is _ _ _ _ (c.reply-in-Collect.ensures (λ t. collect t c.args.caller
    (slice_index c.args.args.now 0) (slice_index c.args.args.now 1)) c.args.caller _ _ c.collect.ensures.does)

pub returns-in-AddVAddr-clause-does : goal.returns-in-AddVAddr-clause-does
returns-in-AddVAddr-clause-does g c =
    same-does (λ k t. model.answer k (plain_world t c.args.cpus.now.items) c.args.caller (five_of c.args.args.now))
    c.args.caller c.in-AddVAddr.is _ _ _ _ c.add_vaddr.ensures.does

pub returns-in-RemoveVAddr-clause-does : goal.returns-in-RemoveVAddr-clause-does
returns-in-RemoveVAddr-clause-does g c =
    same-does (λ k t. model.answer k (plain_world t c.args.cpus.now.items) c.args.caller (five_of c.args.args.now))
    c.args.caller c.in-RemoveVAddr.is _ _ _ _ c.remove_vaddr.ensures.does

pub returns-in-MappedInChild-clause-does : goal.returns-in-MappedInChild-clause-does
returns-in-MappedInChild-clause-does g c =
    same-does (λ k t. model.answer k (plain_world t c.args.cpus.now.items) c.args.caller (five_of c.args.args.now))
    c.args.caller c.in-MappedInChild.is _ _ _ _
    (c.reply-in-MappedInChild.ensures (λ t. mapped_in_child t c.args.caller (slice_index c.args.args.now 0))
    c.args.caller _ _ (asked-gives (λ t. mapped_in_child t c.args.caller (slice_index c.args.args.now 0))
    c.args.caller _ _ (λ t. asked_tree t _ _) c.requires.stands c.mapped_in_child.ensures.answer))

pub returns-in-CreatePartition-clause-work : goal.returns-in-CreatePartition-clause-work
returns-in-CreatePartition-clause-work g c t x s laid found =
    let so = c.create_partition.ensures.chain t x s laid found in
    same_work c.args.call CreatePartition c.in-CreatePartition.is t (names_on c.args.cpus.now.items) c.args.caller
    (five_of c.args.args.now)
    c.args.steps.now c.create_partition.new.steps (omega (arith, so))

pub returns-in-DeletePartition-clause-work : goal.returns-in-DeletePartition-clause-work
returns-in-DeletePartition-clause-work g c t x s laid found =
    let so = subst (λ rs. c.delete_partition.new.steps ≤ c.args.steps.now + 6 + climbing_work t rs
    + deleting_work t c.args.caller (child_at t c.args.caller (slice_index c.args.args.now 0))) c.names_of.ensures
    (c.delete_partition.ensures.subtree t x s laid found) in
    same_work c.args.call DeletePartition c.in-DeletePartition.is t (names_on c.args.cpus.now.items) c.args.caller
    (five_of c.args.args.now)
    c.args.steps.now c.delete_partition.new.steps (omega (arith, so))

pub returns-in-CountToMap-clause-work : goal.returns-in-CountToMap-clause-work
returns-in-CountToMap-clause-work g c t x s laid found =
    let so = c.count_to_map.ensures.steps in
    same_work c.args.call CountToMap c.in-CountToMap.is t (names_on c.args.cpus.now.items) c.args.caller (five_of
    c.args.args.now)
    c.args.steps.now c.count_to_map.new.steps (omega (arith, so))

pub returns-in-Prepare-clause-work : goal.returns-in-Prepare-clause-work
returns-in-Prepare-clause-work g c t x s laid found =
    let so = c.prepare.ensures.chain t x s laid found in
    same_work c.args.call Prepare c.in-Prepare.is t (names_on c.args.cpus.now.items) c.args.caller (five_of
    c.args.args.now)
    c.args.steps.now c.prepare.new.steps (omega (arith, so))

pub returns-in-Collect-clause-work : goal.returns-in-Collect-clause-work
returns-in-Collect-clause-work g c t x s laid found =
    let so = c.collect.ensures.chain t x s laid found in
    same_work c.args.call Collect c.in-Collect.is t (names_on c.args.cpus.now.items) c.args.caller (five_of
    c.args.args.now)
    c.args.steps.now c.collect.new.steps (omega (arith, so))

pub returns-in-AddVAddr-clause-work : goal.returns-in-AddVAddr-clause-work
returns-in-AddVAddr-clause-work g c t x s laid found =
    let so = c.add_vaddr.ensures.steps in
    same_work c.args.call AddVAddr c.in-AddVAddr.is t (names_on c.args.cpus.now.items) c.args.caller (five_of
    c.args.args.now)
    c.args.steps.now c.add_vaddr.new.steps (omega (arith, so))

pub returns-in-RemoveVAddr-clause-work : goal.returns-in-RemoveVAddr-clause-work
returns-in-RemoveVAddr-clause-work g c t x s laid found =
    let so = c.remove_vaddr.ensures.steps in
    same_work c.args.call RemoveVAddr c.in-RemoveVAddr.is t (names_on c.args.cpus.now.items) c.args.caller (five_of
    c.args.args.now)
    c.args.steps.now c.remove_vaddr.new.steps (omega (arith, so))

pub returns-in-MappedInChild-clause-work : goal.returns-in-MappedInChild-clause-work
returns-in-MappedInChild-clause-work g c t x s laid found =
    let so = c.mapped_in_child.ensures.steps in
    same_work c.args.call MappedInChild c.in-MappedInChild.is t (names_on c.args.cpus.now.items) c.args.caller (five_of
    c.args.args.now)
    c.args.steps.now c.mapped_in_child.new.steps (omega (arith, so))
