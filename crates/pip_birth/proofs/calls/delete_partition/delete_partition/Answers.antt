use Rattle.std.proofs.Common.{sym, ap, subst, arith, ◌∙◌, ◌≤◌, ◌+◌, ◌*◌}
use Rattle.pip_birth.specs.Ending.{most_ending_work}
use Rattle.pip_model.specs.Answers.{accept, answer_unless, child_name, first_met}
use Rattle.pip_model.specs.DeletePartition.{delete_partition, delete_refusals, tree_without_subtree}
use Rattle.pip_model.specs.Work.{climbing_work}
use Rattle.pip_model.proofs.Calls.Delete.{delete-sound}
use Rattle.pip_birth.proofs.DeletePartition.Tests.{climbs_few}
use Rattle.pip_kern.proofs.Calls.{accepted-does, refused-does}
use Rattle.pip_birth.proofs.DeletePartition.Call.{child_ends, child_ends_in, delete-accepted, deleted_in, has_child}
use Rattle.pip_birth.proofs.calls.delete_partition.delete_partition.Goals as goal

pub returns-in-Err-clause-does : goal.returns-in-Err-clause-does
returns-in-Err-clause-does g c =
    let p = c.args.caller in
    let d = c.args.d in
    let rs = c.args.running.now.items in
    refused-does p (λ t. delete_partition t rs p d) (g.M.Frames.memory c.args.mem.now) c.in-Err.status
    (λ t x s lays found. ap (λ o. answer_unless t o (accept 0 (tree_without_subtree t (child_name t p d)))) (ap (λ z.
    first_met (delete_refusals t z p d)) (sym c.as_slice.ensures.value) ∙ c.in-Err.ensures.tested t x s lays found))

pub end_child-requires : goal.end_child-requires
end_child-requires g c =
    let h = c.requires.stands in
    has_child (g.M.Frames.memory c.args.mem.now) c.args.caller c.args.d c.in-Ok.child c.of_address.result h
    (c.in-Ok.ensures.tested h.tree h.node h.sound h.laid h.found).1 c.of_address.ensures

pub returns-clause-does : goal.returns-clause-does
returns-clause-does g c =
    let p = c.args.caller in
    let d = c.args.d in
    let rs = c.args.running.now.items in
    accepted-does p (λ t. delete_partition t rs p d) 0 (λ t. tree_without_subtree t c.in-Ok.child)
    (g.M.Frames.memory c.args.mem.now) (g.M.Frames.memory c.end_child.new.mem) c.end_child.ensures.count
    (λ t x s lays found.
    let tested = c.in-Ok.ensures.tested t x s lays found in
    delete-accepted t rs p d c.in-Ok.child
    (ap (λ z. first_met (delete_refusals t z p d)) (sym c.as_slice.ensures.value) ∙ tested.0, tested.1))
    (λ t x s lays found. delete-sound t rs p d s)
    (λ t x s lays found.
    child_ends (g.M.Frames.memory c.args.mem.now) (g.M.Frames.memory c.end_child.new.mem) p d c.in-Ok.child
    c.of_address.result c.end_child.ensures.tree c.of_address.ensures t s lays
    (c.in-Ok.ensures.tested t x s lays found).1)

pub returns-clause-subtree : goal.returns-clause-subtree
returns-clause-subtree g c t x s lays found =
    let a = c.args in
    deleted_in (g.M.Frames.memory a.mem.now) a.caller a.d c.in-Ok.child c.of_address.result a.steps.now
    c.check_delete.new.steps c.end_child.new.steps c.end_child.ensures.steps c.of_address.ensures t s lays
    (c.in-Ok.ensures.tested t x s lays found).1 a.running.now.items
    (subst (λ rs. c.check_delete.new.steps ≤ a.steps.now + 6 + climbing_work t rs) c.as_slice.ensures.value
    (c.in-Ok.ensures.chains t (s, lays)))

pub returns-in-Err-clause-subtree : goal.returns-in-Err-clause-subtree
returns-in-Err-clause-subtree g c t x s lays found =
    let tests = subst (λ rs. c.check_delete.new.steps ≤ c.args.steps.now + 6 + climbing_work t rs)
    c.as_slice.ensures.value (c.in-Err.ensures.chains t (s, lays)) in
    omega (arith, tests)

pub returns-clause-steps : goal.returns-clause-steps
returns-clause-steps g c =
    let h = c.requires.stands in
    let tested = c.in-Ok.ensures.tested h.tree h.node h.sound h.laid h.found in
    let so = (child_ends_in (g.M.Frames.memory c.args.mem.now) c.args.caller c.args.d c.in-Ok.child c.of_address.result
    c.check_delete.new.steps c.end_child.new.steps c.end_child.ensures.steps c.of_address.ensures h.tree h.sound h.laid
    tested.1).1 in
    let tests = c.in-Ok.ensures.chains h.tree (h.sound, h.laid) in
    let few = climbs_few h.tree h.sound c.as_slice.result.now c.as_slice.ensures.fits in
    let all = subst (λ n. c.end_child.new.steps ≤ c.args.steps.now + 6 + 4 * n + most_ending_work n)
    (sym h.laid.count) (omega (arith, so, tests, few)) in
    all

pub returns-in-Err-clause-steps : goal.returns-in-Err-clause-steps
returns-in-Err-clause-steps g c =
    let h = c.requires.stands in
    let tests = c.in-Err.ensures.chains h.tree (h.sound, h.laid) in
    let few = climbs_few h.tree h.sound c.as_slice.result.now c.as_slice.ensures.fits in
    let same = h.laid.count in
    omega (arith, tests, few, same)
