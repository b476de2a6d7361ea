use Rattle.std.proofs.Common.{◌≡◌, ◌+◌, ◌∙◌, arith, subst, sym}
use Rattle.pip_birth.specs.Ending.{CountsWalked}
use Rattle.pip_birth.proofs.DeletePartition.Writes.Counting.{ends_in_base, ends_in_pages}
use Rattle.pip_birth.proofs.DeletePartition.Writes.Base.{part_inside}
use Rattle.pip_birth.proofs.DeletePartition.Writes.Whole.{child_ending, child_node, child_pages, ends_by_base}
use Rattle.pip_birth.proofs.DeletePartition.Writes.Whole.{ends_by_pages}
use Rattle.pip_birth.proofs.ending.end_child.Goals as goal

pub word-requires-clause-frame : goal.word-requires-clause-frame
word-requires-clause-frame g c = part_inside (g.M.Frames.memory c.args.mem.now) c.args.child
    (child_node (g.M.Frames.memory c.args.mem.now) c.args.caller c.args.child c.args.born c.requires)

pub base_of-base-requires : goal.base_of-base-requires
base_of-base-requires g c =
    child_node (g.M.Frames.memory c.args.mem.now) c.args.caller c.args.child c.args.born c.requires

pub clear_pages-requires : goal.clear_pages-requires
clear_pages-requires g c = child_pages (g.M.Frames.memory c.args.mem.now) c.args.caller c.args.child c.args.born
    c.requires c.base_of-base.result c.base_of-base.ensures.base

pub take_tables-requires : goal.take_tables-requires
take_tables-requires g c =
    child_ending (g.M.Frames.memory c.args.mem.now) c.args.caller c.args.child c.args.born c.requires

pub returns-then-word-eq0-clause-tree : goal.returns-then-word-eq0-clause-tree
returns-then-word-eq0-clause-tree g c =
    ends_by_base (g.M.Frames.memory c.args.mem.now) (g.M.Frames.memory c.clear_pages.new.mem) c.args.caller c.args.child
    c.args.born (sym c.word.ensures.word ∙ c.if-word-eq0.true) c.base_of-base.result c.base_of-base.ensures.base
    c.clear_pages.ensures.cleared

pub returns-else-word-eq0-clause-tree : goal.returns-else-word-eq0-clause-tree
returns-else-word-eq0-clause-tree g c = ends_by_pages (g.M.Frames.memory c.args.mem.now)
    (g.M.Frames.memory c.take_tables.new.mem) c.args.caller c.args.child c.args.born c.take_tables.ensures.ended

pub returns-then-word-eq0-clause-steps : goal.returns-then-word-eq0-clause-steps
returns-then-word-eq0-clause-steps g c =
    let one = c.word.ensures.step in
    let ten = c.base_of-base.ensures.steps in
    ends_in_base (g.M.Frames.memory c.args.mem.now) c.args.caller c.args.child c.args.born c.args.steps.now
    c.base_of-base.new.steps _ c.base_of-base.result c.base_of-base.ensures.base (omega arith)
    c.clear_pages.ensures.steps

pub returns-else-word-eq0-clause-steps : goal.returns-else-word-eq0-clause-steps
returns-else-word-eq0-clause-steps g c =
    let e : c.word.new.steps + 34 ≡ c.args.steps.now + 35 = (omega arith) in
    ends_in_pages (g.M.Frames.memory c.args.mem.now) c.args.caller c.args.child c.args.born c.args.steps.now _
    (rw (← e) c.take_tables.ensures.steps)
