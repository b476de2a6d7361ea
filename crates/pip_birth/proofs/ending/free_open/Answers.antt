use Rattle.std.proofs.Common.{arith}
use Rattle.pip_birth.proofs.DeletePartition.Writes.Freeing.{none_freed, some_freed, some_kept, zeros_kept}
use Rattle.pip_birth.proofs.ending.free_open.Goals as goal
use Rattle.pip_birth.proofs.ending.free_open.Goals.{then-given-j+else-is_hidden, else-given-j}

pub loop-j-init : goal.loop-j-init
loop-j-init c = none_freed c.args.leaves.now c.args.born c.args.k c.args.given.now c.requires.index

pub loop-j-preserved : goal.loop-j-preserved
loop-j-preserved c =
    let h = c.in-Some.ensures in
    let low = h.0 in
    let at = zeros_kept c.args.leaves.now c.args.born c.args.k c.args.given.now c.requires.place c.loop-j.from
    c.in-Some.j c.loop-j.given h.3 (omega arith) h.2 c.loop-j.invariant in
    elim c.if-given-j.branch [
      | then-given-j+else-is_hidden w ↦ some_freed c.args.leaves.now c.args.born c.args.k c.args.given.now c.in-Some.j
          c.loop-j.given c.if-given-j.given c.number.result w.is_hidden.result at low w.if-given-j.true
          c.number.ensures.same w.if-is_hidden.false w.is_hidden.ensures w.given-is
      | else-given-j w ↦ some_kept c.args.leaves.now c.args.born c.args.k c.args.given.now c.in-Some.j c.loop-j.given
          c.if-given-j.given c.number.result at low w.if-given-j.false c.number.ensures.same w.given-is
    ]

pub returns : goal.returns
returns c =
    zeros_kept c.args.leaves.now c.args.born c.args.k c.args.given.now c.requires.place c.loop-j.from 1024
    c.loop-j.given c.loop-j.invariant.below (omega arith) c.in_default.ensures c.loop-j.invariant
