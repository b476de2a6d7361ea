use Rattle.std.proofs.Common.{◌≡◌, ◌+◌, ◌<◌, length, drop, arith, sym, ap, ◌∙◌}
use Rattle.std.specs.Prelude.{slice_index}
use Rattle.pip_base.specs.declared.types.Pair.{Pair}
use Rattle.pip_model.specs.ReadOff.{node_read}
use Rattle.pip_model.specs.Tree.{config, pairs}
use Rattle.pip_audit.specs.FrameSets.{contains, with_all}
use Rattle.pip_audit.specs.Givens.{no_pair}
use Rattle.pip_audit.proofs.Inserts.{drop_all, frame_at, frames_long, fresh_more, next_page, with_more}
use Rattle.pip_audit.proofs.frame_set.FrameSet.insert_pages.Goals as goal

pub loop-k-preserved : goal.loop-k-preserved
loop-k-preserved g c =
    let x = node_read (g.M.Frames.memory c.args.mem.now) c.args.part in
    let k = c.loop-k.k in
    let below = c.loop-k-test.true in
    let count = c.count_pages-count.ensures in
    let less : k < length (pairs x) = omega (arith, below, count) in
    let long = frames_long (pairs x) in
    let is : slice_index (config x) k ≡ c.page-given.result.frame =
    frame_at (pairs x) k no_pair less ∙ sym (ap (λ (p : Pair). p.frame) c.page-given.ensures.page) in
    let next = next_page (config x) k c.page-given.result.frame (omega (arith, less, long)) is in
    let old = contains c.loop-k.self in
    let new = contains c.insert-is_new.new.self in
    let rest = drop (k + 1) (config x) in
    let set = c.insert-is_new.ensures.set in (
      c.loop-k.invariant.0 ∙ fresh_more (drop k (config x)) rest c.page-given.result.frame next old new set
          c.loop-k.are_new c.insert-is_new.result c.insert-is_new.ensures.new,
      λ f. c.loop-k.invariant.1 f
          ∙ with_more (drop k (config x)) rest c.page-given.result.frame next old new set f,
      c.insert-is_new.ensures.room ∙ c.loop-k.invariant.2,
    )

pub returns-clause-set : goal.returns-clause-set
returns-clause-set g c = λ f.
    let x = node_read (g.M.Frames.memory c.args.mem.now) c.args.part in
    let past = c.loop-k-test.false in
    let count = c.count_pages-count.ensures in
    let long = frames_long (pairs x) in
    sym (c.loop-k.invariant.1 f ∙ ap (λ gs. with_all (contains c.loop-k.self) gs f)
    (drop_all (config x) c.loop-k.k (omega (arith, past, count, long))))
