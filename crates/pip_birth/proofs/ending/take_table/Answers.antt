use Rattle.std.proofs.Common.{◌+◌, ◌*◌, ◌∙◌, ◌∷◌, refl, subst, arith}
use Rattle.pip_birth.proofs.DeletePartition.Writes.Freeing.{born_place, freed_to, has_page, next_ended, next_page}
use Rattle.pip_birth.proofs.DeletePartition.Writes.Freeing.{tables_apart}
use Rattle.pip_birth.specs.Ending.{AreClearedPages, EndsPageIn, IsEndingAt}
use Rattle.pip_birth.proofs.DeletePartition.Writes.Counting.{cleared_further, one_cleared}
use Rattle.pip_birth.proofs.ending.take_table.Goals as goal

pub free_between-requires-clause-apart : goal.free_between-requires-clause-apart
free_between-requires-clause-apart g c =
    tables_apart (g.M.Frames.memory c.args.mem.now) (g.M.Frames.memory c.loop-j.mem) c.args.caller c.args.born c.args.i
    c.loop-j.k c.table_for-leaves.result c.table_for-shadow.result c.requires.index c.requires.ending
    c.loop-j.invariant.ended
    c.new-first.result c.new-first.ensures c.table_for-leaves.ensures.page c.table_for-shadow.ensures.page

pub free_between-requires-clause-place : goal.free_between-requires-clause-place
free_between-requires-clause-place g c =
    born_place (g.M.Frames.memory c.args.mem.now) c.args.caller c.args.born (1024 * c.args.i) c.requires.ending

pub clear_page-requires : goal.clear_page-requires
clear_page-requires g c =
    let f = c.in-Some.ensures.freed in
    has_page (g.M.Frames.memory c.args.mem.now) (g.M.Frames.memory c.loop-j.mem) c.args.caller c.args.born c.args.i
    c.loop-j.k c.table_for-leaves.result c.table_for-shadow.result c.requires.index c.requires.ending
    c.loop-j.invariant.ended
    c.new-first.result c.new-first.ensures c.table_for-leaves.ensures.page c.table_for-shadow.ensures.page
    (g.M.Frames.memory c.free_between.new.mem) c.in-Some.j f.words f.freed.1 f.freed.0 f.written c.new.result
    c.new.ensures

pub loop-j-smaller : goal.loop-j-smaller
loop-j-smaller g c =
    let f = c.in-Some.ensures.freed in
    omega arith

pub loop-j-preserved : goal.loop-j-preserved
loop-j-preserved g c =
    let f = c.in-Some.ensures.freed in
    let low = f.freed.0.below in
    record {
      count = c.clear_page.ensures.count ∙ (c.free_between.ensures.count ∙ c.loop-j.invariant.count);
      high = omega arith;
      ended = next_ended (g.M.Frames.memory c.args.mem.now) (g.M.Frames.memory c.loop-j.mem) c.args.caller c.args.born
          c.args.i c.loop-j.k c.table_for-leaves.result c.table_for-shadow.result c.requires.index c.requires.ending
          c.loop-j.invariant.ended
          c.new-first.result c.new-first.ensures c.table_for-leaves.ensures.page c.table_for-shadow.ensures.page
          (g.M.Frames.memory c.free_between.new.mem) c.in-Some.j f.words f.freed.1 f.freed.0 f.written
          (g.M.Frames.memory c.clear_page.new.mem) c.new.result c.new.ensures c.clear_page.ensures.ended;
      cleared = λ t y start gs can up place at cl.
          let (hs, there, so) = c.loop-j.invariant.cleared t y start gs can up place at cl in
          let more = next_page (g.M.Frames.memory c.args.mem.now) (g.M.Frames.memory c.loop-j.mem) c.args.caller
          c.args.born c.args.i c.loop-j.k c.table_for-leaves.result c.table_for-shadow.result c.requires.index
          c.requires.ending c.loop-j.invariant.ended
          c.new-first.result c.new-first.ensures c.table_for-leaves.ensures.page c.table_for-shadow.ensures.page
          (g.M.Frames.memory c.free_between.new.mem) c.in-Some.j f.words f.freed.1 f.freed.0 t y start can up place
          at in
          let one = c.free_between.ensures.steps in
          let here = freed_to (g.M.Frames.memory c.args.mem.now) (g.M.Frames.memory c.loop-j.mem) c.args.caller
          c.args.born c.args.i c.loop-j.k c.table_for-leaves.result c.table_for-shadow.result c.requires.index
          c.requires.ending c.loop-j.invariant.ended
          c.new-first.result c.new-first.ensures c.table_for-leaves.ensures.page c.table_for-shadow.ensures.page
          (g.M.Frames.memory c.free_between.new.mem) c.in-Some.j f.words f.freed.1 f.written t y start can up place
          at in
          let v_is = c.new.ensures in
          let two = subst (λ v. EndsPageIn c.args.caller c.table_for-leaves.result v
          (g.M.Frames.memory c.free_between.new.mem) c.free_between.new.steps c.clear_page.new.steps) v_is
          c.clear_page.ensures.steps t y start can up more here in
          let above = f.freed.1.order in (
            more.row.frame ∷ hs,
            subst (λ k. AreClearedPages t y k (more.row.frame ∷ hs)) (omega arith)
                (one_cleared t y can c.table_for-leaves.result (1024 * c.args.i + c.loop-j.k)
                (1024 * c.args.i + c.in-Some.j) hs (omega arith) there more),
            omega arith,
          );
    }

pub returns-clause-ended : goal.returns-clause-ended
returns-clause-ended g c =
    let f = c.in_default.ensures.freed in
    freed_to (g.M.Frames.memory c.args.mem.now) (g.M.Frames.memory c.loop-j.mem) c.args.caller c.args.born c.args.i
    c.loop-j.k c.table_for-leaves.result c.table_for-shadow.result c.requires.index c.requires.ending
    c.loop-j.invariant.ended
    c.new-first.result c.new-first.ensures c.table_for-leaves.ensures.page c.table_for-shadow.ensures.page
    (g.M.Frames.memory c.free_between.new.mem) 1024 f.words f.freed f.written

pub loop-j-init : goal.loop-j-init
loop-j-init g c = record {
  count = refl;
  high = omega arith;
  ended = λ t y start can up place at.
      subst (λ k. IsEndingAt t y start k (g.M.Frames.memory c.args.mem.now)) (omega arith) at;
  cleared = λ t y start gs can up place at cl.
      let one = c.table_for-leaves.ensures.steps in
      let two = c.table_for-shadow.ensures.steps in
      (gs, subst (λ k. AreClearedPages t y k gs) (omega arith) cl, omega arith);
}

pub returns-clause-steps : goal.returns-clause-steps
returns-clause-steps g c t y start gs can up place at cl =
    let (hs, there, so) = c.loop-j.invariant.cleared t y start gs can up place at cl in
    let high = c.loop-j.invariant.high in
    let one = c.free_between.ensures.steps in (
      hs,
      cleared_further t y (1024 * c.args.i + c.loop-j.k) (1024 * c.args.i + 1024) hs (omega arith) there,
      omega arith,
    )
