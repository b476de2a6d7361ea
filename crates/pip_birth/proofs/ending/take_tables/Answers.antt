use Rattle.std.proofs.Common.{◌≡◌, ◌*◌, ◌∙◌, [], ◌∷◌, true, Some, refl, subst, sym, arith}
use Rattle.pip_birth.specs.Ending.{AreClearedPages}
use Rattle.pip_birth.proofs.DeletePartition.Writes.Counting.{cleared_further, none_cleared, none_walked, one_walked}
use Rattle.pip_birth.proofs.DeletePartition.Writes.Counting.{walked_further}
use Rattle.pip_birth.proofs.DeletePartition.Writes.Freeing.{next_is}
use Rattle.pip_birth.proofs.DeletePartition.Writes.Pages.{x_old}
use Rattle.pip_birth.proofs.DeletePartition.Tree.{parent}
use Rattle.std.specs.Prelude.{is_some}
use Rattle.pip_model.specs.Tree.{table_at}
use Rattle.pip_birth.proofs.DeletePartition.Writes.Freeing.{ending_next, index_next, next_tables_at, no_more_tables}
use Rattle.pip_birth.proofs.DeletePartition.Writes.Freeing.{one_table, parent_there, room_next}
use Rattle.pip_birth.proofs.ending.take_tables.Goals as goal

pub next_tables-requires-clause-node : goal.next_tables-requires-clause-node
next_tables-requires-clause-node g c =
    parent_there (g.M.Frames.memory c.loop-i.mem) c.args.caller c.args.born (1024 * c.loop-i.from)
    (ending_next (g.M.Frames.memory c.args.mem.now) (g.M.Frames.memory c.loop-i.mem) c.args.caller c.args.born 0
    (1024 * c.loop-i.from) c.loop-i.invariant.ended c.requires)

pub take_table-requires-clause-index : goal.take_table-requires-clause-index
take_table-requires-clause-index g c = (index_next (g.M.Frames.memory c.args.mem.now) (g.M.Frames.memory c.loop-i.mem)
    c.args.caller c.args.born c.loop-i.from c.in-Some.i c.loop-i.invariant.ended c.requires c.in-Some.ensures.next).1

pub take_table-requires-clause-ending : goal.take_table-requires-clause-ending
take_table-requires-clause-ending g c =
    ending_next (g.M.Frames.memory c.args.mem.now) (g.M.Frames.memory c.loop-i.mem) c.args.caller c.args.born 0
    (1024 * c.in-Some.i)
    (next_tables_at (g.M.Frames.memory c.args.mem.now) (g.M.Frames.memory c.loop-i.mem) c.args.caller c.args.born
    c.loop-i.from c.in-Some.i c.loop-i.invariant.ended c.in-Some.ensures.next) c.requires

pub take_table-requires-clause-tables : goal.take_table-requires-clause-tables
take_table-requires-clause-tables g c =
    room_next (g.M.Frames.memory c.loop-i.mem) c.args.caller c.args.born c.loop-i.from c.in-Some.i
    (ending_next (g.M.Frames.memory c.args.mem.now) (g.M.Frames.memory c.loop-i.mem) c.args.caller c.args.born 0
    (1024 * c.loop-i.from) c.loop-i.invariant.ended c.requires) c.in-Some.ensures.next

pub overflow_add-from : goal.overflow_add-from
overflow_add-from g c =
    let high = (index_next (g.M.Frames.memory c.args.mem.now) (g.M.Frames.memory c.loop-i.mem) c.args.caller c.args.born
    c.loop-i.from c.in-Some.i c.loop-i.invariant.ended c.requires c.in-Some.ensures.next).1 in
    omega (arith, high)

pub loop-i-smaller : goal.loop-i-smaller
loop-i-smaller g c =
    let h = index_next (g.M.Frames.memory c.args.mem.now) (g.M.Frames.memory c.loop-i.mem) c.args.caller c.args.born
    c.loop-i.from c.in-Some.i c.loop-i.invariant.ended c.requires c.in-Some.ensures.next in
    omega arith

pub loop-i-preserved : goal.loop-i-preserved
loop-i-preserved g c = record {
  count = c.take_table.ensures.count ∙ c.loop-i.invariant.count;
  high =
      let high = (index_next (g.M.Frames.memory c.args.mem.now) (g.M.Frames.memory c.loop-i.mem) c.args.caller
      c.args.born c.loop-i.from c.in-Some.i c.loop-i.invariant.ended c.requires c.in-Some.ensures.next).1 in
      omega (arith, high);
  ended = one_table (g.M.Frames.memory c.args.mem.now) (g.M.Frames.memory c.loop-i.mem)
      (g.M.Frames.memory c.take_table.new.mem) c.args.caller c.args.born c.loop-i.from c.in-Some.i
      c.loop-i.invariant.ended c.in-Some.ensures.next c.take_table.ensures.ended;
  walked = λ t y start x can found up place at.
      let (ws, hs, walked, there, so) = c.loop-i.invariant.walked t y start x can found up place at in
      let says = c.in-Some.ensures.next in
      let now = c.loop-i.invariant.ended t y start can up place at in
      let d = next_is t y can start (1024 * c.loop-i.from) (g.M.Frames.memory c.loop-i.mem) now c.args.caller up
      c.loop-i.from (Some c.in-Some.i) says in
      let low = d.0 in
      let both : Some (parent t y can).0 ≡ Some x = rw (← x_old t y can) found in
      let same : (parent t y can).0 ≡ x = cc in
      let here = next_tables_at (g.M.Frames.memory c.args.mem.now) (g.M.Frames.memory c.loop-i.mem) c.args.caller
      c.args.born c.loop-i.from c.in-Some.i c.loop-i.invariant.ended says t y start can up place at in
      let (ks, more, then) = c.take_table.ensures.steps t y start hs can up place here
      (cleared_further t y (1024 * c.loop-i.from) (1024 * c.in-Some.i) hs (omega arith) there) in
      let next = c.in-Some.ensures.steps in (
        c.in-Some.i ∷ ws,
        ks,
        one_walked x c.loop-i.from c.in-Some.i ws low
            (rw (← same) d.2) walked,
        subst (λ k. AreClearedPages t y k ks) (omega arith) more,
        omega arith,
      );
}

pub returns-clause-ended : goal.returns-clause-ended
returns-clause-ended g c = no_more_tables (g.M.Frames.memory c.args.mem.now) (g.M.Frames.memory c.loop-i.mem)
    c.args.caller c.args.born c.loop-i.from c.loop-i.invariant.high c.loop-i.invariant.ended c.in_default.ensures.next

pub loop-i-init : goal.loop-i-init
loop-i-init g c = record {
  count = refl;
  high = omega arith;
  ended = λ t y start can up place at. at;
  walked = λ t y start x can found up place at. ([], [], none_walked x, none_cleared t y, omega arith);
}

pub returns-clause-steps : goal.returns-clause-steps
returns-clause-steps g c t y start x can found up place at =
    let (ws, hs, walked, there, so) = c.loop-i.invariant.walked t y start x can found up place at in
    let high = c.loop-i.invariant.high in
    let next = c.in_default.ensures.steps in (
      ws,
      hs,
      walked_further x c.loop-i.from 1024 ws high walked,
      cleared_further t y (1024 * c.loop-i.from) (1024 * 1024) hs (omega arith) there,
      omega arith,
    )
