use Rattle.std.proofs.Common.{◌≡◌, ◌+◌, ◌*◌, ap, sym, subst, ◌∙◌, arith, refl}
use Rattle.std.specs.Prelude.{flat_map}
use Rattle.pip_model.specs.Dump.{row_text}
use Rattle.pip_kern.proofs.Climb.{part_node}
use Rattle.pip_dump.specs.Tables.{RowsLeft}
use Rattle.pip_dump.proofs.Nexts.{all_rows}
use Rattle.pip_dump.proofs.Pieces.{left_none, left_same, left_start, wrote_err}
use Rattle.pip_dump.proofs.TableWords.{cells_in, given_of, has_next, leaves_of, name_is, rows_over, rows_skip}
use Rattle.pip_dump.proofs.part.rows_text.Goals as goal

pub loop-i-init : goal.loop-i-init
loop-i-init g c = record {
  high = omega arith;
  no_faults = refl;
  left = λ t x s lays found. left_same _ _ _ _ _ (ap (flat_map (row_text t x)) (sym (all_rows t s c.args.part x found)))
      (left_start (g.K.Sink.history c.args.sink.now).written _);
}

pub next_tables-requires-clause-node : goal.next_tables-requires-clause-node
next_tables-requires-clause-node g c = part_node (g.M.Frames.memory c.args.mem.now) c.args.part c.requires

pub next_tables-requires-clause-index : goal.next_tables-requires-clause-index
next_tables-requires-clause-index g c = c.loop-i.invariant.high

pub table_words-leaves-requires-clause-tables : goal.table_words-leaves-requires-clause-tables
table_words-leaves-requires-clause-tables g c =
    (has_next (g.M.Frames.memory c.args.mem.now) c.args.part c.in-Some.i c.loop-i.from c.requires
    c.in-Some.ensures.next).0

pub table_words-leaves-requires-clause-index : goal.table_words-leaves-requires-clause-index
table_words-leaves-requires-clause-index g c =
    (has_next (g.M.Frames.memory c.args.mem.now) c.args.part c.in-Some.i c.loop-i.from c.requires
    c.in-Some.ensures.next).1

pub table_words-given-requires-clause-tables : goal.table_words-given-requires-clause-tables
table_words-given-requires-clause-tables g c =
    (has_next (g.M.Frames.memory c.args.mem.now) c.args.part c.in-Some.i c.loop-i.from c.requires
    c.in-Some.ensures.next).0

pub table_words-given-requires-clause-index : goal.table_words-given-requires-clause-index
table_words-given-requires-clause-index g c =
    (has_next (g.M.Frames.memory c.args.mem.now) c.args.part c.in-Some.i c.loop-i.from c.requires
    c.in-Some.ensures.next).1

pub table_text-requires : goal.table_text-requires
table_text-requires g c =
    (has_next (g.M.Frames.memory c.args.mem.now) c.args.part c.in-Some.i c.loop-i.from c.requires
    c.in-Some.ensures.next).1

pub returns-in_err-table_text-clause-text : goal.returns-in_err-table_text-clause-text
returns-in_err-table_text-clause-text g c t x s lays found =
    let m = g.M.Frames.memory c.args.mem.now in
    let (tables, small, above) = has_next m c.args.part c.in-Some.i c.loop-i.from c.requires c.in-Some.ensures.next in
    let next =
    c.in-Some.ensures.next x _ (cells_in t s m lays c.args.part x found) (name_is t s m lays c.args.part x found) in
    let leaves = leaves_of t s m lays c.args.part x found c.in-Some.i c.table_words-leaves.result.now
    c.table_words-leaves.ensures in
    let given = given_of t s m lays c.args.part x found c.in-Some.i c.table_words-given.result.now
    c.table_words-given.ensures in
    let left = left_same _ _ _ _ _ (ap (flat_map (row_text t x)) (rows_skip t s m lays c.args.part x found c.loop-i.from
    c.in-Some.i above next)) (c.loop-i.invariant.left t x s lays found) in
    wrote_err _ _ _ c.from_residual.result c.from_residual.ensures.0
    (c.in_err-table_text.ensures.text t x _ _ leaves given left)

pub overflow_add-from : goal.overflow_add-from
overflow_add-from g c = let (tables, small, above) =
    has_next (g.M.Frames.memory c.args.mem.now) c.args.part c.in-Some.i c.loop-i.from c.requires c.in-Some.ensures.next
    in omega (arith, small)

pub loop-i-smaller : goal.loop-i-smaller
loop-i-smaller g c = let (tables, small, above) =
    has_next (g.M.Frames.memory c.args.mem.now) c.args.part c.in-Some.i c.loop-i.from c.requires c.in-Some.ensures.next
    in omega (arith, small, above)

pub loop-i-preserved : goal.loop-i-preserved
loop-i-preserved g c =
    let m = g.M.Frames.memory c.args.mem.now in
    let (tables, small, above) = has_next m c.args.part c.in-Some.i c.loop-i.from c.requires c.in-Some.ensures.next in
    record {
      high = omega (arith, small);
      no_faults = c.in_ok-table_text.ensures.cause.no_faults ∙ c.loop-i.invariant.no_faults;
      left = λ t x s lays found.
          let next = c.in-Some.ensures.next x _ (cells_in t s m lays c.args.part x found)
          (name_is t s m lays c.args.part x found) in
          let leaves = leaves_of t s m lays c.args.part x found c.in-Some.i c.table_words-leaves.result.now
          c.table_words-leaves.ensures in
          let given = given_of t s m lays c.args.part x found c.in-Some.i c.table_words-given.result.now
          c.table_words-given.ensures in
          let left = left_same _ _ _ _ _ (ap (flat_map (row_text t x)) (rows_skip t s m lays c.args.part x found
          c.loop-i.from c.in-Some.i above next)) (c.loop-i.invariant.left t x s lays found) in
          let next_is : 1024 * c.in-Some.i + 1024 ≡ 1024 * (c.in-Some.i + 1) = omega arith in
          subst (λ k. RowsLeft t x k (g.K.Sink.history c.args.sink.now).written
          (g.K.Sink.history c.table_text.new.sink).written
          (flat_map (row_text t x) x.rows)) next_is (c.in_ok-table_text.ensures.text t x _ _ leaves given left);
    }

pub returns-clause-text : goal.returns-clause-text
returns-clause-text g c t x s lays found =
    let m = g.M.Frames.memory c.args.mem.now in
    let next =
    c.in_default.ensures.next x _ (cells_in t s m lays c.args.part x found) (name_is t s m lays c.args.part x found) in
    left_none _ _ _ (left_same _ _ _ _ _ (ap (flat_map (row_text t x))
    (rows_over t s m lays c.args.part x found c.loop-i.from next)) (c.loop-i.invariant.left t x s lays found))
