use Rattle.std.proofs.Common.{◌≡◌, ◌+◌, ◌*◌, List, ap, arith, length}
use Rattle.pip_model.specs.Tree.{Row}
use Rattle.pip_kern.proofs.Climb.{part_node}
use Rattle.pip_dump.specs.Walk.{rows_above}
use Rattle.pip_dump.proofs.Nexts.{all_rows}
use Rattle.pip_dump.proofs.TableWords.{cells_in, has_next, leaves_of, name_is, rows_over, rows_skip}
use Rattle.pip_dump.proofs.part.count_rows.Goals as goal

pub loop-i-init : goal.loop-i-init
loop-i-init g c = record {
  high = omega arith;
  few = omega arith;
  passed = λ t x s lays found. let all =
      ap (λ (l : List Row). length l) (all_rows t s c.args.part x found) in omega (arith, all);
}

pub next_tables-requires-clause-node : goal.next_tables-requires-clause-node
next_tables-requires-clause-node g c = part_node (g.M.Frames.memory c.args.mem.now) c.args.part c.requires

pub next_tables-requires-clause-index : goal.next_tables-requires-clause-index
next_tables-requires-clause-index g c = c.loop-i.invariant.high

pub table_words-requires-clause-tables : goal.table_words-requires-clause-tables
table_words-requires-clause-tables g c =
    (has_next (g.M.Frames.memory c.args.mem.now) c.args.part c.in-Some.i c.loop-i.from c.requires
    c.in-Some.ensures.next).0

pub table_words-requires-clause-index : goal.table_words-requires-clause-index
table_words-requires-clause-index g c =
    (has_next (g.M.Frames.memory c.args.mem.now) c.args.part c.in-Some.i c.loop-i.from c.requires
    c.in-Some.ensures.next).1

pub overflow_add-count : goal.overflow_add-count
overflow_add-count g c =
    let few = c.loop-i.invariant.few in
    let high = c.loop-i.invariant.high in
    let more = c.count_words-count.ensures.few in
    omega (arith, few, high, more)

pub overflow_add-from : goal.overflow_add-from
overflow_add-from g c = let (tables, small, above) =
    has_next (g.M.Frames.memory c.args.mem.now) c.args.part c.in-Some.i c.loop-i.from c.requires c.in-Some.ensures.next
    in omega (arith, small)

pub loop-i-smaller : goal.loop-i-smaller
loop-i-smaller g c = let (tables, small, above) =
    has_next (g.M.Frames.memory c.args.mem.now) c.args.part c.in-Some.i c.loop-i.from c.requires c.in-Some.ensures.next
    in omega (arith, small, above)

pub loop-i-preserved : goal.loop-i-preserved
loop-i-preserved g c =
    let m = g.M.Frames.memory c.args.mem.now in
    let (tables, small, above) = has_next m c.args.part c.in-Some.i c.loop-i.from c.requires c.in-Some.ensures.next in
    record {
      high = omega (arith, small);
      few = let few = c.loop-i.invariant.few in let more = c.count_words-count.ensures.few in
          omega (arith, few, more, above);
      passed = λ t x s lays found.
          let next = c.in-Some.ensures.next x _ (cells_in t s m lays c.args.part x found)
          (name_is t s m lays c.args.part x found) in
          let leaves =
          leaves_of t s m lays c.args.part x found c.in-Some.i c.table_words.result.now c.table_words.ensures in
          let skip = ap (λ (l : List Row). length l)
          (rows_skip t s m lays c.args.part x found c.loop-i.from c.in-Some.i above next) in
          let more = c.count_words-count.ensures.rows t x c.in-Some.i leaves in
          let next_is : 1024 * c.in-Some.i + 1024 ≡ 1024 * (c.in-Some.i + 1) = omega arith in
          let end = ap (λ k. length (rows_above k x.rows)) next_is in
          let old = c.loop-i.invariant.passed t x s lays found in
          omega (arith, skip, more, end, old);
    }

pub returns : goal.returns
returns g c t x s lays found =
    let m = g.M.Frames.memory c.args.mem.now in
    let next =
    c.in_default.ensures.next x _ (cells_in t s m lays c.args.part x found) (name_is t s m lays c.args.part x found) in
    let none = ap (λ (l : List Row). length l) (rows_over t s m lays c.args.part x found c.loop-i.from next) in
    let old = c.loop-i.invariant.passed t x s lays found in
    omega (arith, none, old)
