use Rattle.std.proofs.Common.{◌+◌, ◌*◌, ◌/◌, ◌%◌, ◌∙◌, arith, refl, None, Some}
use Rattle.pip_kern.proofs.Climb.{part_node}
use Rattle.pip_dump.proofs.Nexts.{next_same}
use Rattle.pip_dump.proofs.TableWords.{cells_in, children_over, children_skip, given_of, has_next, leaves_of, low_of}
use Rattle.pip_dump.proofs.TableWords.{name_is}
use Rattle.pip_dump.proofs.place.next_child.Goals as goal

pub loop-i-init : goal.loop-i-init
loop-i-init g c = record { high = c.requires.page; passed = λ t x s lays found. refl }

pub next_tables-requires-clause-node : goal.next_tables-requires-clause-node
next_tables-requires-clause-node g c = part_node (g.M.Frames.memory c.args.mem.now) c.args.part c.requires.part

pub next_tables-requires-clause-index : goal.next_tables-requires-clause-index
next_tables-requires-clause-index g c = let high = c.loop-i.invariant.high in omega (arith, high)

pub overflow_mul-i : goal.overflow_mul-i
overflow_mul-i g c = let (tables, small, above) = has_next (g.M.Frames.memory c.args.mem.now) c.args.part c.in-Some.i
    (c.loop-i.v / 1024) c.requires.part c.in-Some.ensures.next in omega (arith, small)

pub table_words-leaves-requires-clause-tables : goal.table_words-leaves-requires-clause-tables
table_words-leaves-requires-clause-tables g c = (has_next (g.M.Frames.memory c.args.mem.now) c.args.part c.in-Some.i
    (c.loop-i.v / 1024) c.requires.part c.in-Some.ensures.next).0

pub table_words-leaves-requires-clause-index : goal.table_words-leaves-requires-clause-index
table_words-leaves-requires-clause-index g c = (has_next (g.M.Frames.memory c.args.mem.now) c.args.part c.in-Some.i
    (c.loop-i.v / 1024) c.requires.part c.in-Some.ensures.next).1

pub table_words-given-requires-clause-tables : goal.table_words-given-requires-clause-tables
table_words-given-requires-clause-tables g c = (has_next (g.M.Frames.memory c.args.mem.now) c.args.part c.in-Some.i
    (c.loop-i.v / 1024) c.requires.part c.in-Some.ensures.next).0

pub table_words-given-requires-clause-index : goal.table_words-given-requires-clause-index
table_words-given-requires-clause-index g c = (has_next (g.M.Frames.memory c.args.mem.now) c.args.part c.in-Some.i
    (c.loop-i.v / 1024) c.requires.part c.in-Some.ensures.next).1

pub returns-in-Some-child_in : goal.returns-in-Some-child_in
returns-in-Some-child_in g c t x s lays found =
    let m = g.M.Frames.memory c.args.mem.now in
    let (tables, small, above) = has_next (g.M.Frames.memory c.args.mem.now) c.args.part c.in-Some.i
    (c.loop-i.v / 1024) c.requires.part c.in-Some.ensures.next in
    let next =
    c.in-Some.ensures.next x _ (cells_in t s m lays c.args.part x found) (name_is t s m lays c.args.part x found) in
    let leaves = leaves_of t s m lays c.args.part x found c.in-Some.i c.table_words-leaves.result.now
    c.table_words-leaves.ensures in
    let given = given_of t s m lays c.args.part x found c.in-Some.i c.table_words-given.result.now
    c.table_words-given.ensures in
    let (order, below) = low_of c.loop-i.v c.in-Some.i c.max-low.result c.max-low.ensures above in
    let skip = children_skip t s m lays c.args.part x found c.loop-i.v c.in-Some.i
    (1024 * c.in-Some.i + c.max-low.result % 1024) next order below in
    next_same t x _ _ (Some _) (skip ∙ c.loop-i.invariant.passed t x s lays found)
    (c.in-Some-child_in.ensures t x c.in-Some.i leaves given)

pub overflow_add-v : goal.overflow_add-v
overflow_add-v g c = let (tables, small, above) = has_next (g.M.Frames.memory c.args.mem.now) c.args.part c.in-Some.i
    (c.loop-i.v / 1024) c.requires.part c.in-Some.ensures.next in omega (arith, small)

pub loop-i-smaller : goal.loop-i-smaller
loop-i-smaller g c = let (tables, small, above) = has_next (g.M.Frames.memory c.args.mem.now) c.args.part c.in-Some.i
    (c.loop-i.v / 1024) c.requires.part c.in-Some.ensures.next in omega (arith, small, above)

pub loop-i-preserved : goal.loop-i-preserved
loop-i-preserved g c =
    let m = g.M.Frames.memory c.args.mem.now in
    let (tables, small, above) = has_next (g.M.Frames.memory c.args.mem.now) c.args.part c.in-Some.i
    (c.loop-i.v / 1024) c.requires.part c.in-Some.ensures.next in
    record {
      high = omega (arith, small);
      passed = λ t x s lays found.
          let next = c.in-Some.ensures.next x _ (cells_in t s m lays c.args.part x found)
          (name_is t s m lays c.args.part x found) in
          let leaves = leaves_of t s m lays c.args.part x found c.in-Some.i c.table_words-leaves.result.now
          c.table_words-leaves.ensures in
          let given = given_of t s m lays c.args.part x found c.in-Some.i c.table_words-given.result.now
          c.table_words-given.ensures in
          let (order, below) = low_of c.loop-i.v c.in-Some.i c.max-low.result c.max-low.ensures above in
          let skip = children_skip t s m lays c.args.part x found c.loop-i.v c.in-Some.i
          (1024 * c.in-Some.i + c.max-low.result % 1024) next order below in
          c.in_default-child_in.ensures t x c.in-Some.i leaves given
          ∙ (skip ∙ c.loop-i.invariant.passed t x s lays found);
    }

pub returns : goal.returns
returns g c t x s lays found =
    let m = g.M.Frames.memory c.args.mem.now in
    let next =
    c.in_default.ensures.next x _ (cells_in t s m lays c.args.part x found) (name_is t s m lays c.args.part x found) in
    next_same t x _ _ None (c.loop-i.invariant.passed t x s lays found)
    (children_over t s m lays c.args.part x found c.loop-i.v next)
