use Rattle.std.proofs.Common.{◌∙◌, arith, sym}
use Rattle.pip_kern.proofs.Climb.{part_node}
use Rattle.pip_model.specs.FullRows.{full_rows}
use Rattle.pip_model.proofs.Frames.Laid.{laid_space}
use Rattle.pip_model.proofs.Trees.Lookup.{found_name}
use Rattle.pip_space.specs.Rows.{full_of}
use Rattle.pip_table.specs.NextLeaf.{start_above}
use Rattle.pip_away.proofs.Walked.{free_all, free_met, free_none, free_on, none_left, row_low}
use Rattle.pip_away.proofs.rows.is_childless.Goals as goal

pub loop-next-init : goal.loop-next-init
loop-next-init g c t x s laid found = free_none t s c.args.part x found

pub next_row-requires : goal.next_row-requires
next_row-requires g c = part_node (g.M.Frames.memory c.args.mem.now) c.args.part c.requires

pub returns-then-not-is_free : goal.returns-then-not-is_free
returns-then-not-is_free g c t x s laid found =
    let n = c.in-Some.ensures.row x (full_rows t x) (laid_space t s (g.M.Frames.memory c.args.mem.now) laid
    c.args.part x found) (found_name t c.args.part x found) in
    free_met t s c.args.part x found c.in-Some.next.0 (full_of c.in-Some.next.1) n.1
    (sym c.if-not-is_free.true ∙ c.is_free.ensures)

pub loop-next-preserved : goal.loop-next-preserved
loop-next-preserved g c t x s laid found =
    let n = c.in-Some.ensures.row x (full_rows t x) (laid_space t s (g.M.Frames.memory c.args.mem.now) laid
    c.args.part x found) (found_name t c.args.part x found) in
    free_on t s c.args.part x found (start_above c.loop-next.after) c.in-Some.next.0 (full_of c.in-Some.next.1)
    (c.loop-next.invariant t x s laid found) n.0 n.1 n.2 (sym c.if-not-is_free.false ∙ c.is_free.ensures)

pub loop-next-smaller : goal.loop-next-smaller
loop-next-smaller g c =
    let k = c.requires in
    let n = c.in-Some.ensures.row k.node (full_rows k.tree k.node) (laid_space k.tree k.sound
    (g.M.Frames.memory c.args.mem.now) k.laid c.args.part k.node k.found)
    (found_name k.tree c.args.part k.node k.found) in
    let low = row_low k.tree k.sound c.args.part k.node k.found c.in-Some.next.0 (full_of c.in-Some.next.1) n.1 in
    let from = n.0 in
    omega (arith, low, from)

pub returns : goal.returns
returns g c t x s laid found =
    free_all t s c.args.part x found (start_above c.loop-next.after) (c.loop-next.invariant t x s laid found)
    (none_left (full_rows t x) c.loop-next.after c.next_row.result
    (c.next_row.ensures.row x (full_rows t x) (laid_space t s (g.M.Frames.memory c.args.mem.now) laid c.args.part x
    found) (found_name t c.args.part x found)) c.in_default.not-Some)
