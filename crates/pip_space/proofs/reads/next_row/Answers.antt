use Rattle.std.proofs.Common.{ap, arith, sym, subst}
use Rattle.pip_table.specs.Table.{IsDirectory, tables_below}
use Rattle.pip_model.specs.declared.level.Level.TheVariants.{Mmu}
use Rattle.pip_space.proofs.Tables.{is_table, next_found, next_none, next_not_none, next_word, packed_row}
use Rattle.pip_space.proofs.reads.next_row.Goals as goal

pub next_leaf-requires : goal.next_leaf-requires
next_leaf-requires g c =
    let n = c.requires in
    rw (c.directory-top.ensures.frame n.node n.cells n.is_in n.name) (is_table _ n.node n.cells n.is_in Mmu)

pub returns-in_err-v-clause-row : goal.returns-in_err-v-clause-row
returns-in_err-v-clause-row g c x rows space name =
    let top = c.directory-top.ensures.frame x _ space.node name in
    rw c.from_residual.ensures
    (next_none _ x rows space c.directory-top.result top c.args.after c.in_err-v.ensures.next)

pub returns-in-Some-clause-row : goal.returns-in-Some-clause-row
returns-in-Some-clause-row g c x rows space name =
    let top = c.directory-top.ensures.frame x _ space.node name in
    let v = c.in_ok-v.v in
    let word =
    next_word _ x rows space c.directory-top.result top c.args.after v c.in_ok-v.leaf c.in_ok-v.ensures.next in
    next_found _ x rows space c.directory-top.result top c.args.after v c.in_ok-v.leaf c.in-Some.row
    c.in_ok-v.ensures.next
    (c.in-Some.ensures (rows v) (packed_row _ x rows space v) word (c.level_word-given.ensures.word x rows space name)
    (c.level_word-from.ensures.word x rows space name))

pub returns-in-None-clause-row : goal.returns-in-None-clause-row
returns-in-None-clause-row g c x rows space name =
    let top = c.directory-top.ensures.frame x _ space.node name in
    let v = c.in_ok-v.v in
    let word =
    next_word _ x rows space c.directory-top.result top c.args.after v c.in_ok-v.leaf c.in_ok-v.ensures.next in
    absurd (next_not_none _ x rows space c.directory-top.result top c.args.after v c.in_ok-v.leaf c.in_ok-v.ensures.next
    (c.in-None.ensures (rows v) (packed_row _ x rows space v) word (c.level_word-given.ensures.word x rows space name)
    (c.level_word-from.ensures.word x rows space name)))

pub returns-in_err-v-clause-steps : goal.returns-in_err-v-clause-steps
returns-in_err-v-clause-steps g c x rows space name =
    let m = g.M.Frames.memory c.args.mem.now in
    let top = c.directory-top.ensures.frame x _ space.node name in
    omega (arith, ap (λ t. tables_below m t 1024) top)

pub returns-in-Some-clause-steps : goal.returns-in-Some-clause-steps
returns-in-Some-clause-steps g c x rows space name =
    let m = g.M.Frames.memory c.args.mem.now in
    let top = c.directory-top.ensures.frame x _ space.node name in
    omega (arith, ap (λ t. tables_below m t 1024) top)

pub returns-in-None-clause-steps : goal.returns-in-None-clause-steps
returns-in-None-clause-steps g c x rows space name =
    let m = g.M.Frames.memory c.args.mem.now in
    let top = c.directory-top.ensures.frame x _ space.node name in
    omega (arith, ap (λ t. tables_below m t 1024) top)
