use Rattle.std.proofs.Common.{arith, ap, ◌≡◌, ◌%◌}
use Rattle.pip_entry.specs.Sh1.{packed_sh1}
use Rattle.pip_model.specs.FullRows.{full_rows}
use Rattle.pip_model.proofs.Frames.Laid.{laid_space}
use Rattle.pip_model.proofs.Trees.Lookup.{found_name}
use Rattle.pip_space.proofs.Tables.{packed_row}
use Rattle.pip_kern.proofs.Children.{child_by_word, no_child_by_word}
use Rattle.pip_kern.proofs.Climb.{part_node, part_rows}
use Rattle.pip_kern.proofs.nodes.child_at.Goals as goal

pub given-requires : goal.given-requires
given-requires g c = part_rows (g.M.Frames.memory c.args.mem.now) c.args.caller c.requires.stands

pub leaf_word-requires : goal.leaf_word-requires
leaf_word-requires g c = part_node (g.M.Frames.memory c.args.mem.now) c.args.caller c.requires.stands

pub returns-in-Descriptor-clause-child : goal.returns-in-Descriptor-clause-child
returns-in-Descriptor-clause-child g c t x s lays is =
    let m = g.M.Frames.memory c.args.mem.now in
    let space = laid_space t s m lays c.args.caller x is in
    let name = found_name t c.args.caller x is in
    let rows = full_rows t x in
    let v = c.of_address-v.result in
    let one : packed_sh1 c.given.result % 4096 ≡ 1 = rw c.in-Descriptor.is (omega arith) in
    child_by_word t s c.args.caller c.args.va x is c.requires.place (rows v) (rw c.of_address-v.ensures)
    (packed_sh1 c.given.result) (c.given.ensures.word x rows space name) one
    c.page_of.result (c.page_of.ensures (rows v) (packed_row m x rows space v)
    (c.leaf_word.ensures.word x rows space name))

pub returns-in-Free-clause-child : goal.returns-in-Free-clause-child
returns-in-Free-clause-child g c t x s lays is =
    let rows = full_rows t x in
    let v = c.of_address-v.result in
    let kind : packed_sh1 c.given.result % 4096 ≡ 0 = rw c.in-Free.is (omega arith) in
    no_child_by_word t s c.args.caller c.args.va x is c.requires.place (rows v) (rw c.of_address-v.ensures)
    (packed_sh1 c.given.result)
    (c.given.ensures.word x rows (laid_space t s (g.M.Frames.memory c.args.mem.now) lays c.args.caller x is)
    (found_name t c.args.caller x is)) (λ e. omega arith)

pub returns-in-Config-clause-child : goal.returns-in-Config-clause-child
returns-in-Config-clause-child g c t x s lays is =
    let rows = full_rows t x in
    let v = c.of_address-v.result in
    let kind : packed_sh1 c.given.result % 4096 ≡ 2 = rw c.in-Config.is (omega arith) in
    no_child_by_word t s c.args.caller c.args.va x is c.requires.place (rows v) (rw c.of_address-v.ensures)
    (packed_sh1 c.given.result)
    (c.given.ensures.word x rows (laid_space t s (g.M.Frames.memory c.args.mem.now) lays c.args.caller x is)
    (found_name t c.args.caller x is)) (λ e. omega arith)

pub returns-in-Lent-clause-child : goal.returns-in-Lent-clause-child
returns-in-Lent-clause-child g c t x s lays is =
    let rows = full_rows t x in
    let v = c.of_address-v.result in
    let kind : packed_sh1 c.given.result % 4096 ≡ 3 = rw c.in-Lent.is (omega arith) in
    no_child_by_word t s c.args.caller c.args.va x is c.requires.place (rows v) (rw c.of_address-v.ensures)
    (packed_sh1 c.given.result)
    (c.given.ensures.word x rows (laid_space t s (g.M.Frames.memory c.args.mem.now) lays c.args.caller x is)
    (found_name t c.args.caller x is)) (λ e. omega arith)
