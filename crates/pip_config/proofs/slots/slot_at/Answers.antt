use Rattle.std.proofs.Common.{arith, ◌≤◌, ◌/◌, length}
use Rattle.pip_model.specs.NodeWords.{slots}
use Rattle.pip_config.proofs.SlotReads.{slot_is, small_mmu, small_shadow1, small_shadow2}
use Rattle.pip_config.proofs.slots.slot_at.Goals as goal

pub read_pair-table-requires-clause-small : goal.read_pair-table-requires-clause-small
read_pair-table-requires-clause-small g c =
    let p = c.requires.list in
    let room = p.is_in.room in
    let count = p.count in
    let place = c.requires.place in
    let low : c.args.k / 170 ≤ length p.more = omega arith in
    small_mmu (g.M.Frames.memory c.args.mem.now) c.args.first c.args.m c.args.k c.page_at-page.result p.more p.tables
    p.is_in count place (c.page_at-page.ensures.frame p.more (slots p.tables) p.is_in.pages low)

pub read_pair-shadow1-requires-clause-small : goal.read_pair-shadow1-requires-clause-small
read_pair-shadow1-requires-clause-small g c =
    let p = c.requires.list in
    let room = p.is_in.room in
    let count = p.count in
    let place = c.requires.place in
    let low : c.args.k / 170 ≤ length p.more = omega arith in
    small_shadow1 (g.M.Frames.memory c.args.mem.now) c.args.first c.args.m c.args.k c.page_at-page.result p.more
    p.tables p.is_in count place (c.page_at-page.ensures.frame p.more (slots p.tables) p.is_in.pages low)

pub read_pair-shadow2-requires-clause-small : goal.read_pair-shadow2-requires-clause-small
read_pair-shadow2-requires-clause-small g c =
    let p = c.requires.list in
    let room = p.is_in.room in
    let count = p.count in
    let place = c.requires.place in
    let low : c.args.k / 170 ≤ length p.more = omega arith in
    small_shadow2 (g.M.Frames.memory c.args.mem.now) c.args.first c.args.m c.args.k c.page_at-page.result p.more
    p.tables p.is_in count place (c.page_at-page.ensures.frame p.more (slots p.tables) p.is_in.pages low)

pub returns-clause-slot : goal.returns-clause-slot
returns-clause-slot g c more ts list count =
    let place = c.requires.place in
    let room = list.room in
    let low : c.args.k / 170 ≤ length more = omega arith in
    slot_is (g.M.Frames.memory c.args.mem.now) c.args.first c.args.m c.args.k c.page_at-page.result more ts list count
    place (c.page_at-page.ensures.frame more (slots ts) list.pages low) _ _ _
    c.read_pair-table.ensures.va c.read_pair-table.ensures.frame c.read_pair-shadow1.ensures.va
    c.read_pair-shadow1.ensures.frame c.read_pair-shadow2.ensures.va c.read_pair-shadow2.ensures.frame
