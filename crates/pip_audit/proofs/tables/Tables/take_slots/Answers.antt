use Rattle.std.proofs.Common.{◌≡◌, ◌<◌, ◌+◌, ◌-◌, ◌*◌, ◌/◌, ◌%◌, length, map, arith, refl, sym, ap, ◌∙◌, subst}
use Rattle.std.proofs.Common.{None}
use Rattle.std.specs.Prelude.{option_map}
use Rattle.pip_base.specs.Memory.{word_at}
use Rattle.pip_model.specs.Lists.{repeats}
use Rattle.pip_model.specs.ReadOff.{base_read, node_stop, table_from, table_read}
use Rattle.pip_model.specs.Tree.{Table, lists, table_at}
use Rattle.pip_model.proofs.Audit.AuditLaw.{first_none_back}
use Rattle.pip_audit.specs.Links.{list_read, page_after, slot_of}
use Rattle.pip_audit.specs.Tables.{held_at, triple_of}
use Rattle.pip_audit.proofs.Links.{after_inside, first_list_inside, slot_is}
use Rattle.pip_audit.proofs.Loads.{last_apart, last_none, last_tables, passes, repeats_more, slot_more, slot_table}
use Rattle.pip_audit.proofs.Loads.{taken}
use Rattle.pip_audit.proofs.tables.Tables.take_slots.Goals as goal

pub loop-k-init : goal.loop-k-init
loop-k-init g c =
    let m = g.M.Frames.memory c.args.mem.now in (
      omega arith,
      c.requires.ready.room,
      λ d. c.requires.none d ∙ sym (last_none m c.args.self.now.part c.args.count d),
      c.requires.fresh ∙ sym (last_apart m c.args.self.now.part c.args.count),
      refl,
      refl,
    )

pub list_page-page-requires-clause-pages : goal.list_page-page-requires-clause-pages
list_page-page-requires-clause-pages g c = λ j h.
    let m = g.M.Frames.memory c.args.mem.now in
    let f = c.args.self.now.part in
    let n = c.args.count in
    let p = passes m f n c.requires.count c.requires.ready.passes in
    let below = c.loop-k-test.true in
    subst (λ q. page_after m (word_at m q 9) j < length m) (sym c.loop-k.invariant.5)
    (after_inside m (word_at m f 9) (lists n - 1) j (first_list_inside m f p.base) p.more (omega (arith, below, h)))

pub take_slot-requires-clause-passes : goal.take_slot-requires-clause-passes
take_slot-requires-clause-passes g c =
    let m = g.M.Frames.memory c.args.mem.now in
    let f = c.args.self.now.part in
    let n = c.args.count in
    let j = n - 1 - c.loop-k.k in
    let p = passes m f n c.requires.count c.requires.ready.passes in
    let below = c.loop-k-test.true in
    let less : j < n = omega (arith, below) in
    slot_is m f n j (word_at m c.loop-k.self.part 3) c.list_page-page.result less (ap (λ q. word_at m q 3)
    c.loop-k.invariant.5)
    (c.list_page-page.ensures.page ∙ ap (λ q. page_after m (word_at m q 9) (j / 170)) c.loop-k.invariant.5)
    ∙ first_none_back (slot_of m f n) 0 n p.slots j (omega arith) (omega (arith, below))

pub loop-k-preserved : goal.loop-k-preserved
loop-k-preserved g c =
    let m = g.M.Frames.memory c.args.mem.now in
    let f = c.args.self.now.part in
    let n = c.args.count in
    let k = c.loop-k.k in
    let j = n - 1 - k in
    let below = c.loop-k-test.true in
    let less : j < n = omega (arith, below) in
    let inv = c.loop-k.invariant in
    let b = table_from m (word_at m c.loop-k.self.part 3) c.list_page-page.result (2 + 6 * (j % 170)) in
    let table : b ≡ table_read m (base_read m f) (list_read m f n) j =
    slot_table m f n j (word_at m c.loop-k.self.part 3) c.list_page-page.result less (ap (λ q. word_at m q 3) inv.5)
    (c.list_page-page.ensures.page ∙ ap (λ q. page_after m (word_at m q 9) (j / 170)) c.loop-k.invariant.5) in (
      omega (arith, below),
      c.take_slot.ensures.room,
      λ d. c.take_slot.ensures.of d ∙ slot_more m f n k b (held_at c.loop-k.self) d below table (inv.2 d),
      c.take_slot.ensures.repeats ∙ repeats_more m f n k b (held_at c.loop-k.self b.index) c.loop-k.self.repeats below
          table (inv.2 b.index) inv.3,
      c.take_slot.ensures.rest.0 ∙ inv.4,
      c.take_slot.ensures.rest.1 ∙ inv.5,
    )

pub returns-clause-is_of : goal.returns-clause-is_of
returns-clause-is_of g c =
    let m = g.M.Frames.memory c.args.mem.now in
    let n = c.args.count in
    let k = c.loop-k.k in
    let inv = c.loop-k.invariant in
    let part = sym inv.5 in
    let past = c.loop-k-test.false in
    let most = inv.0 in
    taken m c.loop-k.self n k
    (subst (λ q. q < length m) part c.requires.ready.part)
    (subst (λ q. node_stop m q ≡ None) part c.requires.ready.passes)
    inv.1
    (omega (arith, past, most))
    (c.requires.count ∙ ap (λ q. word_at m q 12) part)
    (λ d. inv.2 d ∙ ap (λ q. option_map triple_of (table_at (last_tables m q n k) d)) part)
    (inv.3 ∙ ap (λ q. repeats (map (λ (t : Table). t.index) (last_tables m q n k))) part)
