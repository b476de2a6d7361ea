use Rattle.std.proofs.Common.{arith, sym, ap, ◌∙◌, ◌≡◌, ◌<◌, ◌+◌, ◌-◌, ◌/◌, length, below_more}
use Rattle.pip_config.specs.Lists.{list_frame}
use Rattle.pip_config.proofs.SlotReads.{before_inside, before_small, page_of, page_of_inside, page_of_word}
use Rattle.pip_config.proofs.SlotReads.{table_absent, table_found}
use Rattle.pip_config.proofs.slots.find.Goals as goal

pub page_of_slot-page-requires-clause-frame : goal.page_of_slot-page-requires-clause-frame
page_of_slot-page-requires-clause-frame g c =
    let p = c.requires in
    let inside : c.loop-k.k < length p.tables = grind arith in
    before_inside _ c.args.first c.loop-k.k c.loop-k.page p.more p.tables p.is_in
    inside (c.loop-k.invariant.place p.more p.tables p.is_in p.count).page

pub page_of_slot-page-requires-clause-link : goal.page_of_slot-page-requires-clause-link
page_of_slot-page-requires-clause-link g c =
    let p = c.requires in
    let inside : c.loop-k.k < length p.tables = grind arith in
    before_small _ c.args.first c.loop-k.k c.loop-k.page p.more p.tables p.is_in
    inside (c.loop-k.invariant.place p.more p.tables p.is_in p.count).page (g.met.M.Frames.bounds c.args.mem.now).1

pub word-requires-clause-frame : goal.word-requires-clause-frame
word-requires-clause-frame g c =
    let p = c.requires in
    let inside : c.loop-k.k < length p.tables = grind arith in
    page_of_inside _ c.args.first c.loop-k.k c.loop-k.page p.more p.tables p.is_in
    inside (c.loop-k.invariant.place p.more p.tables p.is_in p.count).page c.page_of_slot-page.result
    c.page_of_slot-page.ensures.same c.page_of_slot-page.ensures.next

pub returns-then-word-number-clause-place : goal.returns-then-word-number-clause-place
returns-then-word-number-clause-place g c more ts list count =
    let l = c.loop-k.invariant.place more ts list count in
    let inside : c.loop-k.k < length ts = grind arith in
    let read = page_of_word _ c.args.first c.loop-k.k c.loop-k.page more ts list inside l.page
    c.page_of_slot-page.result c.page_of_slot-page.ensures.same c.page_of_slot-page.ensures.next in
    table_found ts c.args.table c.loop-k.k inside
    (rw (← read, ← c.word.ensures.word, c.if-word-number.true, c.number.ensures.same)) l.none

pub loop-k-preserved : goal.loop-k-preserved
loop-k-preserved g c = record {
  place = λ more ts list count.
      let l = c.loop-k.invariant.place more ts list count in
      let inside : c.loop-k.k < length ts = grind arith in
      let at = page_of _ c.args.first c.loop-k.k c.loop-k.page more ts list inside l.page c.page_of_slot-page.result
      c.page_of_slot-page.ensures.same c.page_of_slot-page.ensures.next in
      let read = page_of_word _ c.args.first c.loop-k.k c.loop-k.page more ts list inside l.page
      c.page_of_slot-page.result c.page_of_slot-page.ensures.same c.page_of_slot-page.ensures.next in
      let next : c.loop-k.k + 1 - 1 ≡ c.loop-k.k = omega arith in
      record {
        page = cc;
        none = below_more _ _ l.none
            (λ e. c.if-word-number.false (rw (c.word.ensures.word, read, e, ← c.number.ensures.same)));
      };
  steps =
      omega arith;
}

pub returns-clause-place : goal.returns-clause-place
returns-clause-place g c more ts list count =
    let none = (c.loop-k.invariant.place more ts list count).none in
    table_absent ts c.args.table (λ j h. none j (grind arith))
