use Rattle.std.proofs.Common.{arith, sym, ap, subst, ◌∙◌, ◌≡◌, ◌++◌, ◌∷◌, [], ◌-◌, length}
use Rattle.std.proofs.lemmas.List.{length-append}
use Rattle.pip_model.specs.NodeWords.{no_table, slots}
use Rattle.pip_model.specs.Tree.{table_pairs}
use Rattle.pip_config.specs.Lists.{PagesIn, put_slot}
use Rattle.pip_config.proofs.SlotWrites.{ListStays-trans, swap_list, slots_last}
use Rattle.pip_config.proofs.slots.swap_remove.Goals as goal

pub write_slot-requires-2 : goal.write_slot-requires-2
write_slot-requires-2 g c =
    let p = c.requires.list in
    let place = c.requires.place in
    let count = p.count in
    let room = p.is_in.room in
    let put = c.write_slot.ensures.pages p.more (slots p.tables) (record {
      index = 0;
      mmu = _;
      shadow1 = _;
      shadow2 = _;
    }) p.is_in.pages (omega arith) (sym (c.slot_at-last.ensures.slot p.more p.tables p.is_in p.count)) in
    record { more = p.more; slot = _; is_in = put.0; inside = omega arith }

pub returns-clause-list : goal.returns-clause-list
returns-clause-list g c more ts t list count =
    let place = c.requires.place in
    let long = length-append ts (t ∷ []) in
    let room = list.room in
    let last_place : c.args.m - 1 ≡ length ts = omega arith in
    let last : table_pairs t ≡ c.slot_at-last.result =
    rw (← slots_last ts t, ← last_place, ← c.slot_at-last.ensures.slot more (ts ++ t ∷ []) list (omega arith)) in
    let one = c.write_slot.ensures.pages more (slots (ts ++ t ∷ [])) t list.pages (omega arith) last in
    let two = c.write_slot-2.ensures.pages more (put_slot (slots (ts ++ t ∷ [])) c.args.k t) no_table one.0
    (omega arith) (sym c.no_slot.ensures) in (
      swap_list (g.M.Frames.memory c.args.mem.now) (g.M.Frames.memory c.write_slot-2.new.mem) c.args.first more ts t
          c.args.k list (omega arith)
          (rw (← last_place) two.0),
      ListStays-trans c.args.first more _ _ _ one.1 two.1,
    )
