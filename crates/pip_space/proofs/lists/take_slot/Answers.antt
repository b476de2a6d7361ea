use Rattle.std.proofs.Common.{◌∙◌, sym, ap, subst, arith}
use Rattle.pip_config.specs.Lists.{IsPlaceOfTable}
use Rattle.pip_model.specs.Tree.{table_pairs}
use Rattle.pip_space.proofs.Packed.{not_both}
use Rattle.pip_space.proofs.ListChanges.{found_place, slot_taken, some_same}
use Rattle.pip_space.proofs.lists.take_slot.Goals as goal

pub never-assert_unchecked-requires : goal.never-assert_unchecked-requires
never-assert_unchecked-requires g c =
    let r = c.requires in
    absurd (not_both c.find.result r.place c.in-None.is (found_place r.tables r.taken r.place c.args.table c.find.result
    r.is_place r.frame (c.find.ensures.place r.more r.tables r.is_in r.count)))

pub slot_at-slot-requires-clause-place : goal.slot_at-slot-requires-clause-place
slot_at-slot-requires-clause-place g c =
    let r = c.requires in
    omega (
      arith,
      some_same c.find.result c.in-Some.k r.place c.in-Some.is
          (found_place r.tables r.taken r.place c.args.table c.find.result r.is_place r.frame
          (c.find.ensures.place r.more r.tables r.is_in r.count)),
    )

pub swap_remove-requires-clause-place : goal.swap_remove-requires-clause-place
swap_remove-requires-clause-place g c =
    let r = c.requires in
    omega (
      arith,
      some_same c.find.result c.in-Some.k r.place c.in-Some.is
          (found_place r.tables r.taken r.place c.args.table c.find.result r.is_place r.frame
          (c.find.ensures.place r.more r.tables r.is_in r.count)),
    )

pub returns-clause-list : goal.returns-clause-list
returns-clause-list g c more ts b k list count frame place =
    let same = some_same c.find.result c.in-Some.k k c.in-Some.is
    (found_place ts b k c.args.table c.find.result place frame (c.find.ensures.place more ts list count)) in
    let here = subst (IsPlaceOfTable ts b) (sym same) place in
    let done = slot_taken _ _ c.args.first c.args.m more ts b c.in-Some.k list count here c.swap_remove.ensures.list in
    (rw (c.slot_at-slot.ensures.slot more ts list count, here.is_table), done.0, done.1)

pub returns-clause-steps : goal.returns-clause-steps
returns-clause-steps g c =
    let r = c.requires in
    omega (
      arith,
      some_same c.find.result c.in-Some.k r.place c.in-Some.is
          (found_place r.tables r.taken r.place c.args.table c.find.result r.is_place r.frame
          (c.find.ensures.place r.more r.tables r.is_in r.count)),
    )
