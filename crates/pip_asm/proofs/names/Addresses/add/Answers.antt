use Rattle.std.proofs.Common.{◌≡◌, ◌<◌, ◌≤◌, ◌+◌, ◌∙◌, ap, sym, subst, refl, arith, true, length}
use Rattle.std.specs.Prelude.{slice_get}
use Rattle.pip_asm.specs.Names.{home_of, is_free, mark_of, hash_on}
use Rattle.pip_asm.proofs.Naming.{IsPlaced, named-found, none_there, place-added, place-fresh, place-kept, table_found}
use Rattle.pip_asm.proofs.names.Addresses.add.Goals as goal

pub returns-then-is_some-clause-stopped : goal.returns-then-is_some-clause-stopped
returns-then-is_some-clause-stopped c = (
  named-found c.args.self.now c.args.name.now c.found_in.result
      (table_found c.args.self.now c.args.name.now c.deref.result.now c.deref-2.result.now c.mixed-hash.result
      c.mark_of-mark.result c.home_of-home.result c.found_in.result c.mixed-hash.ensures c.mark_of-mark.ensures
      c.deref.ensures.value c.home_of-home.ensures.home c.deref-2.ensures.value c.found_in.ensures)
      (sym c.is_some.ensures ∙ c.if-is_some.true),
  refl,
)

is_placed : (c : goal.After-self-1)
    → IsPlaced c.args.self.now c.args.name c.in-Some.i c.mark_of-mark.result c.args.address
is_placed c =
    let n = c.args.self.now in
    let (low, high, free) = c.in-Some.ensures in
    let items : length c.deref.result.now ≡ length n.slots.items = rw c.deref.ensures.value in
    let room = c.home_of-home.ensures.room in
    let home : c.home_of-home.result ≡ home_of n.slots.items (hash_on n.seed c.args.name.now) =
    rw (c.home_of-home.ensures.home, c.deref.ensures.value, c.mixed-hash.ensures) in
    record {
      kept = c.requires;
      marked = rw (c.mark_of-mark.ensures, c.mixed-hash.ensures);
      none =
          cc (
            table_found n c.args.name.now c.deref.result.now c.deref-2.result.now c.mixed-hash.result
                c.mark_of-mark.result c.home_of-home.result c.found_in.result c.mixed-hash.ensures
                c.mark_of-mark.ensures
                c.deref.ensures.value c.home_of-home.ensures.home c.deref-2.ensures.value c.found_in.ensures,
            none_there c.found_in.result (sym c.is_some.ensures ∙ c.if-is_some.false),
          );
      inside = omega arith;
      low = rw (← home) low;
      high = rw (← home) high;
      free = rw (← c.deref-3.ensures.value) free;
    }

pub returns-in-Some-clause-kept : goal.returns-in-Some-clause-kept
returns-in-Some-clause-kept c = place-kept c.args.self.now c.args.name c.in-Some.i c.mark_of-mark.result c.args.address
    (is_placed c) _ refl refl refl

pub returns-in-Some-clause-fresh : goal.returns-in-Some-clause-fresh
returns-in-Some-clause-fresh c =
    place-fresh c.args.self.now c.args.name c.in-Some.i c.mark_of-mark.result c.args.address (is_placed c)

pub returns-in-Some-clause-added : goal.returns-in-Some-clause-added
returns-in-Some-clause-added c = place-added c.args.self.now c.args.name c.in-Some.i c.mark_of-mark.result
    c.args.address (is_placed c) _ refl refl refl
