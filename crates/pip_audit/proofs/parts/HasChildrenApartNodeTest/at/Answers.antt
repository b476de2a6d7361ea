use Rattle.std.proofs.Common.{◌+◌, arith, refl, sym, ap, ◌∙◌}
use Rattle.std.specs.Prelude.{slice_index}
use Rattle.pip_audit.specs.Families.{IsNextOf, end_of}
use Rattle.pip_audit.specs.FrameSets.{are_fresh, contains, with_all}
use Rattle.pip_audit.specs.Judging.{held_at_place}
use Rattle.pip_audit.proofs.Siblings.{held_child, held_stranger, so_far_next, so_far_none, so_far_pass, so_far_stop}
use Rattle.pip_audit.proofs.Walks.{stays_changed}
use Rattle.pip_audit.proofs.parts.HasChildrenApartNodeTest.at.Goals as goal

pub loop-next-init : goal.loop-next-init
loop-next-init g c =
    let m = g.M.Frames.memory c.args.mem.now in
    let a = c.args.a.now in
    let r = c.requires.read in
    let parent = slice_index a.names.items c.args.x in
    let h = held_at_place m a.names.items c.args.x in
    let met = c.clear.new.self in
    let n : IsNextOf m a.names.items a.count parent 1 c.first_child-next.result =
    rw c.name-parent.ensures.name at c.first_child-next.ensures in
    record {
      read = stays_changed m a (record a.sets { met = met }) r
          (assumption (c.clear.ensures.room ∙ r.has_read.room.sets.met));
      keeps = record { count = refl; names = refl };
      child = n.child;
      most = n.most;
      met = so_far_pass h 1 (end_of a.count c.first_child-next.result) (contains met) n.later
          (λ j lo hi. held_stranger m parent (slice_index a.names.items j) (n.none j lo hi))
          (so_far_none h (contains met) c.clear.ensures.none);
    }

pub meet_held-requires-clause-node : goal.meet_held-requires-clause-node
meet_held-requires-clause-node g c =
    let inv = c.loop-next.invariant in
    rw inv.keeps.count (inv.child c.in-Some.k c.in-Some.is).1

pub returns-then-not-meet_held-clause-says : goal.returns-then-not-meet_held-clause-says
returns-then-not-meet_held-clause-says g c =
    let m = g.M.Frames.memory c.args.mem.now in
    let names = c.args.a.now.names.items in
    let k = c.in-Some.k in
    let inv = c.loop-next.invariant in
    let met = contains c.loop-next.a.sets.met in
    let (lo, hi, up) = inv.child k c.in-Some.is in
    let held = held_child m (slice_index names c.args.x) (slice_index names k) up in
    let fresh = rw inv.keeps.names at (sym c.meet_held.ensures.fresh) in (
      k,
      lo,
      hi,
      so_far_stop (held_at_place m names c.args.x) k met (rw c.in-Some.is at inv.met) lo
          (ap (are_fresh met) held ∙ fresh ∙ c.if-not-meet_held.true),
    )

pub next_child_after-next-requires-clause-inside : goal.next_child_after-next-requires-clause-inside
next_child_after-next-requires-clause-inside g c =
    let inv = c.loop-next.invariant in
    rw (
      c.meet_held.ensures.rest,
      inv.keeps.names,
      (inv.child c.in-Some.k c.in-Some.is).2,
      ← c.name-parent.ensures.name,
    )
    c.name-parent.ensures.inside

pub loop-next-preserved : goal.loop-next-preserved
loop-next-preserved g c =
    let m = g.M.Frames.memory c.args.mem.now in
    let a = c.args.a.now in
    let names = a.names.items in
    let k = c.in-Some.k in
    let parent = slice_index names c.args.x in
    let h = held_at_place m names c.args.x in
    let inv = c.loop-next.invariant in
    let old = contains c.loop-next.a.sets.met in
    let new = contains c.meet_held.new.self.sets.met in
    let next = c.meet_held.ensures in
    let (lo, hi, up) = inv.child k c.in-Some.is in
    let n : IsNextOf m names a.count parent (k + 1) c.next_child_after-next.result =
    rw (next.rest, inv.keeps.count, inv.keeps.names, up) at c.next_child_after-next.ensures in
    let held = held_child m parent (slice_index names k) up in
    let fresh = rw inv.keeps.names at (sym next.fresh) in
    record {
      read = next.read;
      keeps = rw next.rest (record { count = inv.keeps.count; names = inv.keeps.names });
      child = n.child;
      most = n.most;
      met = so_far_pass h (k + 1) (end_of a.count c.next_child_after-next.result) new n.later
          (λ j lo hi. held_stranger m parent (slice_index names j) (n.none j (omega (arith, lo)) hi))
          (so_far_next h k old (rw c.in-Some.is at inv.met) lo new
          (ap (are_fresh old) held ∙ fresh ∙ c.if-not-meet_held.false)
          (λ f. rw inv.keeps.names at (next.met c.if-not-meet_held.false f)
          ∙ ap (λ gs. with_all old gs f) (sym held)));
    }

pub returns-clause-says : goal.returns-clause-says
returns-clause-says g c = λ i j lo less hi. (rw c.in_default.is at c.loop-next.invariant.met).apart i j lo less hi
