use Rattle.std.proofs.Common.{◌+◌, refl, subst}
use Rattle.std.specs.Prelude.{slice_index}
use Rattle.pip_model.specs.declared.level.Level.TheVariants.{Shadow2}
use Rattle.pip_audit.specs.declared.auditor.Auditor.{Auditor}
use Rattle.pip_audit.specs.Comparing.{CoversTables, LoadsOnly}
use Rattle.pip_audit.specs.Families.{IsNextOf}
use Rattle.pip_audit.proofs.Differing.{goes_then}
use Rattle.pip_audit.proofs.Families.{each_first, each_next}
use Rattle.pip_audit.proofs.Judges.{loads_placed, loads_then, tables_stay}
use Rattle.pip_audit.proofs.auditor.Auditor.judge_children.Goals as goal

pub loop-next-init : goal.loop-next-init
loop-next-init g c =
    let m = g.M.Frames.memory c.args.mem.now in
    let a = c.args.self.now in
    let b = c.place.new.self in
    let parent = slice_index a.names.items c.args.y in
    let n : IsNextOf m a.names.items a.count parent 1 c.first_child-next.result =
    rw c.name-parent.ensures.name at c.first_child-next.ensures in
    record {
      read = c.place.ensures.read;
      rest = loads_placed a b b.node c.place.ensures.rest;
      places = rw c.name-parent.ensures.name at c.place.ensures.places;
      goes = record { is = c.requires.is; stays = λ f e. e };
      child = n.child;
      most = n.most;
      covers = each_first m a.names.items a.count parent _ _ n;
    }

pub judge_placed-first-requires-clause-node : goal.judge_placed-first-requires-clause-node
judge_placed-first-requires-clause-node g c =
    let inv = c.loop-next.invariant in
    rw inv.rest (inv.child c.in-Some.x c.in-Some.is).1

pub next_child_after-next-requires-clause-node : goal.next_child_after-next-requires-clause-node
next_child_after-next-requires-clause-node g c =
    let inv = c.loop-next.invariant in
    rw (c.judge_placed-first.ensures.rest, inv.rest) (inv.child c.in-Some.x c.in-Some.is).1

pub next_child_after-next-requires-clause-inside : goal.next_child_after-next-requires-clause-inside
next_child_after-next-requires-clause-inside g c =
    let inv = c.loop-next.invariant in
    rw (
      c.judge_placed-first.ensures.rest,
      inv.rest,
      (inv.child c.in-Some.x c.in-Some.is).2,
      ← c.name-parent.ensures.name,
    )
    c.name-parent.ensures.inside

pub loop-next-preserved : goal.loop-next-preserved
loop-next-preserved g c =
    let m = g.M.Frames.memory c.args.mem.now in
    let a = c.args.self.now in
    let s = c.loop-next.self in
    let x = c.in-Some.x in
    let parent = slice_index a.names.items c.args.y in
    let inv = c.loop-next.invariant in
    let b = c.judge_placed-first.new.self in
    let result = c.judge_placed-first.result in
    let next = c.judge_placed-first.ensures in
    let (lo, hi, up) = inv.child x c.in-Some.is in
    let n : IsNextOf m a.names.items a.count parent (x + 1) c.next_child_after-next.result =
    rw (next.rest, inv.rest, up) at c.next_child_after-next.ensures in
    let loads : LoadsOnly s b = rw next.rest refl in
    let before = rw c.in-Some.is at inv.covers in
    record {
      read = next.read;
      rest = loads_then a s b inv.rest loads;
      places = rw next.rest inv.places;
      goes = goes_then m c.args.found c.loop-next.first result inv.goes next.goes;
      child = n.child;
      most = n.most;
      covers = each_next m a.names.items a.count parent _ _ x
          (λ k lo hi up. tables_stay m c.loop-next.first result _ Shadow2 next.goes (before k lo hi up))
          (subst (λ (z : Auditor). CoversTables m result (slice_index z.names.items x) Shadow2) inv.rest next.covers) n;
    }
