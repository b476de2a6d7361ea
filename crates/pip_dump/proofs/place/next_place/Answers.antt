use Rattle.std.proofs.Common.{◌+◌, ◌-◌, arith, refl, subst, sym}
use Rattle.pip_dump.specs.Walk.{IsAt}
use Rattle.pip_dump.specs.declared.place.WalkPlace.{WalkPlace}
use Rattle.pip_dump.proofs.Moves.{at_child, at_end, at_up}
use Rattle.pip_dump.proofs.place.next_place.Goals as goal

pub returns-in-Some : goal.returns-in-Some
returns-in-Some g c t rest held at =
    let now = c.loop-child.invariant.comes t rest held at in
    let child : WalkPlace = record { part = c.in-Some.child; depth = c.loop-child.depth + 1 } in
    at_child t held.0 c.loop-child.part c.loop-child.depth c.loop-child.after child rest now
    (c.in-Some.ensures t now.node held.0 held.1 now.found) refl

pub returns-then-depth-eq0 : goal.returns-then-depth-eq0
returns-then-depth-eq0 g c t rest held at =
    let now = c.loop-child.invariant.comes t rest held at in
    at_end t held.0 c.loop-child.part c.loop-child.depth c.loop-child.after rest now c.if-depth-eq0.true
    (c.in_default.ensures t now.node held.0 held.1 now.found)

pub loop-child-preserved : goal.loop-child-preserved
loop-child-preserved g c = record {
  stands = c.parent_of-part.ensures.stands;
  small = let small = c.loop-child.invariant.small in omega (arith, small);
  page = let low = c.number-after.ensures.small in omega (arith, low);
  comes = λ t rest held at.
      let now = c.loop-child.invariant.comes t rest held at in
      subst (λ k. IsAt t c.parent_of-part.result (c.loop-child.depth - 1) (k + 1) rest)
      (sym c.number-after.ensures.same) (at_up t held.0 c.loop-child.part c.loop-child.depth c.loop-child.after _ _
      rest now (c.in_default.ensures t now.node held.0 held.1 now.found) c.if-depth-eq0.false (c.birthplace.ensures
      t now.node held.0 held.1 now.found) (c.parent_of-part.ensures.parent t now.node held.0 held.1 now.found));
}
