use Rattle.std.proofs.Common.{◌≡◌, ◌+◌, ◌++◌, suc, ap, ap₂, ◌∙◌, subst, arith, [], ◌∷◌}
use Rattle.pip_native.specs.Rooms.{HasRoomForChildren}
use Rattle.pip_native.specs.Watching.{addresses, with_children}
use Rattle.pip_native.proofs.children.build_children.Goals as goal

pub build_child-requires-clause-some : goal.build_child-requires-clause-some
build_child-requires-clause-some g c = omega arith

pub build_child-requires-clause-room : goal.build_child-requires-clause-room
build_child-requires-clause-room g c = let (w, h, r) = c.requires.room in let k = c.loop-i.invariant.world w h r in
    (with_children w c.args.n c.loop-i.i, k.0, k.1)

pub loop-i-preserved : goal.loop-i-preserved
loop-i-preserved g c =
    let n = c.args.n in
    let i = c.loop-i.i in
    let e : suc i ≡ i + 1 = omega arith in
    record {
      world = λ w h r.
          let k = c.loop-i.invariant.world w h r in
          subst (λ j. g.P.Port.stands c.build_child.new.port (with_children w n j)
          × HasRoomForChildren n (i + 1) (with_children w n j)) e
          (c.build_child.ensures.world (with_children w n i) k.0 k.1);
      len = let a = c.push.ensures.len in omega arith;
      items = c.push.ensures.items ∙ ap₂ (λ xs a. xs ++ a ∷ []) c.loop-i.invariant.items c.build_child.ensures.address
          ∙ ap (addresses n) e;
      count = c.build_child.ensures.count ∙ c.loop-i.invariant.count;
    }
