use Rattle.std.proofs.Common.{subst}
use Rattle.pip_parent.specs.Contract.{Builds, RefusesToBuild}
use Rattle.pip_native.specs.Watching.{child_wants, with_entry}
use Rattle.pip_native.proofs.Entries.{entry_as, room_kept}
use Rattle.pip_native.proofs.Building.{child_done, never}
use Rattle.pip_native.proofs.children.build_child.Goals as goal

pub never-assert_unchecked-requires : goal.never-assert_unchecked-requires
never-assert_unchecked-requires g c =
    let (w, h, r) = c.requires.room in
    let n = c.args.n in
    let i = c.args.i in
    let a = c.set_entry.ensures.world w h in
    let s = c.set_entry.ensures.sound (with_entry w n i) a in
    let room = room_kept n i w (with_entry w n i)
    (entry_as n i w (g.met.P.Port.sound c.args.port.now w h).0 r c.requires.most c.requires.low) r in
    absurd (never n i c.requires.most c.requires.low w s room (g.P.Port.stands c.set_entry.new.port)
    (g.P.Port.stands c.build.new.port) a c.in-Err.field-0
    (subst (λ xs. RefusesToBuild (g.P.Port.stands c.set_entry.new.port) (g.P.Port.stands c.build.new.port) 0 xs
    child_wants c.in-Err.field-0) c.pool_of.ensures c.in-Err.ensures.build))

pub returns-clause-world : goal.returns-clause-world
returns-clause-world g c = λ w h r.
    let n = c.args.n in
    let i = c.args.i in
    let a = c.set_entry.ensures.world w h in
    let s = c.set_entry.ensures.sound (with_entry w n i) a in
    let room = room_kept n i w (with_entry w n i)
    (entry_as n i w (g.met.P.Port.sound c.args.port.now w h).0 r c.requires.most c.requires.low) r in
    child_done n i c.requires.most c.requires.low w s room (g.P.Port.stands c.set_entry.new.port)
    (g.P.Port.stands c.build.new.port) a c.in-Ok.built
    (subst (λ xs. Builds (g.P.Port.stands c.set_entry.new.port) (g.P.Port.stands c.build.new.port) 0 xs child_wants
    c.in-Ok.built) c.pool_of.ensures c.in-Ok.ensures.build)
