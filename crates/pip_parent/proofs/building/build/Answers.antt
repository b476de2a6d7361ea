use Rattle.std.proofs.Common.{arith, ◌≡◌, ◌≤◌, ◌+◌, length, false, refl, ap, ◌∙◌, subst, suc}
use Rattle.pip_parent.specs.Wants.{need, pages_used}
use Rattle.pip_parent.specs.Built.{lacks_right}
use Rattle.pip_parent.specs.Stages.{world_before}
use Rattle.pip_parent.proofs.Whole.{builder, created_world, not_said, said, undone_after, up_to}
use Rattle.pip_parent.proofs.Working.{met_on, more_events}
use Rattle.pip_parent.proofs.building.build.Goals as goal

pub loop-i-init : goal.loop-i-init
loop-i-init g c =
    let room : need c.args.wants.now ≤ length c.args.pool.now = omega arith in
    record {
      taken = c.first-taken.ensures c.args.wants.now;
      built = λ w r b a. created_world (g.P.Port.stands c.args.port.now) (g.P.Port.stands c.create.new.port) w
          c.args.cpu r c.args.pool.now c.args.wants.now b room c.create.ensures.called a;
      rights = λ w r b a j l. absurd (let z : ⊥ = omega arith in z);
      work = c.create.ensures.work;
      count = c.create.ensures.count;
    }

pub returns-then-not-meet-clause-build : goal.returns-then-not-meet-clause-build
returns-then-not-meet-clause-build g c =
    let room : need c.args.wants.now ≤ length c.args.pool.now = omega arith in (
      c.in_default.ensures,
      room,
      c.loop-i-test.true,
      (λ w r can a.
          let b = builder (g.met.P.Port.sound c.args.port.now w a).0 can in
          let m = c.if-not-meet.ensures.met w r b (c.loop-i.invariant.built w r b a) in (
            not_said (lacks_right w.tree r.name c.args.pool.now c.args.wants.now c.loop-i.i) m.0,
            c.loop-i.invariant.rights w r b a,
            undone_after (g.P.Port.stands c.meet.new.port) (g.P.Port.stands c.delete.new.port) w c.args.cpu r
                c.args.pool.now c.args.wants.now b room c.loop-i.i c.delete.ensures.called m.1,
          )),
    )

pub loop-i-preserved : goal.loop-i-preserved
loop-i-preserved g c =
    let ws = c.args.wants.now in
    let i = c.loop-i.i in
    let e : suc i ≡ i + 1 = omega arith in
    record {
      taken = c.meet.ensures.taken;
      built = λ w r b a. subst (λ z. g.P.Port.stands c.meet.new.port (world_before w c.args.cpu r c.args.pool.now ws z))
          e (c.if-not-meet.ensures.met w r b (c.loop-i.invariant.built w r b a)).1;
      rights = λ w r b a j l. up_to (λ j. lacks_right w.tree r.name c.args.pool.now ws j ≡ false) i
          (c.loop-i.invariant.rights w r b a) (said (lacks_right w.tree r.name c.args.pool.now ws i)
          (c.if-not-meet.ensures.met w r b (c.loop-i.invariant.built w r b a)).0) j (omega arith);
      work = met_on _ _ _ c.args.cpu c.args.pool.now _ _ _ ws i c.loop-i.invariant.work c.meet.ensures.work;
      count = c.meet.ensures.count ∙ c.loop-i.invariant.count;
    }

pub returns-clause-build : goal.returns-clause-build
returns-clause-build g c =
    let room : need c.args.wants.now ≤ length c.args.pool.now = omega arith in
    let e : c.loop-i.i ≡ length c.args.wants.now = omega arith in (
      c.in_default.ensures,
      room,
      refl,
      c.loop-i.invariant.taken.pages ∙ ap (pages_used c.args.wants.now) e,
      (λ w r can a.
          let b = builder (g.met.P.Port.sound c.args.port.now w a).0 can in (
            (λ j l. c.loop-i.invariant.rights w r b a j (omega arith)),
            subst (λ z. g.P.Port.stands c.loop-i.port
                (world_before w c.args.cpu r c.args.pool.now c.args.wants.now z)) e (c.loop-i.invariant.built w r b a),
          )),
    )

pub returns-then-not-meet-clause-work : goal.returns-then-not-meet-clause-work
returns-then-not-meet-clause-work g c = more_events _ _ _ _ _ _ _ _
    (more_events _ _ _ _ _ _ _ _ c.loop-i.invariant.work c.meet.ensures.work) c.delete.ensures.work

pub returns-clause-work : goal.returns-clause-work
returns-clause-work g c =
    let e : length c.args.wants.now ≡ c.loop-i.i = omega arith in
    rw e c.loop-i.invariant.work
