use Rattle.std.proofs.Common.{◌∙◌, refl, arith, Some, None}
use Rattle.pip_model.specs.Midway.{here}
use Rattle.pip_model.proofs.Trees.Lookup.{found_name}
use Rattle.pip_kern.proofs.UserBits.{setting_chain, setting_end, setting_full, setting_on, setting_parent}
use Rattle.pip_kern.proofs.UserBits.{setting_row, setting_start}
use Rattle.pip_kern.proofs.hiding.set_user_above.Goals as goal

pub loop-i-init : goal.loop-i-init
loop-i-init g c = record {
  count = refl;
  climb = λ t rows x r s k x_is r_is. setting_start t s rows c.args.caller r.frame c.args.user
      (g.M.Frames.memory c.args.mem.now) k x c.args.v r x_is r_is refl;
  steps = omega arith;
}

pub set_user_in-requires-clause-row : goal.set_user_in-requires-clause-row
set_user_in-requires-clause-row g c =
    let q = c.requires in
    setting_row q.tree q.rows c.args.caller q.row.frame c.args.user _ _ c.loop-i.at c.loop-i.place c.loop-i._i
    (c.loop-i.invariant.climb q.tree q.rows q.node q.row q.sound q.midway q.found q.at)

pub set_user_in-requires-clause-parent : goal.set_user_in-requires-clause-parent
set_user_in-requires-clause-parent g c =
    let q = c.requires in
    setting_parent q.tree q.sound q.rows c.args.caller q.row.frame c.args.user _ _ c.loop-i.at c.loop-i.place
    c.loop-i._i (c.loop-i.invariant.climb q.tree q.rows q.node q.row q.sound q.midway q.found q.at)

pub returns-in-None-clause-user : goal.returns-in-None-clause-user
returns-in-None-clause-user g c t rows x r s k x_is r_is =
    let h = c.loop-i.invariant.climb t rows x r s k x_is r_is in
    let set = c.in-None.ensures.user h.x (rows c.loop-i.at) h.r (h.todo c.loop-i.at h.x h.x_is here)
    (found_name t c.loop-i.at h.x h.x_is) h.r_is in
    setting_end t s rows c.args.caller r.frame c.args.user (g.M.Frames.memory c.args.mem.now) k
    (g.M.Frames.memory c.loop-i.mem) (g.M.Frames.memory c.set_user_in.new.mem) c.loop-i.at c.loop-i.place
    c.loop-i._i h None set set.above

pub returns-in-None-clause-chain : goal.returns-in-None-clause-chain
returns-in-None-clause-chain g c t rows x r s k x_is r_is =
    let h = c.loop-i.invariant.climb t rows x r s k x_is r_is in
    omega (
      arith,
      setting_chain t s rows c.args.caller r.frame c.args.user (g.M.Frames.memory c.args.mem.now)
          (g.M.Frames.memory c.loop-i.mem) c.loop-i.at c.loop-i.place c.loop-i._i h,
    )

pub loop-i-preserved : goal.loop-i-preserved
loop-i-preserved g c = record {
  count = c.set_user_in.ensures.count ∙ c.loop-i.invariant.count;
  climb = λ t rows x r s k x_is r_is.
      let h = c.loop-i.invariant.climb t rows x r s k x_is r_is in
      let set = c.in-Some.ensures.user h.x (rows c.loop-i.at) h.r (h.todo c.loop-i.at h.x h.x_is here)
      (found_name t c.loop-i.at h.x h.x_is) h.r_is in
      setting_on t s rows c.args.caller r.frame c.args.user (g.M.Frames.memory c.args.mem.now) k
      (g.M.Frames.memory c.loop-i.mem) (g.M.Frames.memory c.set_user_in.new.mem) c.loop-i.at c.loop-i.place
      c.loop-i._i h (Some c.in-Some.above) set
      c.in-Some.above.part c.in-Some.above.v set.above.0 set.above.1;
  steps = omega arith;
}

pub never-assert_unchecked-requires : goal.never-assert_unchecked-requires
never-assert_unchecked-requires g c =
    let q = c.requires in
    let low = c.loop-i-test.false in
    let high = c.loop-i.auto._i-end in
    let count = c.count-i-end.ensures in
    let frames = q.midway.count in
    absurd (setting_full q.tree q.sound q.rows c.args.caller q.row.frame c.args.user _ _ c.loop-i.at c.loop-i.place
    c.loop-i._i (c.loop-i.invariant.climb q.tree q.rows q.node q.row q.sound q.midway q.found q.at) (omega arith))
