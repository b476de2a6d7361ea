use Rattle.std.proofs.Common.{arith, subst, ◌∙◌, ◌≡◌, ◌<◌, length}
use Rattle.pip_kern.proofs.RootAlone.{AreZero, all_zero, zero_more}
use Rattle.pip_kern.proofs.root.zero_all.Goals as goal

pub loop-f-preserved : goal.loop-f-preserved
loop-f-preserved g c =
    let count = c.loop-f.invariant.count in
    let end = c.loop-f.invariant.end in
    let test = c.loop-f-test.true in
    let inside : c.loop-f.f < length (g.M.Frames.memory c.loop-f.mem) = grind arith in
    record {
      count = cc (c.zero.ensures.count);
      end = end;
      zero = zero_more (g.M.Frames.memory c.loop-f.mem) (g.M.Frames.memory c.zero.new.self) c.loop-f.f c.new.result
          c.new.ensures inside c.zero.ensures.words c.loop-f.invariant.zero;
    }

pub returns-clause-words : goal.returns-clause-words
returns-clause-words g c =
    let m = g.M.Frames.memory c.loop-f.mem in
    let end = c.loop-f.invariant.end in
    let all : c.loop-f.f ≡ length (g.M.Frames.memory c.args.mem.now) = grind arith in
    all_zero m (length (g.M.Frames.memory c.args.mem.now)) c.loop-f.invariant.count
    (rw (← all) c.loop-f.invariant.zero)
