use Rattle.std.proofs.Common.{◌<◌, arith, length, ap, ◌∙◌, None}
use Rattle.pip_model.specs.Audit.{frame_difference}
use Rattle.pip_audit.specs.Comparing.{wanted_word}
use Rattle.pip_audit.proofs.Differing.{covers_earlier, goes_earlier}
use Rattle.pip_audit.proofs.TreeIn.{zero_judged}
use Rattle.pip_audit.proofs.auditor.Auditor.judge_zero.Goals as goal

pub returns-clause-is : goal.returns-clause-is
returns-clause-is g c =
    let m = g.M.Frames.memory c.args.mem.now in
    let a = c.args.self.now in
    let least = (g.met.M.Frames.bounds c.args.mem.now).0 in
    let below : 0 < length m = omega (arith, least) in
    (goes_earlier m 0 below None c.difference_in.result (c.difference_in.ensures ∙ ap (frame_difference m
    (λ _ i. wanted_word m a None i)) c.new.ensures ∙ zero_judged m a c.requires.sound) (λ d q. cc)).is

pub returns-clause-covers : goal.returns-clause-covers
returns-clause-covers g c =
    let m = g.M.Frames.memory c.args.mem.now in
    let a = c.args.self.now in
    let least = (g.met.M.Frames.bounds c.args.mem.now).0 in
    let below : 0 < length m = omega (arith, least) in
    covers_earlier m 0 below None c.difference_in.result (c.difference_in.ensures
    ∙ ap (frame_difference m (λ _ i. wanted_word m a None i)) c.new.ensures ∙ zero_judged m a c.requires.sound)
