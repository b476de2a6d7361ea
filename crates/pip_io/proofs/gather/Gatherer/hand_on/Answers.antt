use Rattle.std.proofs.Common.{rules, ◌≡◌, length, arith}
use Rattle.std.proofs.lemmas.Result.{on_err_weaker}
use Rattle.pip_io.proofs.Gathered.{between_joined, between_some}
use Rattle.pip_io.proofs.Taken.{over_moved}
use Rattle.pip_io.proofs.gather.Gatherer.hand_on.Goals as goal

pub returns-clause-kept : goal.returns-clause-kept
returns-clause-kept g c =
    let self = c.args.self.now in
    let call = c.write_between-place in
    over_moved _ _ _ _ _ call.ensures.bytes
    (between_joined self.bytes self.start call.result.0 self.end call.ensures.least call.ensures.most)

pub returns-clause-some : goal.returns-clause-some
returns-clause-some g c =
    let self = c.args.self.now in
    let size : length self.bytes ≡ 16384 = search rules in
    let few = self.fits in
    on_err_weaker c.write_between-place.result.1 (between_some self.bytes c.write_between-place.result.0 self.end
    (omega arith)) c.write_between-place.ensures.some
