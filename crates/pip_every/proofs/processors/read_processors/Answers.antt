-- One processor more is read.
use Rattle.std.proofs.Common.{arith}
use Rattle.pip_every.proofs.Words.{read_next, splits}
use Rattle.pip_every.proofs.processors.read_processors.Goals as goal

pub read_running-runs-requires : goal.read_running-runs-requires
read_running-runs-requires c =
    let b = c.requires.begins.1 in
    let at = c.loop-i.invariant.read c.requires.begins.0 b.0 b.1 in
    let s = splits c.loop-i.rest.now c.args.count c.loop-i._i at.0 b.0 c.loop-i-test.true at.1.1 in
    (s.first, (_, s.begins))

pub loop-i-preserved : goal.loop-i-preserved
loop-i-preserved c = record {
  read = read_next c.args.words.now c.args.count c.loop-i._i c.loop-i.cpus.items c.push.new.self.items
      c.read_running-runs.result.0 c.loop-i.rest.now c.read_running-runs.result.1.now c.loop-i-test.true
      c.push.ensures.items c.read_running-runs.ensures c.loop-i.invariant.read;
  count = omega arith;
}
