use Rattle.pip_native.proofs.Watched.{decided, decided_takes, monitor_decided, root_some}
use Rattle.pip_native.proofs.watching.watch_once.Goals as goal

pub decide-decision-requires-clause-runs : goal.decide-decision-requires-clause-runs
decide-decision-requires-clause-runs g c = λ w h. root_some w c.args.here c.if-here.true (c.requires.here w h)

pub returns-then-here-clause-acts : goal.returns-then-here-clause-acts
returns-then-here-clause-acts g c = λ w h. decided (g.P.Port.stands c.decide-decision.new.port) _ _ w c.args.monitor.now
    c.args.t c.args.here (c.requires.here w h) c.write_decision.result c.decide-decision.result c.if-here.true
    (c.decide-decision.ensures.decision w h) (c.decide-decision.ensures.acts w h) c.write_decision.ensures.wrote

pub returns-then-here-clause-monitor : goal.returns-then-here-clause-monitor
returns-then-here-clause-monitor g c = λ w h. monitor_decided w c.args.monitor.now c.args.here (c.requires.here w h)
    c.decide-decision.new.monitor c.if-here.true (c.decide-decision.ensures.monitor w h)

pub returns-then-here-clause-work : goal.returns-then-here-clause-work
returns-then-here-clause-work g c = decided_takes _ c.args.monitor.now c.args.t c.args.here c.requires.here _ _
    c.if-here.true c.decide-decision.ensures.work
