use Rattle.std.proofs.Common.{◌∙◌, sym}
use Rattle.pip_lines.proofs.Progress.{has_cpus}
use Rattle.pip_lines.proofs.run.run_lines.Goals as goal

pub new-requires-clause-some : goal.new-requires-clause-some
new-requires-clause-some g c = has_cpus _ _ (g.met.P.Port.world c.args.port.now)
    (λ w s. let k = g.met.P.Port.sound c.args.port.now w s in (k.0, k.1 ∙ sym c.cpus-cpus.ensures))
