use Rattle.std.proofs.Common.{arith, length}
use Rattle.pip_model.specs.Worlds.{runs_on}
use Rattle.pip_apart.specs.Tops.{names_root}
use Rattle.pip_apart.proofs.Entries.{first_here}
use Rattle.pip_apart.proofs.OnMachines.{as_many}
use Rattle.pip_apart.proofs.guests.root_on.Goals as goal

pub returns-then-runs_root : goal.returns-then-runs_root
returns-then-runs_root g c w s =
    first_here (λ cpu. names_root w.tree (runs_on w cpu)) (length w.cpus) c.loop-cpu.cpu c.runs_root.result
    (c.loop-cpu.invariant w s)
    (c.runs_root.ensures w s) c.if-runs_root.true
    (omega (arith, c.loop-cpu-test.true, c.cpus-cpu-end.ensures, as_many c.args.machine.now w s))
