use Rattle.pip_script.proofs.Processors.{no_boot}
use Rattle.pip_script.proofs.answers.answer.Goals as goal

pub never-assert_unchecked-requires-in-Boot : goal.never-assert_unchecked-requires-in-Boot
never-assert_unchecked-requires-in-Boot g c =
    absurd (no_boot (g.P.Port.stands c.args.port.now) (g.P.Port.count c.args.port.now)
    (g.met.P.Port.world c.args.port.now) (g.met.P.Port.sound c.args.port.now) c.args.line c.in-Boot.n c.in-Boot.c
    c.in-Boot.is c.requires)
