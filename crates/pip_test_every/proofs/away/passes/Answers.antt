use Rattle.pip_model.specs.Worlds.{boot_world_with}
use Rattle.pip_test_every.proofs.away.passes.Goals as goal

pub looks_away-requires-clause-stands : goal.looks_away-requires-clause-stands
looks_away-requires-clause-stands g c =
    let b = c.in_ok-mem.ensures.booted in
    (boot_world_with b.words b.frames 1, c.new-machine.ensures.stands b.frames b.words b.booted)
