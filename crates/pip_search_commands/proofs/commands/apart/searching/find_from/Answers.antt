use Rattle.std.proofs.Common.{sym, subst}
use Rattle.pip_apart.proofs.Telling.{if_one}
use Rattle.pip_model.specs.Booted.{IsBooted}
use Rattle.pip_model.specs.Worlds.{boot_world_with}
use Rattle.pip_search_commands.proofs.commands.apart.searching.find_from.Goals as goal

pub find_out-requires-clause-stands : goal.find_out-requires-clause-stands
find_out-requires-clause-stands g c =
    let b = c.requires.booted in (
      _,
      c.pass.ensures.stands _ (c.new-machine.ensures.stands b.frames b.words
          (rw c.in_ok-journal.ensures b.booted)),
    )

pub returns-clause-known : goal.returns-clause-known
returns-clause-known g c =
    if_one c.find_out.result _ _ c.find_out.ensures.known (λ r known n words b.
    let w = boot_world_with words n c.args.cpus in
    rw c.new-machine.ensures.count at (known _ (c.pass.ensures.stands w
    (c.new-machine.ensures.stands n words (subst (IsBooted n words) (sym c.in_ok-journal.ensures) b)))))
