-- The search begins at the first moment.
use Rattle.std.proofs.Common.{sym, subst}
use Rattle.pip_model.specs.Booted.{IsBooted}
use Rattle.pip_model.specs.Worlds.{boot_world_with}
use Rattle.pip_every.proofs.searching.search_from.Goals as goal

pub search_on-requires-clause-stands : goal.search_on-requires-clause-stands
search_on-requires-clause-stands g c =
    let b = c.requires.booted in (
      boot_world_with b.words b.frames c.args.cpus,
      c.new-machine.ensures.stands b.frames b.words (rw c.in_ok-journal.ensures b.booted),
    )

pub returns-clause-told : goal.returns-clause-told
returns-clause-told g c = λ n words b.
    let r = c.in_ok-search in
    let first = c.args.mem.block.frames in
    rw c.new-machine.ensures.count at (r.ensures.told (boot_world_with words n c.args.cpus) first
    (c.new-machine.ensures.stands n words (subst (λ v. IsBooted n words v) (sym c.in_ok-journal.ensures) b))
    b.laid.shape c.requires.count)

pub returns-clause-explains : goal.returns-clause-explains
returns-clause-explains g c = λ n words b.
    let r = c.in_ok-search in
    record {
      first = g.F.First.words;
      shape = c.requires.shape;
      count = sym c.requires.count;
      tells = rw c.new-machine.ensures.count at (r.ensures.explains (boot_world_with words n c.args.cpus)
          (c.new-machine.ensures.stands n words (subst (λ v. IsBooted n words v) (sym c.in_ok-journal.ensures) b)));
    }
