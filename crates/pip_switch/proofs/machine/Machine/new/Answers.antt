use Rattle.std.proofs.Common.{sym, ◌∙◌}
use Rattle.pip_model.specs.Worlds.{boot_world_with}
use Rattle.pip_switch.specs.Standing.{HasCachedWorld}
use Rattle.pip_switch.proofs.Standing.{boot_stands_with}
use Rattle.pip_switch.proofs.machine.Machine.new.Goals as goal

pub invariant_of-result : goal.invariant_of-result
invariant_of-result g c =
    let k = c.requires.booted in
    let there : HasCachedWorld (g.M.Frames.memory c.args.mem) c.boot_processors-cpus.result.items
    c.new_caches-caches.result.items =
    record {
      world = boot_world_with k.words k.frames c.args.cpus;
      stands = boot_stands_with _ _ _ c.args.cpus
          c.requires.least c.requires.most c.boot_processors-cpus.ensures.cpus c.new_caches-caches.ensures.caches
          (c.new_caches-caches.ensures.count ∙ sym c.boot_processors-cpus.ensures.count) k.frames k.words k.booted;
    } in
    (∣ there ∣₁, tt)

pub invariant_of-result-2 : goal.invariant_of-result-2
invariant_of-result-2 g c = let k = c.requires.booted in
    record {
      world = boot_world_with k.words k.frames c.args.cpus;
      stands = boot_stands_with _ _ _ c.args.cpus
          c.requires.least c.requires.most c.boot_processors-cpus.ensures.cpus c.new_caches-caches.ensures.caches
          (c.new_caches-caches.ensures.count ∙ sym c.boot_processors-cpus.ensures.count) k.frames k.words k.booted;
    }

pub returns-clause-stands : goal.returns-clause-stands
returns-clause-stands g c n words k = boot_stands_with _ _ _ c.args.cpus c.requires.least c.requires.most
    c.boot_processors-cpus.ensures.cpus c.new_caches-caches.ensures.caches
    (c.new_caches-caches.ensures.count ∙ sym c.boot_processors-cpus.ensures.count) n words k
