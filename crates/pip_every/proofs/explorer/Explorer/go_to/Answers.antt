-- The words of a key are those of each moment that has it.
use Rattle.std.proofs.Common.{refl}
use Rattle.pip_every.specs.Choosing.{machine_scope}
use Rattle.pip_every.proofs.Keying.{can_read, changed_words, has_read, moved_to, parts}
use Rattle.pip_every.proofs.explorer.Explorer.go_to.Goals as goal

pub read_processors-cpus-requires-clause-begins : goal.read_processors-cpus-requires-clause-begins
read_processors-cpus-requires-clause-begins g c = can_read c.args.self.now.shape c.requires.1 c.cpus.ensures

pub rewind-requires : goal.rewind-requires
rewind-requires g c =
    let h = has_read c.args.self.now.shape c.requires.1 c.cpus.ensures c.read_processors-cpus.ensures in
    assumption

pub returns-clause-at : goal.returns-clause-at
returns-clause-at g c m k =
    let s = c.args.self.now in (
      moved_to s.shape k c.cpus.ensures c.read_processors-cpus.ensures s.machine c.rewind.new.self refl
          c.rewind.ensures.memory c.rewind.ensures.cpus c.rewind.ensures.caches,
      (parts g.F.First.words (machine_scope s.machine s.lines.items s.from) c.args.key.now m s.shape k).turns,
    )

pub returns-clause-count : goal.returns-clause-count
returns-clause-count g c =
    let h = has_read c.args.self.now.shape c.requires.1 c.cpus.ensures c.read_processors-cpus.ensures in
    rw (c.rewind.ensures.cpus, h.count)

pub returns-clause-changed : goal.returns-clause-changed
returns-clause-changed g c =
    changed_words c.args.self.now.shape c.requires.1 c.cpus.ensures c.read_processors-cpus.ensures
