-- The words of a key are those of each world that has it.
use Rattle.std.proofs.Common.{refl}
use Rattle.pip_every.proofs.Keying.{can_read, has_read, moved_to}
use Rattle.pip_apart.proofs.guest.Guest.go_to.Goals as goal

pub read_processors-cpus-requires-clause-begins : goal.read_processors-cpus-requires-clause-begins
read_processors-cpus-requires-clause-begins g c = can_read c.args.self.now.shape c.requires.1 c.cpus.ensures

pub rewind-requires : goal.rewind-requires
rewind-requires g c =
    let h = has_read c.args.self.now.shape c.requires.1 c.cpus.ensures c.read_processors-cpus.ensures in
    assumption

pub invariant_of-self : goal.invariant_of-self
invariant_of-self g c =
    let s = c.args.self.now in
    let h = has_read s.shape c.requires.1 c.cpus.ensures c.read_processors-cpus.ensures in
    record {
      shape = s.shape;
      there = λ k d l. rw (c.rewind.ensures.cpus, h.count) (s.there k d l);
      few = s.few;
    }

pub returns-clause-at : goal.returns-clause-at
returns-clause-at g c w k =
    let s = c.args.self.now in
    moved_to s.shape k c.cpus.ensures c.read_processors-cpus.ensures s.machine c.rewind.new.self refl
    c.rewind.ensures.memory c.rewind.ensures.cpus c.rewind.ensures.caches

pub returns-clause-count : goal.returns-clause-count
returns-clause-count g c =
    let h = has_read c.args.self.now.shape c.requires.1 c.cpus.ensures c.read_processors-cpus.ensures in
    rw (c.rewind.ensures.cpus, h.count)
