use Rattle.std.proofs.Common.{◌≡◌, length}
use Rattle.pip_every.proofs.Words.{IsReading}
use Rattle.pip_every.proofs.processors.read_processors.Given as goal

-- the processors before this one were read
abbrev pub invariant-loop-i : goal.invariant-loop-i
invariant-loop-i l = record {
  read : IsReading l.words l.count l._i l.cpus.items l.rest;
  count : length l.cpus.items ≡ l._i;
}
