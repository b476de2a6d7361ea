use Rattle.std.proofs.Common.{◌≡◌, drop}
use Rattle.pip_asm.specs.Names.{hash_on}
use Rattle.pip_asm.proofs.names.mixed.Given as goal

-- the bytes that are left give the hash of all
abbrev pub invariant-loop-byte : goal.invariant-loop-byte
invariant-loop-byte l = hash_on l.hash (drop l.byte-index l.name) ≡ hash_on l.seed l.name
