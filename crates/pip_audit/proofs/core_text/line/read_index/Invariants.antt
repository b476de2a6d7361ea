use Rattle.std.proofs.Common.{◌≡◌, ◌<◌, ◌^◌, length}
use Rattle.pip_model.specs.Grammar.{decimal_from}
use Rattle.pip_audit.proofs.core_text.line.read_index.Given as goal

abbrev pub invariant-loop-rest : goal.invariant-loop-rest
invariant-loop-rest l = record {
  number : decimal_from l.index l.rest ≡ decimal_from 0 l.digits;
  small : l.index < 2 ^ 32;
}

abbrev pub decreases-loop-rest : goal.decreases-loop-rest
decreases-loop-rest l = length l.rest
