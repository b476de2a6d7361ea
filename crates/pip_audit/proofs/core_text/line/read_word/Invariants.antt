use Rattle.std.proofs.Common.{◌≡◌, ◌+◌, ◌*◌, ◌<◌, ◌≤◌, ◌^◌, drop}
use Rattle.pip_model.specs.Grammar.{hex_from}
use Rattle.pip_audit.proofs.Digits.{told_on}
use Rattle.pip_audit.proofs.core_text.line.read_word.Given as goal

abbrev pub invariant-loop-k : goal.invariant-loop-k
invariant-loop-k l = record {
  number : told_on l.word (drop l.k l.digits) ≡ hex_from 0 l.digits;
  small : l.word < 2 ^ 32 → l.word < 16 ^ l.k;
  room : l.word + 2 ^ 29 ≤ 2 ^ 29 * 16 ^ l.k;
}
