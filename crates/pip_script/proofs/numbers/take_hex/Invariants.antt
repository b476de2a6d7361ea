use Rattle.std.proofs.Common.{◌≡◌, ◌+◌, ◌<◌, ◌≤◌, ◌^◌, length}
use Rattle.pip_model.specs.Grammar.{hex_from}
use Rattle.pip_script.specs.Words.{after_word, first_word}
use Rattle.pip_script.proofs.numbers.take_hex.Given as goal

abbrev pub invariant-loop-rest : goal.invariant-loop-rest
invariant-loop-rest l = record {
  number : hex_from l.value (first_word l.rest) ≡ hex_from 0 (first_word l.text);
  after : after_word l.rest ≡ after_word l.text;
  count : l.count + length (first_word l.rest) ≡ length (first_word l.text);
  few : l.count ≤ 8;
  small : l.value < 16 ^ l.count;
}

abbrev pub decreases-loop-rest : goal.decreases-loop-rest
decreases-loop-rest l = length l.rest
