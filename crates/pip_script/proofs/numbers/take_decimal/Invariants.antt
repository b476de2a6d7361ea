use Rattle.std.proofs.Common.{◌≡◌, ◌<◌, ◌^◌, length}
use Rattle.pip_model.specs.Grammar.{decimal_from}
use Rattle.pip_script.specs.Words.{after_word, first_word}
use Rattle.pip_script.proofs.numbers.take_decimal.Given as goal

abbrev pub invariant-loop-rest : goal.invariant-loop-rest
invariant-loop-rest l = record {
  number : decimal_from l.value (first_word l.rest) ≡ decimal_from 0 (first_word l.text);
  after : after_word l.rest ≡ after_word l.text;
  small : l.value < 2 ^ 32;
}

abbrev pub decreases-loop-rest : goal.decreases-loop-rest
decreases-loop-rest l = length l.rest
