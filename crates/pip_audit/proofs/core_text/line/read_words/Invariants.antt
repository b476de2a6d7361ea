use Rattle.std.proofs.Common.{◌≡◌, ◌-◌, ◌++◌, length, take}
use Rattle.std.specs.Prelude.{option_map}
use Rattle.pip_audit.specs.Lines.{words_ahead}
use Rattle.pip_audit.proofs.core_text.line.read_words.Given as goal

abbrev pub invariant-loop-k : goal.invariant-loop-k
invariant-loop-k l = record {
  size : length l.words ≡ 8;
  so_far : words_ahead 8 l.text ≡ option_map (λ vs. take l.k l.words ++ vs) (words_ahead (8 - l.k) l.rest);
}
