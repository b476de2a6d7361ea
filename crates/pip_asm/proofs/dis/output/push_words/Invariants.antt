use Rattle.std.proofs.Common.{◌≡◌, ◌≤◌, ◌+◌, ◌*◌, ◌++◌, length, map, take}
use Rattle.pip_io.specs.Texts.{text_bytes}
use Rattle.pip_model.specs.DisText.{text_of_lines}
use Rattle.pip_model.specs.InstrText.{word_said}
use Rattle.pip_asm.proofs.dis.output.push_words.Given as goal

abbrev pub invariant-loop-word : goal.invariant-loop-word
invariant-loop-word l = record {
  done : text_bytes l.text ≡ text_bytes l.fn.text ++ text_of_lines (map word_said (take l.word-index l.words));
  short : length (text_bytes l.text) ≤ length (text_bytes l.fn.text) + 25 * l.word-index;
}
