use Rattle.std.proofs.Common.{◌≡◌, ◌+◌, ◌*◌, ◌-◌, ◌≤◌, ◌++◌, get_or}
use Rattle.std.specs.Prelude.{codes, flat_map}
use Rattle.arrayvec.specs.ArrayString.{array_string_len}
use Rattle.pip_model.specs.Dump.{index_text, numbers_from}
use Rattle.pip_model.specs.Text.{word_digits}
use Rattle.pip_dump.proofs.frames.group_line.Given as goal

-- the words from here on are left
abbrev pub invariant-loop-i : goal.invariant-loop-i
invariant-loop-i l = record {
  high : l.i ≤ 8 * l.k + 8;
  room : array_string_len l.text + 9 * (8 * l.k + 8 - l.i) ≤ 77;
  rest : l.text.bytes ++ flat_map (λ j. codes " " ++ word_digits (get_or l.words j 0))
      (numbers_from l.i (8 * l.k + 8 - l.i)) ≡ index_text (8 * l.k) ++ codes ":"
      ++ flat_map (λ j. codes " " ++ word_digits (get_or l.words j 0)) (numbers_from (8 * l.k) 8);
}
