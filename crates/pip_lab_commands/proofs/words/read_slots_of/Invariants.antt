use Rattle.std.proofs.Common.{◌≡◌, drop, length, map}
use Rattle.std.specs.Prelude.{string_bytes}
use Rattle.pip_lab_commands.specs.Words.{slots_in}
use Rattle.pip_lab_commands.proofs.RoundWords.{onto}
use Rattle.pip_lab_commands.proofs.words.read_slots_of.Given as goal

-- with the slots of the words that are left they are all
abbrev pub invariant-loop-word : goal.invariant-loop-word
invariant-loop-word l = record {
  len : length l.round.items ≡ l.word-index;
  read : onto l.round.items (slots_in l.children (map string_bytes (drop l.word-index l.words)))
      ≡ slots_in l.children (map string_bytes l.words);
}
