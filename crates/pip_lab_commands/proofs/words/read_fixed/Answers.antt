use Rattle.std.proofs.Common.{◌≡◌, ◌≢◌, ℕ, None, List, [], ◌∷◌, length, map, refl, arith}
use Rattle.pip_lab_commands.specs.Words.{fixed_command}
use Rattle.pip_lab_commands.proofs.words.read_fixed.Goals as goal
use Rattle.pip_lab_commands.proofs.words.read_fixed.Goals.{else-words-lt1+else-words-lt2, then-words-lt1}
use Rattle.pip_lab_commands.proofs.words.read_fixed.Goals.{then-words-lt2-2}
use Rattle.pip_lab_commands.proofs.words.read_fixed.Goals.{else-words-lt2-2+else-words-lt3, then-words-lt3-2}
use Rattle.pip_lab_commands.proofs.words.read_fixed.Goals.{else-words-lt3-2+else-words-lt4, then-words-lt4-2}
use Rattle.pip_lab_commands.proofs.words.read_fixed.Goals.{else-words-lt4-2+else-words-lt5}

-- each form has one word to four
no_command : {A : Type 0} (f : A → List ℕ) (words : List A) → length words ≢ 1 → length words ≢ 2 → length words ≢ 3
    → length words ≢ 4 → None ≡ fixed_command (map f words)
no_command f [] one two three four = refl
no_command f (a ∷ []) one two three four = absurd (one (omega arith))
no_command f (a ∷ b ∷ []) one two three four = absurd (two (omega arith))
no_command f (a ∷ b ∷ c ∷ []) one two three four = absurd (three (omega arith))
no_command f (a ∷ b ∷ c ∷ d ∷ []) one two three four = absurd (four (omega arith))
no_command f (a ∷ b ∷ c ∷ d ∷ e ∷ words) one two three four = refl

pub returns : goal.returns
returns c = no_command _ c.args.words.now one two three four
  where
    one : length c.args.words.now ≢ 1
    one = elim c.if-words-lt1.branch [
      | then-words-lt1 w ↦ grind (arith, w)
      | else-words-lt1+else-words-lt2 w ↦ grind (arith, w)
    ]

    two : length c.args.words.now ≢ 2
    two = elim c.if-words-lt2-2.branch [
      | then-words-lt2-2 w ↦ grind (arith, w)
      | else-words-lt2-2+else-words-lt3 w ↦ grind (arith, w)
    ]

    three : length c.args.words.now ≢ 3
    three = elim c.if-words-lt3-2.branch [
      | then-words-lt3-2 w ↦ grind (arith, w)
      | else-words-lt3-2+else-words-lt4 w ↦ grind (arith, w)
    ]

    four : length c.args.words.now ≢ 4
    four = elim c.if-words-lt4-2.branch [
      | then-words-lt4-2 w ↦ grind (arith, w)
      | else-words-lt4-2+else-words-lt5 w ↦ grind (arith, w)
    ]
