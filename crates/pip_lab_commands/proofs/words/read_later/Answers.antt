use Rattle.std.proofs.Common.{◌≡◌, ◌≢◌, ℕ, None, List, [], ◌∷◌, length, map, refl, arith}
use Rattle.pip_lab_commands.specs.Words.{later_command}
use Rattle.pip_lab_commands.proofs.words.read_later.Goals as goal
use Rattle.pip_lab_commands.proofs.words.read_later.Goals.{else-words-lt5+else-words-lt6, then-words-lt5}
use Rattle.pip_lab_commands.proofs.words.read_later.Goals.{then-words-lt6-2}
use Rattle.pip_lab_commands.proofs.words.read_later.Goals.{else-words-lt6-2+else-words-lt7, then-words-lt7-2}
use Rattle.pip_lab_commands.proofs.words.read_later.Goals.{else-words-lt7-2+else-words-lt8}

-- a search after steps has five words to seven
no_command : {A : Type 0} (f : A → List ℕ) (words : List A) → length words ≢ 5 → length words ≢ 6 → length words ≢ 7
    → None ≡ later_command (map f words)
no_command f [] five six seven = refl
no_command f (a ∷ []) five six seven = refl
no_command f (a ∷ b ∷ []) five six seven = refl
no_command f (a ∷ b ∷ c ∷ []) five six seven = refl
no_command f (a ∷ b ∷ c ∷ d ∷ []) five six seven = refl
no_command f (a ∷ b ∷ c ∷ d ∷ e ∷ []) five six seven = absurd (five (omega arith))
no_command f (a ∷ b ∷ c ∷ d ∷ e ∷ g ∷ []) five six seven = absurd (six (omega arith))
no_command f (a ∷ b ∷ c ∷ d ∷ e ∷ g ∷ h ∷ []) five six seven = absurd (seven (omega arith))
no_command f (a ∷ b ∷ c ∷ d ∷ e ∷ g ∷ h ∷ i ∷ words) five six seven = refl

pub returns : goal.returns
returns c = no_command _ c.args.words.now five six seven
  where
    five : length c.args.words.now ≢ 5
    five = elim c.if-words-lt5.branch [
      | then-words-lt5 w ↦ grind (arith, w)
      | else-words-lt5+else-words-lt6 w ↦ grind (arith, w)
    ]

    six : length c.args.words.now ≢ 6
    six = elim c.if-words-lt6-2.branch [
      | then-words-lt6-2 w ↦ grind (arith, w)
      | else-words-lt6-2+else-words-lt7 w ↦ grind (arith, w)
    ]

    seven : length c.args.words.now ≢ 7
    seven = elim c.if-words-lt7-2.branch [
      | then-words-lt7-2 w ↦ grind (arith, w)
      | else-words-lt7-2+else-words-lt8 w ↦ grind (arith, w)
    ]
