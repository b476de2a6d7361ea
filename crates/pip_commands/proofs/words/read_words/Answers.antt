use Rattle.std.proofs.Common.{◌≡◌, ℕ, ◌≤◌, None, List, [], ◌∷◌, length, map, refl, arith}
use Rattle.pip_commands.specs.Words.{command_of}
use Rattle.pip_commands.proofs.words.read_words.Goals as goal

-- no form has more than three words
no_command : {A : Type 0} (f : A → List ℕ) (words : List A) → 4 ≤ length words → None ≡ command_of (map f words)
no_command f [] many = absurd (let z : ⊥ = omega arith in z)
no_command f (a ∷ []) many = absurd (let z : ⊥ = omega arith in z)
no_command f (a ∷ b ∷ []) many = absurd (let z : ⊥ = omega arith in z)
no_command f (a ∷ b ∷ c ∷ []) many = absurd (let z : ⊥ = omega arith in z)
no_command f (a ∷ b ∷ c ∷ d ∷ words) many = refl

pub returns-in_default-2 : goal.returns-in_default-2
returns-in_default-2 c = no_command _ c.args.words.now c.in_default.len_at_least
