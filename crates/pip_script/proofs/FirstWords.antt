-- Words with which no form begins, told by their length and their letters.
use Rattle.std.proofs.Common.{◌≡◌, ℕ, ◌+◌, ◌⊎◌, inl, inr, Bool, true, false, cond, List, [], ◌∷◌, length, drop}
use Rattle.std.proofs.Common.{slice_index_or, Option, None, refl, sym, ap, ◌∙◌, subst, arith}
use Rattle.std.specs.Prelude.{codes}
use Rattle.std.specs.Str.{bytes_eq}
use Rattle.std.proofs.lemmas.Slice.Eq.{bytes_eq-Decides}
use Rattle.std.proofs.lemmas.Grind.{common_steps}
use Rattle.std.proofs.Math.Seq.{drop-drop}
use Rattle.pip_model.specs.declared.script.ScriptLine.{ScriptLine}
use Rattle.pip_model.specs.Grammar.{form}

-- these letters stand in a word from place i on
abbrev pub Letters : List ℕ → ℕ → List ℕ → Type 0
Letters w i [] = Unit {0}
Letters w i (x ∷ xs) = (slice_index_or w i 0 ≡ x) × Letters w (i + 1) xs

-- a word has the length and the letters of another
abbrev pub IsSpelled : List ℕ → List ℕ → Type 0
IsSpelled w v = (length w ≡ length v) × Letters w 0 v

-- a word is spelled as one of these
abbrev pub IsOneOf : List ℕ → List (List ℕ) → Type 0
IsOneOf w [] = ⊥
IsOneOf w (v ∷ vs) = IsSpelled w v ⊎ IsOneOf w vs

-- the first words of forms
abbrev pub first_words : List (List ℕ)
first_words =
    codes "boot" ∷ codes "ld" ∷ codes "lb" ∷ codes "st" ∷ codes "sb" ∷ codes "fetch" ∷ codes "trap" ∷ codes "call"
    ∷ codes "raise" ∷ codes "poll" ∷ codes "peek" ∷ codes "reg" ∷ codes "pc" ∷ []

first_letter : (w : List ℕ) (i x : ℕ) (xs : List ℕ) → drop i w ≡ x ∷ xs → slice_index_or w i 0 ≡ x
first_letter w i x xs e = grind (arith, common_steps)

further_letters : (w : List ℕ) (i x : ℕ) (xs : List ℕ) → drop i w ≡ x ∷ xs → drop (i + 1) w ≡ xs
further_letters w i x xs e = sym (drop-drop 1 i w) ∙ ap (drop 1) e

letters : (w : List ℕ) (i : ℕ) (v : List ℕ) → drop i w ≡ v → Letters w i v
letters w i [] e = tt
letters w i (x ∷ xs) e = (first_letter w i x xs e, letters w (i + 1) xs (further_letters w i x xs e))

-- a word is spelled as none of these
pub record DiffersFrom (w : List ℕ) (vs : List (List ℕ)) : Type 0 where
  pub differs : IsOneOf w vs → ⊥

-- so it is not the first of them, and the further ones decide
passed : (w v : List ℕ) (vs : List (List ℕ)) (x y : Option ScriptLine) → DiffersFrom w (v ∷ vs)
    → (DiffersFrom w vs → None ≡ y) → None ≡ cond (bytes_eq w v) x y
passed w v vs x y n rest = go (bytes_eq w v) refl
  where
    go : (b : Bool) → bytes_eq w v ≡ b → None ≡ cond b x y
    go true t = absurd (n.differs (inl (subst (IsSpelled w) ((bytes_eq-Decides w v).0 t) (refl, letters w 0 w refl))))
    go false t = rest (record { differs = λ s. n.differs (inr s) })

-- no line begins with such a word
pub no_form : (cpus : ℕ) (w ns : List ℕ) → DiffersFrom w first_words → None ≡ form cpus w ns
no_form cpus w ns n =
    passed w (codes "boot") _ _ _ n (λ n.
    passed w (codes "ld") _ _ _ n (λ n.
    passed w (codes "lb") _ _ _ n (λ n.
    passed w (codes "st") _ _ _ n (λ n.
    passed w (codes "sb") _ _ _ n (λ n.
    passed w (codes "fetch") _ _ _ n (λ n.
    passed w (codes "trap") _ _ _ n (λ n.
    passed w (codes "call") _ _ _ n (λ n.
    passed w (codes "raise") _ _ _ n (λ n.
    passed w (codes "poll") _ _ _ n (λ n.
    passed w (codes "peek") _ _ _ n (λ n.
    passed w (codes "reg") _ _ _ n (λ n.
    passed w (codes "pc") _ _ _ n (λ n. refl)))))))))))))
