-- A line's numbers, read word by word after its first word.
use Rattle.std.proofs.Common.{◌≡◌, ℕ, ◌≤◌, ◌<◌, true, false, cond, List, [], ◌∷◌, ◌++◌, length, Option, Some, None}
use Rattle.std.proofs.Common.{refl, sym, ap, ◌∙◌, append_assoc, arith}
use Rattle.std.specs.Prelude.{codes, option_and_then}
use Rattle.std.specs.Str.{bytes_eq}
use Rattle.std.proofs.lemmas.List.{append-nil}
use Rattle.std.proofs.lemmas.Grind.{common_steps}
use Rattle.std.proofs.lemmas.Bool.Decides.{nat_tests}
use Rattle.pip_model.specs.declared.script.ScriptLine.{ScriptLine}
use Rattle.std.proofs.lemmas.Bool.{cond-true, le-leb}
use Rattle.pip_model.specs.Grammar.{form, call_form, line_meaning, number_of, cons_number, numbers_of, phrase, words_of}
use Rattle.pip_script.specs.Phrases.{HasWords}

-- whichever word it is, nothing comes of either
passed : (w v : List ℕ) {x y : Option ScriptLine} → x ≡ None → y ≡ None → cond (bytes_eq w v) x y ≡ None
passed w v {x} {y} e f = elim (bytes_eq w v) as (λ b. cond b x y ≡ None) [ true ↦ e | false ↦ f ]

call_of_many : (cpus p number : ℕ) (args : List ℕ) → 5 < length args → call_form cpus (p ∷ number ∷ args) ≡ None
call_of_many cpus p number args h = grind (arith, nat_tests)

-- no form has more than seven numbers
form_of_many : (cpus : ℕ) (w ns : List ℕ) → 7 < length ns → form cpus w ns ≡ None
form_of_many cpus w [] h = absurd (omega arith)
form_of_many cpus w (a ∷ []) h = absurd (omega arith)
form_of_many cpus w (a ∷ b ∷ []) h = absurd (omega arith)
form_of_many cpus w (a ∷ b ∷ c ∷ []) h = absurd (omega arith)
form_of_many cpus w (a ∷ b ∷ c ∷ d ∷ []) h = absurd (omega arith)
form_of_many cpus w (a ∷ b ∷ c ∷ d ∷ e ∷ ns) h =
    let call = call_of_many cpus a b (c ∷ d ∷ e ∷ ns) (omega arith) in
    passed w (codes "boot") refl (
    passed w (codes "ld") refl (
    passed w (codes "lb") refl (
    passed w (codes "st") refl (
    passed w (codes "sb") refl (
    passed w (codes "fetch") refl (
    passed w (codes "trap") refl (
    passed w (codes "call") call (
    passed w (codes "raise") refl (
    passed w (codes "poll") refl (
    passed w (codes "peek") refl (
    passed w (codes "reg") refl (
    passed w (codes "pc") refl refl))))))))))))

-- these numbers and those of the words left make the form that all the words make
pub record Reads (cpus : ℕ) (name ns : List ℕ) (left all : List (List ℕ)) : Type 0 where
  pub same : option_and_then (λ ms. form cpus name (ns ++ ms)) (numbers_of left) ≡ phrase cpus all

pub reads_first : (cpus : ℕ) {name ns : List ℕ} {left all : List (List ℕ)} → ns ≡ [] → all ≡ name ∷ left
    → Reads cpus name ns left all
reads_first cpus {name} {left = left} e w = record {
  same =
      ap (λ ns. option_and_then (λ ms. form cpus name (ns ++ ms)) (numbers_of left)) e ∙ ap (phrase cpus) (sym w);
}

module _ {cpus : ℕ} {name ns : List ℕ} {left all : List (List ℕ)} (r : Reads cpus name ns left all) where
  -- a word is left, and then further ones
  module _ {w : List ℕ} {ws : List (List ℕ)} (first : left ≡ w ∷ ws) where
    taken : (o : Option ℕ) → o ≡ number_of w
        → option_and_then (λ ms. form cpus name (ns ++ ms)) (cons_number o (numbers_of ws)) ≡ phrase cpus all
    taken o e = ap (λ o. option_and_then (λ ms. form cpus name (ns ++ ms)) (cons_number o (numbers_of ws))) e
        ∙ ap (λ us. option_and_then (λ ms. form cpus name (ns ++ ms)) (numbers_of us)) (sym first) ∙ r.same

    pub reads_no_number : None ≡ number_of w → None ≡ phrase cpus all
    reads_no_number e = taken None e

    pub reads_further : (n : ℕ) → Some n ≡ number_of w → Reads cpus name (ns ++ n ∷ []) ws all
    reads_further n e = record { same = go (numbers_of ws) (taken (Some n) e) }
      where
        go : (o : Option (List ℕ)) → option_and_then (λ ms. form cpus name (ns ++ ms)) (cons_number (Some n) o)
            ≡ phrase cpus all → option_and_then (λ ms. form cpus name ((ns ++ n ∷ []) ++ ms)) o ≡ phrase cpus all
        go None h = h
        go (Some ms) h = ap (form cpus name) (append_assoc ns (n ∷ []) ms) ∙ h

    pub reads_too_many : (n : ℕ) → Some n ≡ number_of w → 7 ≤ length ns → None ≡ phrase cpus all
    reads_too_many n e h = go (numbers_of ws) (reads_further n e).same
      where
        longer : (ms : List ℕ) → 7 < length ((ns ++ n ∷ []) ++ ms)
        longer ms = grind (arith, common_steps)

        go : (o : Option (List ℕ)) → option_and_then (λ ms. form cpus name ((ns ++ n ∷ []) ++ ms)) o ≡ phrase cpus all
            → None ≡ phrase cpus all
        go None k = k
        go (Some ms) k = sym (form_of_many cpus name ((ns ++ n ∷ []) ++ ms) (longer ms)) ∙ k

-- a line that isn't blank, and not too long, says what its words say
pub means : (line : List ℕ) → HasWords line → length line ≤ 120 → (cpus : ℕ)
    → phrase cpus (words_of line) ≡ line_meaning cpus line
means line words short cpus = sym (words cpus short) ∙ sym (cond-true _ _ _ (le-leb (length line) 120 short))
