-- Words that are read one after the other.
use Rattle.std.proofs.Common.{◌≡◌, ℕ, suc, ◌+◌, ◌-◌, ◌<◌, ◌≤◌, List, [], ◌∷◌, ◌++◌, length, take, drop, Option, Some}
use Rattle.std.proofs.Common.{None, refl, sym, ap, ◌∙◌, append-nil, append_assoc, arith}
use Rattle.std.specs.Prelude.{option_map, slice_set}
use Rattle.std.proofs.Math.Seq.{take-length}
use Rattle.std.proofs.lemmas.List.{take_more_set}
use Rattle.pip_model.specs.Grammar.{cons_number}
use Rattle.pip_audit.specs.Lines.{word_ahead, words_ahead}

-- words, and those after them
abbrev front : List ℕ → Option (List ℕ) → Option (List ℕ)
front ws o = option_map (λ vs. ws ++ vs) o

one_more : (ws : List ℕ) (w : ℕ) (o : Option (List ℕ)) → front ws (cons_number (Some w) o) ≡ front (ws ++ w ∷ []) o
one_more ws w None = refl
one_more ws w (Some vs) = ap Some (sym (append_assoc ws (w ∷ []) vs))

-- none yet
pub none_yet : (o : Option (List ℕ)) → o ≡ front [] o
none_yet None = refl
none_yet (Some vs) = refl

ahead_suc : (n : ℕ) (text : List ℕ)
    → words_ahead (suc n) text ≡ cons_number (word_ahead text) (words_ahead n (drop 9 text))
unfolding words_ahead
ahead_suc n text = refl

ahead_none : (text : List ℕ) → length text ≡ 0 → words_ahead 0 text ≡ Some []
unfolding words_ahead
ahead_none [] h = refl
ahead_none (b ∷ bs) h = absurd (omega (arith, h))

ahead_more : (text : List ℕ) → 0 < length text → words_ahead 0 text ≡ None
unfolding words_ahead
ahead_more [] h = absurd (omega (arith, h))
ahead_more (b ∷ bs) h = refl

module _ (k : ℕ) (text rest ws : List ℕ)
    (so_far : words_ahead 8 text ≡ front (take k ws) (words_ahead (8 - k) rest)) where
  next_is : k < 8 → words_ahead (8 - k) rest ≡ cons_number (word_ahead rest) (words_ahead (8 - (k + 1)) (drop 9 rest))
  next_is few = let e : 8 - k ≡ suc (8 - (k + 1)) = omega (arith, few) in
      ap (λ n. words_ahead n rest) e ∙ ahead_suc (8 - (k + 1)) rest

  -- a word more
  pub more_words : (w : ℕ) (tail : List ℕ) → k < 8 → k < length ws → word_ahead rest ≡ Some w → tail ≡ drop 9 rest
      → words_ahead 8 text ≡ front (take (k + 1) (slice_set ws k w)) (words_ahead (8 - (k + 1)) tail)
  more_words w tail few inside is tail_is =
      let after = words_ahead (8 - (k + 1)) (drop 9 rest) in
      so_far
      ∙ ap (front (take k ws)) (next_is few ∙ ap (λ o. cons_number o after) is)
      ∙ one_more (take k ws) w after
      ∙ ap (λ us. front us after) (sym (take_more_set ws k w inside))
      ∙ ap (λ r. front (take (k + 1) (slice_set ws k w)) (words_ahead (8 - (k + 1)) r)) (sym tail_is)

  -- none more
  pub no_words : k < 8 → word_ahead rest ≡ None → words_ahead 8 text ≡ None
  no_words few is = so_far
      ∙ ap (front (take k ws)) (next_is few ∙ ap (λ o. cons_number o (words_ahead (8 - (k + 1)) (drop 9 rest))) is)

  at_end : 8 ≤ k → words_ahead 8 text ≡ front (take k ws) (words_ahead 0 rest)
  at_end all = let e : 8 - k ≡ 0 = omega (arith, all) in so_far ∙ ap (λ n. front (take k ws) (words_ahead n rest)) e

  -- all eight, and nothing after them
  pub all_words : 8 ≤ k → k ≤ 8 → length ws ≡ 8 → length rest ≡ 0 → words_ahead 8 text ≡ Some ws
  all_words all few size none =
      let e : k ≡ length ws = omega (arith, all, few, size) in
      at_end all ∙ ap (front (take k ws)) (ahead_none rest none)
      ∙ ap Some (append-nil (take k ws) ∙ ap (λ n. take n ws) e ∙ take-length ws)

  -- something after them
  pub too_much : 8 ≤ k → 0 < length rest → words_ahead 8 text ≡ None
  too_much all some = at_end all ∙ ap (front (take k ws)) (ahead_more rest some)
