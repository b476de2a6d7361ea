-- A save in frames: the memory with a context's 17 words written at a place lays out the tree after the save.
use Rattle.std.proofs.Common.{◌≡◌, ℕ, zero, suc, ◌+◌, ◌≤◌, ◌<◌, ◌==◌, ◌&&◌, inl, inr, Bool, true, false, cond, List}
use Rattle.std.proofs.Common.{◌∷◌, refl, sym, ap, ◌∙◌, subst, arith, eqb-true, eq-eqb, length, Option, Some, None}
use Rattle.std.proofs.lemmas.Bool.{eqb-false, leb-true, leb-false, ltb-true, ltb-false}
use Rattle.std.specs.Prelude.{◌-◌, find, is_some, nat_le, nat_lt, option_map, slice_index}
use Rattle.pip_base.specs.Memory.{put_words, word_at}
use Rattle.pip_base.specs.declared.types.Ctx.{Ctx}
use Rattle.pip_base.proofs.Memory.{IsMemory-put_words, length-put_words, word_at-put_words_frame}
use Rattle.pip_base.proofs.Memory.{word_at-put_words_here, word_at-put_words_index}
use Rattle.pip_model.specs.Handlers.{context_word, saved_to, written_block}
use Rattle.pip_model.specs.FullRows.{from_word, full_rows, given_word}
use Rattle.pip_model.specs.Layout.{LaysOut, layout, owned_word}
use Rattle.pip_model.specs.Lists.{has}
use Rattle.pip_model.specs.Reach.{Place}
use Rattle.pip_model.specs.Tree.{Tree, config, nodes, word_of}

word_saved : (c : Ctx) (h i f j rest : ℕ) (o : Option (ℕ → ℕ)) → ((h == f) ≡ true → is_some o ≡ true)
    → cond (is_some (option_map (λ old. written_block c f (Place h i) old) o))
    (word_of (option_map (λ old. written_block c f (Place h i) old) o) j) rest
    ≡ cond (h == f && (nat_le i j && nat_lt j (i + 17))) (context_word c (j - i)) (cond (is_some o) (word_of o j) rest)
word_saved c h i f j rest (Some w) on = refl
word_saved c h i f j rest None on = go (h == f) refl
  where
    go : (b : Bool) → (h == f) ≡ b → rest ≡ cond (b && (nat_le i j && nat_lt j (i + 17))) (context_word c (j - i)) rest
    go false e = refl
    go true e = let z : ◌≡◌ {A = Bool} false true = on e in absurd (grind (arith, z))

-- the layout of the tree after a save differs in the words of the block alone
pub saved_layout : (t : Tree) (c : Ctx) (h i f j : ℕ) → is_some (t.words h) ≡ true → layout (saved_to t c (Place h i)) f
    j ≡ cond (h == f && (nat_le i j && nat_lt j (i + 17))) (context_word c (j - i)) (layout t f j)
unfolding layout full_rows given_word from_word
saved_layout t c h i f j on = word_saved c h i f j (owned_word t f j (find (λ y. has (config y) f) (nodes t)))
    (t.words f) (λ e. rw (← eqb-true h f e) on)

context_at : (c : Ctx) (n : ℕ) → slice_index (c.pc ∷ c.regs) n ≡ context_word c n
context_at c zero = refl
context_at c (suc n) = refl

pub saved_lays : (t : Tree) (m : List (List ℕ)) → LaysOut t m → (c : Ctx) (h i : ℕ) → length c.regs ≡ 16
    → is_some (t.words h) ≡ true → h < t.frames → i + 17 ≤ 1024
    → LaysOut (saved_to t c (Place h i)) (put_words m h i (c.pc ∷ c.regs))
saved_lays t m lays c h i long on h_in room = record {
  shape = IsMemory-put_words m h i ws lays.shape inside;
  count = length-put_words m h i ws ∙ lays.count;
  word = λ f j f_in j_in. cc (at f j f_in j_in (h == f) refl, saved_layout t c h i f j on);
}
  where
    ws : List ℕ
    ws = c.pc ∷ c.regs

    inside : h < length m
    inside = omega arith

    fits : i + length (c.pc ∷ c.regs) ≤ 1024
    fits = omega arith

    here : (j : ℕ) → j < 1024 → (a b : Bool) → nat_le i j ≡ a → nat_lt j (i + 17) ≡ b
        → word_at (put_words m h i (c.pc ∷ c.regs)) h j ≡ cond (a && b) (context_word c (j - i)) (layout t h j)
    here j l true true e d =
        let x = leb-true i j e in
        let y = ltb-true j (i + 17) d in
        let same : j ≡ i + (j - i) = omega arith in
        ap (λ k. word_at (put_words m h i (c.pc ∷ c.regs)) h k) same ∙ (word_at-put_words_here m h i
        (c.pc ∷ c.regs) (j - i) lays.shape inside fits (omega (arith, x, y, long)) ∙ context_at c (j - i))
    here j l false b e d = let x = leb-false i j e in
        word_at-put_words_index m h i (c.pc ∷ c.regs) j lays.shape inside fits (inl (omega arith))
        ∙ lays.word h j h_in l
    here j l true false e d = let y = ltb-false j (i + 17) d in
        word_at-put_words_index m h i (c.pc ∷ c.regs) j lays.shape inside fits (inr (omega arith))
        ∙ lays.word h j h_in l

    at : (f j : ℕ) → f < t.frames → j < 1024 → (b : Bool) → (h == f) ≡ b → word_at (put_words m h i (c.pc ∷ c.regs)) f j
        ≡ cond (h == f && (nat_le i j && nat_lt j (i + 17))) (context_word c (j - i)) (layout t f j)
    at f j f_in j_in false e =
        let n = eqb-false h f e in
        word_at-put_words_frame m h i (c.pc ∷ c.regs) f j lays.shape inside fits (λ q. n (sym q))
        ∙ (lays.word f j f_in j_in
        ∙ sym (ap (λ b. cond (b && (nat_le i j && nat_lt j (i + 17))) (context_word c (j - i)) (layout t f j)) e))
    at f j f_in j_in true e =
        rw (← eqb-true h f e) (here j j_in (nat_le i j) (nat_lt j (i + 17)) refl refl ∙ sym
        (ap (λ b. cond (b && (nat_le i j && nat_lt j (i + 17))) (context_word c (j - i)) (layout t h j))
        (eq-eqb h h refl)))
