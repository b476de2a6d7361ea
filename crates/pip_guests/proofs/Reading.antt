-- What the kernel reads and writes for a partition below p is the same in two trees that agree below p.
use Rattle.std.proofs.Common.{◌≡◌, ℕ, zero, suc, ◌+◌, ◌*◌, ◌≤◌, ◌<◌, ◌-◌, ◌%◌, ◌==◌, ◌&&◌, true, cond, ◌∷◌, refl, sym}
use Rattle.std.proofs.Common.{ap, ap₂, ◌∙◌, arith, Option, Some, None}
use Rattle.std.specs.Prelude.{is_some, nat_le, nat_lt}
use Rattle.pip_base.specs.declared.types.Access.{Access}
use Rattle.pip_base.specs.declared.types.Access.TheVariants.{Load, Store}
use Rattle.pip_base.specs.declared.types.Ctx.{Ctx}
use Rattle.pip_base.specs.declared.types.Size.{Size}
use Rattle.pip_base.specs.declared.types.Size.TheVariants.{Word}
use Rattle.pip_model.specs.Handlers.{block, block_at, context_in, context_reached, context_word, handler, handler_at}
use Rattle.pip_model.specs.Handlers.{is_reached, save_place, saved_to, store_at, words_from, written_block}
use Rattle.pip_model.specs.Reach.{Faulted, Place, Reached, Unmapped, reach, word_reached}
use Rattle.pip_model.specs.Sound.{IsSound}
use Rattle.pip_model.specs.Switching.{yield_place}
use Rattle.pip_model.specs.Tree.{Tree, word_of}
use Rattle.pip_model.proofs.Trees.Free.{IsName}
use Rattle.pip_model.proofs.Trees.Numbers.{reached_index, reached_small}
use Rattle.pip_model.proofs.Events.Soundness.{block_room}
use Rattle.pip_model.proofs.Events.Kept.{saved_word}
use Rattle.pip_model.proofs.Locality.Agree.{AgreeTrees}
use Rattle.pip_model.proofs.Locality.OneEvent.{reach_same, reached_row}

-- what is read of the words of a page, where these agree below 1024
words_alike : (n : ℕ) (x y : ℕ → ℕ) (i : ℕ) → i + n ≤ 1024 → ((j : ℕ) → j < 1024 → y j ≡ x j)
    → words_from n x i ≡ words_from n y i
words_alike zero x y i l h = refl
words_alike (suc n) x y i l h =
    ap₂ (λ z zs. z ∷ zs) (sym (h i (omega arith))) (words_alike n x y (i + 1) (omega arith) h)

context_alike : (x y : ℕ → ℕ) (i : ℕ) → i + 17 ≤ 1024 → ((j : ℕ) → j < 1024 → y j ≡ x j)
    → context_in x i ≡ context_in y i
context_alike x y i l h =
    let pc = sym (h i (omega arith)) in
    let regs = words_alike 16 x y (i + 1) (omega arith) h in
    λ n. record { pc = pc n; regs = regs n }

-- a save over words that are the same
pub written_alike : (c : Ctx) (g : ℕ) (q : Reached) (x y : ℕ → ℕ) (j : ℕ) → y j ≡ x j
    → written_block c g q y j ≡ written_block c g q x j
written_alike c g (Faulted f) x y j h = h
written_alike c g (Place k i) x y j h =
    rw h

module _ (t u : Tree) (p : ℕ) (s : IsSound t) (r : IsSound u) (n : IsName t p) (a : AgreeTrees p t u) where
  pub reach_alike : (va : ℕ) (c : Access) (z : Size) → reach t p va c z ≡ reach u p va c z
  reach_alike va c z = reach_same t u p s r n a va c z

  -- a word that is loaded
  word_alike : (va : ℕ) → word_reached t (reach t p va Load Word) ≡ word_reached u (reach u p va Load Word)
  word_alike va = rw (at (reach t p va Load Word) refl, reach_alike va Load Word)
    where
      at : (q : Reached) → reach t p va Load Word ≡ q → word_reached t q ≡ word_reached u q
      at (Faulted f) e = refl
      at (Place g i) e =
          rw (← a.words g i (reached_row t p va g i Load Word e) (reached_small t p va g i Load Word e))

  pub block_alike : (k : ℕ) → block t p k ≡ block u p k
  block_alike k = rw (at (word_reached t (reach t p (0xfffff000 + 4 * k) Load Word)), word_alike (0xfffff000 + 4 * k))
    where
      at : (o : Option ℕ) → block_at t p o ≡ block_at u p o
      at None = refl
      at (Some b) = rw (reach_alike b Load Word)

  pub handler_alike : (k : ℕ) → handler t p k ≡ handler u p k
  handler_alike k = rw (at (block t p k) refl, block_alike k)
    where
      of : (b : ℕ) (q : Reached) → b % 4096 ≤ 4028 → reach t p b Load Word ≡ q
          → context_reached t q ≡ context_reached u q
      of b (Faulted f) l e = refl
      of b (Place g i) l e =
          let x = reached_index t p b g i Load Word e in
          rw (context_alike (word_of (t.words g)) (word_of (u.words g)) i (omega (arith, l, x))
          (λ j m. a.words g j (reached_row t p b g i Load Word e) m))

      at : (o : Option ℕ) → block t p k ≡ o → handler_at t p o ≡ handler_at u p o
      at None e = refl
      at (Some b) e =
          rw (of b (reach t p b Load Word) (block_room t p k b e) refl, reach_alike b Load Word)

  pub save_place_alike : (k : ℕ) → save_place t p k ≡ save_place u p k
  save_place_alike k = rw (at (block t p k), block_alike k)
    where
      at : (o : Option ℕ) → store_at t p o ≡ store_at u p o
      at None = refl
      at (Some b) = reach_alike b Store Word

  pub yield_place_alike : (k : ℕ) → yield_place t p k ≡ yield_place u p k
  yield_place_alike k = rw (save_place_alike k)

-- a save of one context to one place keeps trees agreeing
pub saved_agree : (t u : Tree) (p : ℕ) (c : Ctx) (q : Reached) → AgreeTrees p t u
    → ((h i : ℕ) → q ≡ Place h i → is_some (t.words h) ≡ true)
    → ((h i : ℕ) → q ≡ Place h i → is_some (u.words h) ≡ true) → AgreeTrees p (saved_to t c q) (saved_to u c q)
saved_agree t u p c q a h k = record {
  to = a.to;
  from = a.from;
  words = λ g j i l. saved_word u c q g j k ∙ (written_alike c g q (word_of (t.words g)) (word_of (u.words g)) j
      (a.words g j i l) ∙ sym (saved_word t c q g j h));
}
