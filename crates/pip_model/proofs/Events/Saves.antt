-- Where a save goes: into 17 words of one page that the partition itself maps, and into no other page.
use Rattle.std.proofs.Common.{◌≡◌, ℕ, ◌+◌, ◌≤◌, ◌==◌, ◌&&◌, Bool, true, false, cond, refl, subst, arith, eqb-true}
use Rattle.std.proofs.Common.{Option, Some, None}
use Rattle.std.specs.Prelude.{◌-◌, nat_le, nat_lt, option_map}
use Rattle.pip_base.specs.declared.types.Access.TheVariants.{Store}
use Rattle.pip_base.specs.declared.types.Ctx.{Ctx}
use Rattle.pip_base.specs.declared.types.Size.TheVariants.{Word}
use Rattle.pip_model.specs.Handlers.{block, context_word, save_place, saved_to, store_at, written_block}
use Rattle.pip_model.specs.Lists.{In}
use Rattle.pip_model.specs.Reach.{Faulted, Place, Reached, Unmapped}
use Rattle.pip_model.specs.Switching.{yield_place}
use Rattle.pip_model.specs.Tree.{Tree, node, row_pages, word_of}
use Rattle.pip_model.proofs.Events.Soundness.{block_room}
use Rattle.pip_model.proofs.Locality.OneEvent.{reached_row}
use Rattle.pip_model.proofs.Trees.Numbers.{reached_index}

-- a place in a page of p's rows, with room for a block
pub record IsOwnPlace (t : Tree) (p : ℕ) (q : Reached) : Type 0 where
  pub row : (h i : ℕ) → q ≡ Place h i → In h (row_pages (node t p))
  pub room : (h i : ℕ) → q ≡ Place h i → i + 17 ≤ 1024

pub save_own : (t : Tree) (p k : ℕ) → IsOwnPlace t p (save_place t p k)
save_own t p k = record { row = λ h i e. row h i (block t p k) e; room = λ h i e. room h i (block t p k) refl e }
  where
    row : (h i : ℕ) (o : Option ℕ) → store_at t p o ≡ Place h i → In h (row_pages (node t p))
    row h i None e = cc
    row h i (Some a) e = reached_row t p a h i Store Word e

    room : (h i : ℕ) (o : Option ℕ) → block t p k ≡ o → store_at t p o ≡ Place h i → i + 17 ≤ 1024
    room h i None z e = cc
    room h i (Some a) z e = omega (arith, block_room t p k a z, reached_index t p a h i Store Word e)

pub yield_own : (t : Tree) (p s : ℕ) → IsOwnPlace t p (yield_place t p s)
yield_own t p s = go (nat_lt s 256)
  where
    go : (b : Bool) → IsOwnPlace t p (cond b (save_place t p s) (Faulted Unmapped))
    go true = save_own t p s
    go false = record { row = λ h i e. cc; room = λ h i e. cc }

-- a page that p doesn't map keeps its words
pub saved_out : (t : Tree) (p : ℕ) (c : Ctx) (q : Reached) (g j : ℕ) → IsOwnPlace t p q
    → (In g (row_pages (node t p)) → ⊥) → word_of ((saved_to t c q).words g) j ≡ word_of (t.words g) j
saved_out t p c q g j own out = go (t.words g)
  where
    at : (q : Reached) (w : ℕ → ℕ) → IsOwnPlace t p q → written_block c g q w j ≡ w j
    at (Faulted f) w o = refl
    at (Place h i) w o = test (h == g) refl
      where
        test : (b : Bool) → (h == g) ≡ b
            → cond (b && (nat_le i j && nat_lt j (i + 17))) (context_word c (j - i)) (w j) ≡ w j
        test false e = refl
        test true e = absurd (out (rw (← eqb-true h g e) (o.row h i refl)))

    go : (o : Option (ℕ → ℕ)) → word_of (option_map (λ old. written_block c g q old) o) j ≡ word_of o j
    go None = refl
    go (Some w) = at q w own
