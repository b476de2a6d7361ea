-- What is read of a tree, and what is saved to it, where words differ in what isn't seen of them.
use Rattle.std.proofs.Common.{◌≡◌, ℕ, zero, suc, ◌+◌, ◌-◌, ◌%◌, ◌==◌, ◌&&◌, ◌<◌, ◌≤◌, ◌⊎◌, inl, inr, Bool, true, false}
use Rattle.std.proofs.Common.{cond}
use Rattle.std.proofs.Common.{List, ◌∷◌, refl, ap₂, subst, arith, Option, Some, None, eqb-true}
use Rattle.std.specs.Prelude.{is_some, nat_le, nat_lt, option_map}
use Rattle.std.proofs.lemmas.Bool.{leb-true, ltb-true}
use Rattle.pip_base.specs.declared.types.Access.TheVariants.{Load}
use Rattle.pip_base.specs.declared.types.Ctx.{Ctx}
use Rattle.pip_base.specs.declared.types.Size.TheVariants.{Word}
use Rattle.pip_model.specs.Handlers.{block_at, context_in, context_reached, context_word, handler, handler_at}
use Rattle.pip_model.specs.Handlers.{is_reached, save_place, saved_to, store_at, words_from, written_block}
use Rattle.pip_model.specs.Lists.{In, has}
use Rattle.pip_model.specs.Reach.{Faulted, Place, Reached, reach, word_reached}
use Rattle.pip_model.specs.Tree.{Tree, word_of}
use Rattle.pip_model.proofs.OnLists.Members.{has_in, in_has}
use Rattle.pip_guests.specs.Outside.{AlikeTrees, AlikeWord, BlockMisses, BothLand, EntryMisses, HandlerMisses}
use Rattle.pip_guests.specs.Outside.{IsOneUse}
use Rattle.pip_guests.specs.Outside.{Lands, block_place, entry_place}

-- what two handlers have in common: both are there, or none; they are the same unless the partition is one of these
abbrev pub AlikeHandlers : List ℕ → ℕ → Option Ctx → Option Ctx → Type 0
AlikeHandlers own p None None = Unit {0}
AlikeHandlers own p None (Some d) = ⊥
AlikeHandlers own p (Some c) None = ⊥
AlikeHandlers own p (Some c) (Some d) = (In p own → ⊥) → c ≡ d

-- contexts in two pages that have the same words there
words_same : (n i : ℕ) (x y : ℕ → ℕ) → ((j : ℕ) → i ≤ j → j < i + n → x j ≡ y j) → words_from n x i ≡ words_from n y i
words_same zero i x y f = refl
words_same (suc n) i x y f = ap₂ (λ a l. a ∷ l) (f i (omega arith) (omega arith))
    (words_same n (i + 1) x y (λ j l k. f j (omega arith) (omega arith)))

contexts_same : (x y : ℕ → ℕ) (i : ℕ) → ((j : ℕ) → i ≤ j → j < i + 17 → x j ≡ y j) → context_in x i ≡ context_in y i
contexts_same x y i f =
    let pc = f i (omega arith) (omega arith) in
    let rs = words_same 16 (i + 1) x y (λ j l k. f j (omega arith) (omega arith)) in
    λ n. record { pc = pc n; regs = rs n }

-- a block can be loaded
loadable : (t : Tree) (p : ℕ) (o : Option ℕ) (a : ℕ) → block_at t p o ≡ Some a
    → is_some (context_reached t (reach t p a Load Word)) ≡ true
loadable t p None a e = cc
loadable t p (Some b) a e = go (b % 4 == 0 && nat_le (b % 4096) 4028) (reach t p b Load Word) refl e
  where
    go : (c : Bool) (q : Reached) → reach t p b Load Word ≡ q → cond (c && is_reached q) (Some b) None ≡ Some a
        → is_some (context_reached t (reach t p a Load Word)) ≡ true
    go false q f e = cc
    go true (Faulted x) f e = cc
    go true (Place g i) f e =
        let same : b ≡ a = cc in
        rw (← same, f)

-- p has a handler where it has a block
handled : (t : Tree) (p : ℕ) (o : Option ℕ) → is_some (handler_at t p (block_at t p o)) ≡ is_some (block_at t p o)
handled t p o = go (block_at t p o) refl
  where
    go : (b : Option ℕ) → block_at t p o ≡ b → is_some (handler_at t p b) ≡ is_some b
    go None e = refl
    go (Some a) e = loadable t p o a e

-- two places to save to are one; or p is one of these partitions, and nothing is seen of either
abbrev pub AlikePlaces : List ℕ → (ℕ → ℕ → ℕ → ℕ) → ℕ → Reached → Reached → Type 0
AlikePlaces own look p q r = (q ≡ r) ⊎ (In p own × BothLand look q r)

-- both can be saved to, or neither
pub reached_same : (own : List ℕ) (look : ℕ → ℕ → ℕ → ℕ) (p : ℕ) (q r : Reached) → AlikePlaces own look p q r
    → is_reached q ≡ is_reached r
reached_same own look p q r (inl e) = rw e
reached_same own look p (Place g i) (Place h j) (inr b) = refl
reached_same own look p (Place g i) (Faulted f) (inr b) = absurd b.1
reached_same own look p (Faulted f) (Place h j) (inr b) = absurd b.1
reached_same own look p (Faulted f) (Faulted x) (inr b) = refl

-- a save of which nothing is seen
pub landed_word : (look : ℕ → ℕ → ℕ → ℕ) (c : Ctx) (g : ℕ) (q : Reached) (x : ℕ → ℕ) (j : ℕ)
    → ((i : ℕ) → q ≡ Place g i → i ≤ j → j < i + 17 → look g j (context_word c (j - i)) ≡ look g j (x j))
    → look g j (written_block c g q x j) ≡ look g j (x j)
landed_word look c g (Faulted f) x j l = refl
landed_word look c g (Place n i) x j l = test (n == g) (nat_le i j) (nat_lt j (i + 17)) refl refl refl
  where
    test : (a b z : Bool) → (n == g) ≡ a → nat_le i j ≡ b → nat_lt j (i + 17) ≡ z
        → look g j (cond (a && (b && z)) (context_word c (j - i)) (x j)) ≡ look g j (x j)
    test false b z ea eb ez = refl
    test true false z ea eb ez = refl
    test true true false ea eb ez = refl
    test true true true ea eb ez =
        l i (rw (eqb-true n g ea)) (leb-true i j eb) (ltb-true j (i + 17) ez)

pub lands_word : (look : ℕ → ℕ → ℕ → ℕ) (c : Ctx) (g : ℕ) (q : Reached) → Lands look q → (x : ℕ → ℕ) (j : ℕ)
    → look g j (written_block c g q x j) ≡ look g j (x j)
lands_word look c g q l x j = landed_word look c g q x j (λ i e a b. subst (Lands look) e l j a b _ _)

module _ (own : List ℕ) (look : ℕ → ℕ → ℕ → ℕ) (t : Tree) (u : ℕ → Option (ℕ → ℕ)) (h : (g : ℕ)
    → AlikeWord look g (t.words g) (u g))
  where
    -- the same tree with other words
    abbrev other : Tree
    other = record t { words = u }

    -- the words in an entry of p are one, or p does the same with both; of what it does by its word
    entry_same : (p : ℕ) (q : Reached) (P : Option ℕ → Option ℕ → Type 0) → EntryMisses own look t p q
        → ((o : Option ℕ) → P o o)
        → ((x y : ℕ) → In p own → IsOneUse look t p x y → P (block_at t p (Some x)) (block_at t p (Some y)))
        → P (block_at t p (word_reached t q)) (block_at other p (word_reached other q))
    entry_same p (Faulted f) P m one two = one None
    entry_same p (Place g i) P m one two = elim (m (word_of (u g) i) ((h g).words i)) [
      | inl e ↦ rw (← e) (one _)
      | inr b ↦ two _ _ b.0 b.1
    ]

    context_same : (p : ℕ) (q : Reached) → ((In p own → ⊥) → BlockMisses look q)
        → AlikeHandlers own p (context_reached t q) (context_reached other q)
    context_same p (Faulted f) m = tt
    context_same p (Place g i) m = λ o.
        contexts_same (word_of (t.words g)) (word_of (u g)) i (λ j l k. m o j l k _ _ ((h g).words j))

    pub handler_same : (p k : ℕ) → HandlerMisses own look t p k
        → AlikeHandlers own p (handler t p k) (handler other p k)
    handler_same p k m = entry_same p (entry_place t p k) (λ b c. ((In p own → ⊥)
        → BlockMisses look (block_place t p b))
        → AlikeHandlers own p (handler_at t p b) (handler_at other p c)) m.entry at
        (λ x y i b n. both i (handler_at t p (block_at t p (Some x))) (handler_at other p (block_at t p (Some y)))
        (rw (handled t p (Some x), b.block, ← handled other p (Some y)))) m.block
      where
        at : (b : Option ℕ) → ((In p own → ⊥) → BlockMisses look (block_place t p b))
            → AlikeHandlers own p (handler_at t p b) (handler_at other p b)
        at None m = tt
        at (Some a) m = context_same p (reach t p a Load Word) m

        both : In p own → (c d : Option Ctx) → is_some c ≡ is_some d → AlikeHandlers own p c d
        both i None None e = tt
        both i None (Some d) e = cc
        both i (Some c) None e = cc
        both i (Some c) (Some d) e = λ n. absurd (n i)

    pub place_same : (p k : ℕ) → EntryMisses own look t p (entry_place t p k)
        → AlikePlaces own look p (save_place t p k) (save_place other p k)
    place_same p k m = entry_same p (entry_place t p k)
        (λ b c. AlikePlaces own look p (store_at t p b) (store_at other p c)) m (λ o. inl refl)
        (λ x y i b. inr (i, b.saves))

    -- ---- saves

    -- a save of one context to one place, or two of which nothing is seen
    pub saved_words : (c d : Ctx) (p : ℕ) (q r : Reached) → ((In p own → ⊥) → c ≡ d) → (In p own → Lands look q)
        → AlikePlaces own look p q r
        → (g : ℕ) → AlikeWord look g ((saved_to t c q).words g) ((saved_to other d r).words g)
    saved_words c d p q r e l s g = at (t.words g) (u g) (h g).there (h g).words
      where
        not_in : {x : Bool} → x ≡ false → x ≡ true → ⊥
        not_in f t = cc

        -- p is none of these, and both saves are one
        once : (In p own → ⊥) → (x y : ℕ → ℕ) (j : ℕ) → look g j (x j) ≡ look g j (y j)
            → look g j (written_block c g q x j) ≡ look g j (written_block d g r y j)
        once n x y j k = elim s [
          | inl f ↦ rw (← f, ← e n) (one q)
          | inr b ↦ absurd (n b.0)
        ]
          where
            one : (q : Reached) → look g j (written_block c g q x j) ≡ look g j (written_block c g q y j)
            one (Faulted f) = k
            one (Place m i) = by (m == g && (nat_le i j && nat_lt j (i + 17)))
              where
                by : (b : Bool) → look g j (cond b (context_word c (j - i)) (x j))
                    ≡ look g j (cond b (context_word c (j - i)) (y j))
                by true = refl
                by false = k

        -- nothing is seen of either
        twice : In p own → Lands look r
        twice i = elim s [
          | inl f ↦ rw (← f) (l i)
          | inr b ↦ second q r b.1
        ]
          where
            second : (q r : Reached) → BothLand look q r → Lands look r
            second (Place g i) (Place m j) b = b.1
            second (Place g i) (Faulted f) b = absurd b
            second (Faulted f) (Place m j) b = absurd b
            second (Faulted f) (Faulted x) b = tt

        word : (x y : ℕ → ℕ) (j : ℕ) → look g j (x j) ≡ look g j (y j)
            → look g j (written_block c g q x j) ≡ look g j (written_block d g r y j)
        word x y j k = by (has own p) refl
          where
            by : (b : Bool) → has own p ≡ b
                → look g j (written_block c g q x j) ≡ look g j (written_block d g r y j)
            by true b =
                let i = has_in p own b in
                rw (lands_word look c g q (l i) x j, k, ← lands_word look d g r (twice i) y j)
            by false b = once (λ i. not_in b (in_has p own i)) x y j k

        at : (o z : Option (ℕ → ℕ)) → is_some o ≡ is_some z
            → ((j : ℕ) → look g j (word_of o j) ≡ look g j (word_of z j))
            → AlikeWord look g (option_map (written_block c g q) o) (option_map (written_block d g r) z)
        at None None f k = record { there = refl; words = λ j. refl }
        at None (Some y) f k = cc
        at (Some x) None f k = cc
        at (Some x) (Some y) f k = record { there = refl; words = λ j. word x y j (k j) }

    pub saved_alike : (c d : Ctx) (p : ℕ) (q r : Reached) → ((In p own → ⊥) → c ≡ d) → (In p own → Lands look q)
        → AlikePlaces own look p q r → AlikeTrees look (saved_to t c q) (saved_to other d r)
    saved_alike c d p q r e l s = record { nodes = refl; words = saved_words c d p q r e l s }
