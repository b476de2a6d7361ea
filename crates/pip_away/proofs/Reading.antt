-- Accesses, entries of handler tables and blocks, as the code reads them.
use Rattle.std.proofs.Common.{◌≡◌, ℕ, suc, ◌+◌, ◌*◌, ◌%◌, ◌<◌, ◌≤◌, ◌==◌, ◌&&◌, ◌||◌, not, cond, Bool, true}
use Rattle.std.proofs.Common.{false, refl, sym, ap, ◌∙◌, arith, eqb-true, Option, Some, None}
use Rattle.std.proofs.Common.{List, [], ◌∷◌, zero, drop, length}
use Rattle.std.specs.Prelude.{◌-◌, Ok, Err, Result, slice_get}
use Rattle.pip_base.specs.Memory.{Memory, word_at}
use Rattle.pip_base.specs.declared.types.Access.{Access}
use Rattle.pip_base.specs.declared.types.Access.TheVariants.{Load, Store}
use Rattle.pip_base.specs.declared.types.Size.{Size}
use Rattle.pip_base.specs.declared.types.Size.TheVariants.{Byte, Word}
use Rattle.pip_mmu.specs.Answers.{place_answer, reached_of}
use Rattle.pip_mmu.specs.Faults.{access_fault, model_fault, translation_fault}
use Rattle.pip_mmu.specs.declared.faults.AccessFault.{AccessFault}
use Rattle.pip_mmu.specs.declared.faults.AccessFault.TheVariants as A
use Rattle.pip_mmu.specs.declared.faults.MmuFault.{MmuFault}
use Rattle.pip_mmu.specs.declared.faults.MmuFault.TheVariants as M
use Rattle.pip_model.specs.Handlers.{block_at, is_reached, store_at}
use Rattle.pip_model.specs.Layout.{LaysOut}
use Rattle.pip_model.specs.Lists.{has}
use Rattle.pip_model.specs.Reach.{Alignment, Fault, Faulted, Hidden, Place, Right, Reached, Unmapped, is_misaligned}
use Rattle.pip_model.specs.Reach.{reach, reach_by_row}
use Rattle.pip_model.specs.Reach.{word_reached}
use Rattle.pip_model.specs.Sound.{IsSound}
use Rattle.pip_model.specs.Tree.{Node, Row, Tree, find_node, node, row_at, vpage, word_of}
use Rattle.pip_model.proofs.Events.Soundness.{node_in}
use Rattle.pip_model.proofs.Frames.Stored.{reached_frame, reached_word}
use Rattle.pip_model.proofs.OnLists.Members.{find_in}
use Rattle.pip_model.proofs.Trees.Numbers.{at_small, reached_small}
use Rattle.pip_guests.specs.Outside.{block_place, entry_place}
use Rattle.pip_guests.specs.Sights.{Sight}
use Rattle.pip_guests.specs.Sights as T
use Rattle.pip_switch.proofs.Blocking.{stores_load}
use Rattle.pip_away.specs.Blind.{can_begin, table_word}
use Rattle.pip_away.specs.declared.handlers.TableWord.{TableWord}

-- ---- accesses

-- a translation in the words of an access
abbrev as_access : Result (ℕ × ℕ) MmuFault → Result (ℕ × ℕ) AccessFault
as_access (Ok y) = Ok y
as_access (Err f) = Err (A.Mmu f)

fault_back : (f : MmuFault) → A.Mmu f ≡ access_fault (translation_fault f)
fault_back M.Unmapped = refl
fault_back M.Hidden = refl
fault_back M.Right = refl

translated : (r : Result (ℕ × ℕ) MmuFault) (q : Reached) → reached_of r ≡ q → as_access r ≡ place_answer q
translated (Ok y) q e = ap place_answer e
translated (Err f) q e = ap Err (fault_back f) ∙ ap place_answer e

module _ (t : Tree) (p va : ℕ) (access : Access) (z : Size) where
  pub crooked_access : is_misaligned va z ≡ true → Err A.Alignment ≡ place_answer (reach t p va access z)
  crooked_access e = sym (ap (λ b. place_answer
      (cond b (Faulted Alignment) (reach_by_row t va access (row_at (node t p).rows (vpage va))))) e)

  module _ (even : is_misaligned va z ≡ false) (r : Result (ℕ × ℕ) MmuFault)
      (is : reached_of r ≡ reach t p va access Byte) where
    located : as_access r ≡ place_answer (reach t p va access z)
    located = translated r (reach t p va access z) (is ∙ sym (ap (λ b.
        cond b (Faulted Alignment) (reach_by_row t va access (row_at (node t p).rows (vpage va)))) even))

    pub located_ok : (y : ℕ × ℕ) → r ≡ Ok y → Ok y ≡ place_answer (reach t p va access z)
    unfolding located
    located_ok y e = ap as_access (sym e) ∙ located

    pub located_err : (f : MmuFault) → r ≡ Err f → Err (A.Mmu f) ≡ place_answer (reach t p va access z)
    unfolding located
    located_err f e = ap as_access (sym e) ∙ located

-- what is reached, by an answer
pub reached_there : (q : Reached) (y : ℕ × ℕ) → Ok y ≡ place_answer q → q ≡ Place y.0 y.1
reached_there (Place g i) y e =
    let same : y ≡ (g, i) = cc in ap (λ z. Place z.0 z.1) (sym same)
reached_there (Faulted f) y e = cc

-- it is a word of the memory
module _ (t : Tree) (s : IsSound t) (p va : ℕ) (access : Access) (z : Size) (x : Node) (found : find_node t p ≡ Some x)
    (y : ℕ × ℕ) (e : Ok y ≡ place_answer (reach t p va access z)) where
  pub located_frame : y.0 < t.frames
  located_frame = reached_frame t s p va y.0 y.1 x access z found (reached_there (reach t p va access z) y e)

  pub located_index : y.1 < 1024
  located_index = reached_small t p va y.0 y.1 access z (reached_there (reach t p va access z) y e)

  pub located_read : (m : Memory) → LaysOut t m → word_at m y.0 y.1 ≡ word_of (t.words y.0) y.1
  located_read m lays =
      reached_word t s p va y.0 y.1 x access z found (reached_there (reach t p va access z) y e) m lays

-- ---- entries

pub no_table : (t : Tree) (q : Reached) (f : AccessFault) → Err f ≡ place_answer q → None ≡ table_word t q
no_table t (Place g i) f e = cc
no_table t (Faulted k) f e = refl

pub some_table : (t : Tree) (q : Reached) (y : ℕ × ℕ) (w : ℕ) → Ok y ≡ place_answer q → w ≡ word_of (t.words y.0) y.1
    → Some (record { page = y.0; index = y.1; word = w }) ≡ table_word t q
some_table t q y w e is =
    ap (λ v. Some (record { page = y.0; index = y.1; word = v })) is ∙ sym (ap (table_word t) (reached_there q y e))

-- beyond the page of the table nothing is reached
pub late_entry : (t : Tree) (p k : ℕ) (x : Node) → IsSound t → find_node t p ≡ Some x → 1024 ≤ k
    → None ≡ table_word t (entry_place t p k)
late_entry t p k x s found late = sym (ap (λ o.
    table_word t (cond (not ((0xfffff000 + 4 * k) % 4 == 0)) (Faulted Alignment)
    (reach_by_row t (0xfffff000 + 4 * k) Load o))) none ∙ go (not ((0xfffff000 + 4 * k) % 4 == 0)))
  where
    none : row_at (node t p).rows (vpage (0xfffff000 + 4 * k)) ≡ None
    none = by (row_at (node t p).rows (vpage (0xfffff000 + 4 * k))) refl
      where
        by : (o : Option Row) → row_at (node t p).rows (vpage (0xfffff000 + 4 * k)) ≡ o → o ≡ None
        by None e = refl
        by (Some r) e =
            let (i, same) = find_in (λ r. r.at == vpage (0xfffff000 + 4 * k)) r (node t p).rows e in
            let small = at_small t s (node t p) (node_in t p) r i in
            let is = eqb-true r.at (vpage (0xfffff000 + 4 * k)) same in
            absurd (omega (arith, small, is))

    go : (b : Bool) → table_word t (cond b (Faulted Alignment) (Faulted Unmapped)) ≡ None
    go true = refl
    go false = refl

-- ---- blocks

module _ (sight : Sight) (t : Tree) (p a : ℕ) where
  -- a block by the place that its address reaches
  pub block_missed : T.block_passes sight (block_place t p (block_at t p (Some a)))
      ≡ cond (can_begin a) (T.block_passes sight (reach t p a Load Word)) true
  block_missed = go (can_begin a) (reach t p a Load Word) refl
    where
      go : (c : Bool) (q : Reached) → reach t p a Load Word ≡ q
          → T.block_passes sight (block_place t p (cond (c && is_reached q) (Some a) None))
          ≡ cond c (T.block_passes sight q) true
      go false q e = refl
      go true (Place g i) e = ap (T.block_passes sight) e
      go true (Faulted f) e = refl

  -- and where it is saved
  pub save_landed : IsSound t → T.block_blind sight (store_at t p (block_at t p (Some a)))
      ≡ cond (can_begin a) (T.block_blind sight (reach t p a Store Word)) true
  save_landed s = go (can_begin a) (reach t p a Load Word) (reach t p a Store Word) refl refl
    where
      go : (c : Bool) (q r : Reached) → reach t p a Load Word ≡ q → reach t p a Store Word ≡ r
          → T.block_blind sight (store_at t p (cond (c && is_reached q) (Some a) None)) ≡ cond c (T.block_blind sight
          r) true
      go false q r e d = refl
      go true (Place g i) r e d = ap (T.block_blind sight) d
      go true (Faulted f) (Faulted h) e d = refl
      go true (Faulted f) (Place g i) e d =
          let bad = sym e ∙ stores_load t p a g i (s.readable (node t p) (node_in t p)) d in cc

  pub unreached_misses : (q : Reached) (f : AccessFault) → Err f ≡ place_answer q → true ≡ T.block_passes sight q
  unreached_misses (Place g i) f e = cc
  unreached_misses (Faulted h) f e = refl

  pub unreached_lands : (q : Reached) (f : AccessFault) → Err f ≡ place_answer q → true ≡ T.block_blind sight q
  unreached_lands (Place g i) f e = cc
  unreached_lands (Faulted h) f e = refl

-- the rest of a list from an element on
pub drop_at : {A : Type 0} (xs : List A) (k : ℕ) (x : A) → slice_get xs k ≡ Some x → drop k xs ≡ x ∷ drop (k + 1) xs
drop_at [] k x e = cc
drop_at (y ∷ ys) zero x e = let same : y ≡ x = cc in rw same
drop_at (y ∷ ys) (suc k) x e = let n : suc k + 1 ≡ suc (k + 1) = omega arith in cc (drop_at ys k x e)

pub drop_all : {A : Type 0} (xs : List A) (k : ℕ) → length xs ≤ k → drop k xs ≡ []
drop_all [] zero l = refl
drop_all [] (suc k) l = refl
drop_all (x ∷ xs) zero l = absurd (omega arith)
drop_all (x ∷ xs) (suc k) l = drop_all xs k (omega arith)

-- words one after another
pub all_later : (f : ℕ → Bool) (i j : ℕ) → j < 17
    → T.each_from f (17 - j) (i + j) ≡ (f (i + j) && T.each_from f (17 - (j + 1)) (i + (j + 1)))
all_later f i j low =
    let n : 17 - j ≡ suc (17 - (j + 1)) = omega arith in
    let k : i + j + 1 ≡ i + (j + 1) = omega arith in
    ap (λ z. T.each_from f z (i + j)) n ∙ ap (λ z. f (i + j) && T.each_from f (17 - (j + 1)) z) k

-- ---- handlers and saves

module _ (own : List ℕ) (sight : Sight) (t : Tree) (p k : ℕ) where
  -- by what the entry is
  abbrev handler_by : Option TableWord → Bool
  handler_by None = true
  handler_by (Some e) = sight.entry t p e.page e.index
      && (has own p || T.block_passes sight (block_place t p (block_at t p (Some e.word))))

  abbrev save_by : Option TableWord → Bool
  save_by None = true
  save_by (Some e) = sight.entry t p e.page e.index
      && (not (has own p) || T.block_blind sight (store_at t p (block_at t p (Some e.word))))

  or_true : (b : Bool) → (b || true) ≡ true
  or_true true = refl
  or_true false = refl

  pub handler_is : (o : Option TableWord) → o ≡ table_word t (entry_place t p k)
      → T.handler_passes own sight t p k ≡ handler_by o
  handler_is o e = go (entry_place t p k) refl ∙ ap handler_by (sym e)
    where
      go : (q : Reached) → entry_place t p k ≡ q → T.handler_passes own sight t p k ≡ handler_by (table_word t q)
      go (Place g i) d = ap (λ q. T.entry_passes sight t p q && (has own p || T.block_passes sight (block_place t p
          (block_at t p (word_reached t q))))) d
      go (Faulted f) d = ap (λ q. T.entry_passes sight t p q && (has own p || T.block_passes sight (block_place t p
          (block_at t p (word_reached t q))))) d ∙ or_true (has own p)

  pub save_is : (o : Option TableWord) → o ≡ table_word t (entry_place t p k)
      → T.save_passes own sight t p k ≡ save_by o
  save_is o e = go (entry_place t p k) refl ∙ ap save_by (sym e)
    where
      go : (q : Reached) → entry_place t p k ≡ q → T.save_passes own sight t p k ≡ save_by (table_word t q)
      go (Place g i) d = ap (λ q. T.entry_passes sight t p q && (not (has own p) || T.block_blind sight (store_at t p
          (block_at t p (word_reached t q))))) d
      go (Faulted f) d = ap (λ q. T.entry_passes sight t p q && (not (has own p) || T.block_blind sight (store_at t p
          (block_at t p (word_reached t q))))) d ∙ or_true (not (has own p))

module _ (own : List ℕ) (sight : Sight) (t : Tree) (p k : ℕ) (e : TableWord)
    (is : Some e ≡ table_word t (entry_place t p k)) where
  abbrev block_part : Bool
  block_part = T.block_passes sight (block_place t p (block_at t p (Some e.word)))

  abbrev save_part : Bool
  save_part = T.block_blind sight (store_at t p (block_at t p (Some e.word)))

  pub handler_left : sight.entry t p e.page e.index ≡ false → false ≡ T.handler_passes own sight t p k
  handler_left h = sym (handler_is own sight t p k (Some e) is ∙ ap (λ b. b && (has own p || block_part)) h)

  pub handler_own : sight.entry t p e.page e.index ≡ true → has own p ≡ true → true ≡ T.handler_passes own sight t p k
  handler_own h o = sym (handler_is own sight t p k (Some e) is ∙ ap (λ b. b && (has own p || block_part)) h
      ∙ ap (λ b. b || block_part) o)

  pub handler_block : sight.entry t p e.page e.index ≡ true → has own p ≡ false
      → block_part ≡ T.handler_passes own sight t p k
  handler_block h o = sym (handler_is own sight t p k (Some e) is ∙ ap (λ b. b && (has own p || block_part)) h
      ∙ ap (λ b. b || block_part) o)

  pub save_left : sight.entry t p e.page e.index ≡ false → false ≡ T.save_passes own sight t p k
  save_left h = sym (save_is own sight t p k (Some e) is ∙ ap (λ b. b && (not (has own p) || save_part)) h)

  pub save_other : sight.entry t p e.page e.index ≡ true → has own p ≡ false → true ≡ T.save_passes own sight t p k
  save_other h o = sym (save_is own sight t p k (Some e) is ∙ ap (λ b. b && (not (has own p) || save_part)) h
      ∙ ap (λ b. not b || save_part) o)

  pub save_block : sight.entry t p e.page e.index ≡ true → has own p ≡ true → save_part ≡ T.save_passes own sight t p k
  save_block h o = sym (save_is own sight t p k (Some e) is ∙ ap (λ b. b && (not (has own p) || save_part)) h
      ∙ ap (λ b. not b || save_part) o)

-- ---- faults

pub faulted_there : (q : Reached) (f : AccessFault) → Err f ≡ place_answer q → q ≡ Faulted (model_fault f)
faulted_there (Place g i) f e = cc
faulted_there (Faulted h) f e = let same : f ≡ access_fault h = cc in sym (ap (λ z. Faulted (model_fault z)) same ∙
    back h)
  where
    back : (h : Fault) → Faulted (model_fault (access_fault h)) ≡ Faulted h
    back Alignment = refl
    back Unmapped = refl
    back Hidden = refl
    back Right = refl
