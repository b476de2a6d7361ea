-- From an entry of a handler table to a block: the context in it, and where it is saved to.
use Rattle.std.proofs.Common.{◌≡◌, ◌≢◌, ℕ, zero, suc, ◌+◌, ◌*◌, ◌/◌, ◌%◌, ◌<◌, ◌≤◌, ◌==◌, ◌&&◌, cond, not, Bool, true}
use Rattle.std.proofs.Common.{false, ◌∷◌, length, refl, sym, ap, ap₂, ◌∙◌, subst, arith, eq-eqb, ne_eqb, Option, Some}
use Rattle.std.proofs.Common.{None}
use Rattle.std.specs.Prelude.{Ok, Err, Result, bit_and, is_some, nat_le, nat_lt, option_map}
use Rattle.std.proofs.lemmas.Bool.{le-leb, le-ltb, lt-leb, lt-ltb}
use Rattle.pip_base.specs.Memory.{Memory, put_words, word_at}
use Rattle.pip_base.specs.declared.outcome.Status.TheVariants as S
use Rattle.pip_base.specs.declared.types.Access.{Access}
use Rattle.pip_base.specs.declared.types.Access.TheVariants.{Fetch, Load, Store}
use Rattle.pip_base.specs.declared.types.Ctx.{Ctx}
use Rattle.pip_base.specs.declared.types.Size.TheVariants.{Byte, Word}
use Rattle.pip_mmu.specs.Answers.{load_answer, reached_of}
use Rattle.pip_mmu.specs.declared.faults.AccessFault.{AccessFault}
use Rattle.pip_mmu.specs.declared.faults.MmuFault.{MmuFault}
use Rattle.pip_model.specs.Handlers.{block, block_at, can_save, context_in, context_reached, handler, handler_at}
use Rattle.pip_model.specs.Handlers.{is_reached, save_place, saved_to, store_at, words_from, written_block}
use Rattle.pip_model.specs.Layout.{LaysOut}
use Rattle.pip_model.specs.Reach.{Alignment, Faulted, Hidden, Place, Reached, Right, Unmapped, is_misaligned, reach}
use Rattle.pip_model.specs.Reach.{reach_by_row, right, word_reached}
use Rattle.pip_model.specs.Sound.{AreAmong, CanRead, IsSound}
use Rattle.pip_model.specs.Switching.{yield_place}
use Rattle.pip_model.specs.Tree.{Node, Row, Tree, find_node, hidden, node, row_at, vpage, word_of}
use Rattle.pip_model.proofs.Events.Saves.{save_own}
use Rattle.pip_model.proofs.Events.Soundness.{node_in}
use Rattle.pip_model.proofs.Frames.Laid.{laid_words}
use Rattle.pip_model.proofs.Frames.Saved.{saved_lays}
use Rattle.pip_model.proofs.Frames.Stored.{reached_frame, reached_page}
use Rattle.pip_model.proofs.OnLists.Members.{find_in}
use Rattle.pip_model.proofs.Trees.Numbers.{reached_index}
use Rattle.pip_switch.specs.Blocks.{CanBegin, HasRoom, IsOpen, IsPlace, IsTable, entry, entry_from, place_of}
use Rattle.pip_switch.specs.declared.blocks.HandlerBlock.{HandlerBlock}

-- ---- the entry

-- what a load of a word answers is what was reached
word_loaded : (t : Tree) (va : ℕ) (q : Reached) (word : ℕ) → Ok word ≡ load_answer t va Word q
    → word_reached t q ≡ Some word
word_loaded t va (Place g i) word e = let same : word ≡ _ = cc in ap Some (sym same)
word_loaded t va (Faulted f) word e = cc

module _ (t : Tree) (p k : ℕ) where
  module _
      (a : ℕ) (is : Ok a ≡ load_answer t (0xfffff000 + 4 * k) Word (reach t p (0xfffff000 + 4 * k) Load Word)) where
    entry_is : entry t p k ≡ cond (a % 4 == 0 && nat_le (a % 4096) 4028) (Some a) None
    entry_is = ap entry_from (word_loaded t (0xfffff000 + 4 * k) (reach t p (0xfffff000 + 4 * k) Load Word) a is)

    pub entry_crooked : a % 4 ≢ 0 → None ≡ entry t p k
    entry_crooked ne = sym (entry_is ∙ ap (λ b. cond (b && nat_le (a % 4096) 4028) (Some a) None) (ne_eqb (a % 4) 0 ne))

    pub entry_late : 4028 < a % 4096 → None ≡ entry t p k
    entry_late high =
        sym (entry_is ∙ ap (λ b. cond (a % 4 == 0 && b) (Some a) None) (lt-leb (a % 4096) 4028 high) ∙ off (a % 4 == 0))
      where
        off : (b : Bool) → cond (b && false) (Some a) None ≡ None
        off true = refl
        off false = refl

    pub entry_found : a % 4 ≡ 0 → a % 4096 ≤ 4028 → Some a ≡ entry t p k
    entry_found e l =
        sym (entry_is ∙ ap₂ (λ b c. cond (b && c) (Some a) None) (eq-eqb (a % 4) 0 e) (le-leb (a % 4096) 4028 l))

-- ---- the context

at_entry : Tree → ℕ → Option ℕ → Option Ctx
at_entry t p None = None
at_entry t p (Some a) = context_reached t (reach t p a Load Word)

by_block : (t : Tree) (p a : ℕ) (c : Bool) (q : Reached) → reach t p a Load Word ≡ q
    → handler_at t p (cond (c && is_reached q) (Some a) None) ≡ at_entry t p (cond c (Some a) None)
unfolding at_entry
by_block t p a false q e = refl
by_block t p a true (Place g i) e = refl
by_block t p a true (Faulted f) e = sym (ap (context_reached t) e)

handler_by_entry : (t : Tree) (p k : ℕ) → handler t p k ≡ at_entry t p (entry t p k)
unfolding at_entry
handler_by_entry t p k = go (word_reached t (reach t p (0xfffff000 + 4 * k) Load Word))
  where
    go : (o : Option ℕ) → handler_at t p (block_at t p o) ≡ at_entry t p (entry_from o)
    go None = refl
    go (Some a) = by_block t p a (a % 4 == 0 && nat_le (a % 4096) 4028) (reach t p a Load Word) refl

pub handler_none : (t : Tree) (p k : ℕ) → None ≡ entry t p k → None ≡ handler t p k
unfolding at_entry
handler_none t p k e = sym (handler_by_entry t p k ∙ ap (at_entry t p) (sym e))

-- ---- the place where it is saved

place_at_entry : Tree → ℕ → Option ℕ → Option HandlerBlock
place_at_entry t p None = None
place_at_entry t p (Some a) = place_of (reach t p a Store Word)

-- what can be stored to can be loaded
pub stores_load : (t : Tree) (p a g i : ℕ) → CanRead (node t p) → reach t p a Store Word ≡ Place g i
    → reach t p a Load Word ≡ Place g i
stores_load t p a g i reads e = on (is_misaligned a Word) (row_at (node t p).rows (vpage a)) refl e
  where
    writes : (r : Row) (b : Bool) → cond (not b) (Faulted Right) (Place r.frame (a % 4096 / 4)) ≡ Place g i
        → Place r.frame (a % 4096 / 4) ≡ Place g i
    writes r true q = q
    writes r false q = cc

    at : (r : Row) (h : Bool) → AreAmong 1 r.rights → cond h (Faulted Hidden)
        (cond (not (bit_and 2 r.rights == 2)) (Faulted Right) (Place r.frame (a % 4096 / 4))) ≡ Place g i
        → cond h (Faulted Hidden) (cond (not (bit_and 1 r.rights == 1)) (Faulted Right) (Place r.frame (a % 4096 / 4)))
        ≡ Place g i
    at r true k q = cc
    at r false k q =
        ap (λ b. cond (not b) (Faulted Right) (Place r.frame (a % 4096 / 4))) (eq-eqb (bit_and 1 r.rights) 1 k)
        ∙ writes r (bit_and 2 r.rights == 2) q

    on : (b : Bool) (o : Option Row) → row_at (node t p).rows (vpage a) ≡ o → cond b (Faulted Alignment)
        (reach_by_row t a Store o) ≡ Place g i → cond b (Faulted Alignment) (reach_by_row t a Load o) ≡ Place g i
    on true o k q = cc
    on false None k q = cc
    on false (Some r) k q = at r (hidden t r.frame) (reads r (find_in (λ r. r.at == vpage a) r (node t p).rows k).0) q

by_place : (t : Tree) (p a : ℕ) (c : Bool) (q : Reached) → CanRead (node t p) → reach t p a Store Word ≡ q
    → place_of (store_at t p (cond (c && is_reached (reach t p a Load Word)) (Some a) None))
    ≡ place_at_entry t p (cond c (Some a) None)
unfolding place_at_entry
by_place t p a false q r e = refl
by_place t p a true (Place g i) r e =
    ap (λ k. place_of (store_at t p (cond (is_reached k) (Some a) None))) (stores_load t p a g i r e)
by_place t p a true (Faulted f) r e = go (is_reached (reach t p a Load Word)) ∙ sym (ap place_of e)
  where
    go : (b : Bool) → place_of (store_at t p (cond b (Some a) None)) ≡ None
    go true = ap place_of e
    go false = refl

place_by_entry : (t : Tree) (p k : ℕ) → IsSound t → place_of (save_place t p k) ≡ place_at_entry t p (entry t p k)
unfolding place_at_entry
place_by_entry t p k s = go (word_reached t (reach t p (0xfffff000 + 4 * k) Load Word))
  where
    go : (o : Option ℕ) → place_of (store_at t p (block_at t p o)) ≡ place_at_entry t p (entry_from o)
    go None = refl
    go (Some a) = by_place t p a (a % 4 == 0 && nat_le (a % 4096) 4028) (reach t p a Store Word)
        (s.readable (node t p) (node_in t p)) refl

pub place_none : (t : Tree) (p k : ℕ) → IsSound t → None ≡ entry t p k → None ≡ place_of (save_place t p k)
unfolding place_at_entry
place_none t p k s e = sym (place_by_entry t p k s ∙ ap (place_at_entry t p) (sym e))

pub place_some : (t : Tree) (p k a : ℕ) → IsSound t → Some a ≡ entry t p k → (o : Option HandlerBlock)
    → o ≡ place_of (reach t p a Store Word) → o ≡ place_of (save_place t p k)
unfolding place_at_entry
place_some t p k a s e o is = is ∙ sym (place_by_entry t p k s ∙ ap (place_at_entry t p) (sym e))

-- ---- what a translation says

-- the block that begins in a word that was reached
abbrev pub block_at_word : ℕ × ℕ → HandlerBlock
block_at_word y = record { frame = y.0; index = y.1 }

aligned_reach : (t : Tree) (p a : ℕ) (access : Access) → a % 4 ≡ 0 → reach t p a access Byte ≡ reach t p a access Word
aligned_reach t p a access e = sym (ap (λ b.
    cond (not b) (Faulted Alignment) (reach_by_row t a access (row_at (node t p).rows (vpage a)))) (eq-eqb (a % 4) 0 e))

module _ (t : Tree) (p a : ℕ) (access : Access) (begins : CanBegin a) (r : Result (ℕ × ℕ) MmuFault)
    (is : reached_of r ≡ reach t p a access Byte) where
  whole : reached_of r ≡ reach t p a access Word
  whole = is ∙ aligned_reach t p a access begins.aligned

  pub fault_nowhere : (f : MmuFault) → r ≡ Err f → None ≡ place_of (reach t p a access Word)
  unfolding whole
  fault_nowhere f e = ap (λ k. place_of (reached_of k)) (sym e) ∙ ap place_of whole

  pub found_there : (y : ℕ × ℕ) → r ≡ Ok y → Some (block_at_word y) ≡ place_of (reach t p a access Word)
  unfolding whole
  found_there y e = ap (λ k. place_of (reached_of k)) (sym e) ∙ ap place_of whole

placed_back : (q : Reached) (y : HandlerBlock) → Some y ≡ place_of q → q ≡ Place y.frame y.index
placed_back (Place g i) y e =
    let same : y ≡ record { frame = g; index = i } = cc in ap (λ (b : HandlerBlock). Place b.frame b.index) (sym same)
placed_back (Faulted f) y e = cc

-- a place has room for a block
pub place_room : (t : Tree) (m : Memory) (p a : ℕ) (access : Access) (x : Node) → IsSound t → LaysOut t m
    → find_node t p ≡ Some x → CanBegin a → (y : HandlerBlock) → Some y ≡ place_of (reach t p a access Word)
    → HasRoom m y
place_room t m p a access x s lays found begins y e =
    let q = placed_back (reach t p a access Word) y e in
    let low = reached_frame t s p a y.frame y.index x access Word found q in
    let at = reached_index t p a y.frame y.index access Word q in
    let count = lays.count in
    let room = begins.room in
    record { inside = omega arith; room = omega (arith, room, at) }

-- ---- the words of a block

words_same : (n : ℕ) (v w : ℕ → ℕ) (i : ℕ) → ((j : ℕ) → j < i + n → v j ≡ w j) → words_from n v i ≡ words_from n w i
words_same zero v w i h = refl
words_same (suc n) v w i h =
    ap₂ (λ x xs. x ∷ xs) (h i (omega arith)) (words_same n v w (i + 1) (λ j low. h j (omega arith)))

context_same : (v w : ℕ → ℕ) (i : ℕ) → ((j : ℕ) → j < i + 17 → v j ≡ w j) → context_in v i ≡ context_in w i
context_same v w i h =
    let pc : v i ≡ w i = h i (omega arith) in
    let regs : words_from 16 v (i + 1) ≡ words_from 16 w (i + 1) =
    words_same 16 v w (i + 1) (λ j low. h j (omega arith)) in
    λ k. record { pc = pc k; regs = regs k }

pub handler_some : (t : Tree) (m : Memory) (p k a : ℕ) (x : Node) → IsSound t → LaysOut t m → find_node t p ≡ Some x
    → CanBegin a → Some a ≡ entry t p k → (y : HandlerBlock) → Some y ≡ place_of (reach t p a Load Word)
    → (c : Ctx) → c ≡ context_in (word_at m y.frame) y.index → Some c ≡ handler t p k
unfolding at_entry
handler_some t m p k a x s lays found begins e y there c is =
    let q = placed_back (reach t p a Load Word) y there in
    let (w, page) = reached_page t s p a y.frame y.index x Load Word found q in
    let room = (place_room t m p a Load x s lays found begins y there).room in
    let same : context_in (word_at m y.frame) y.index ≡ context_in (word_of (t.words y.frame)) y.index =
    context_same (word_at m y.frame) (word_of (t.words y.frame)) y.index
    (λ j low. laid_words t s m lays y.frame j w page (omega (arith, low, room)) ∙ sym (ap (λ o. word_of o j) page)) in
    ap Some (is ∙ same) ∙ sym (handler_by_entry t p k ∙ ap (at_entry t p) (sym e) ∙ ap (context_reached t) q)

pub handler_nowhere : (t : Tree) (p k a : ℕ) → Some a ≡ entry t p k → None ≡ place_of (reach t p a Load Word)
    → None ≡ handler t p k
unfolding at_entry
handler_nowhere t p k a e off = go (reach t p a Load Word) refl off
  where
    go : (q : Reached) → reach t p a Load Word ≡ q → None ≡ place_of q → None ≡ handler t p k
    go (Place g i) is h = cc
    go (Faulted f) is h = sym (handler_by_entry t p k ∙ ap (at_entry t p) (sym e) ∙ ap (context_reached t) is)

-- ---- what is saved

-- where a save leads can be written
pub save_open : (t : Tree) (p k : ℕ) (x : Node) → IsSound t → find_node t p ≡ Some x → IsOpen t (save_place t p k)
save_open t p k x s found = record {
  page = λ h i e. page h i (block t p k) e;
  frame = λ h i e. frame h i (block t p k) e;
  room = (save_own t p k).room;
}
  where
    page : (h i : ℕ) (o : Option ℕ) → store_at t p o ≡ Place h i → is_some (t.words h) ≡ true
    page h i None e = cc
    page h i (Some a) e = ap is_some (reached_page t s p a h i x Store Word found e).1

    frame : (h i : ℕ) (o : Option ℕ) → store_at t p o ≡ Place h i → h < t.frames
    frame h i None e = cc
    frame h i (Some a) e = reached_frame t s p a h i x Store Word found e

pub yield_open : (t : Tree) (p k : ℕ) (x : Node) → IsSound t → find_node t p ≡ Some x → IsOpen t (yield_place t p k)
yield_open t p k x s found = go (nat_lt k 256)
  where
    go : (b : Bool) → IsOpen t (cond b (save_place t p k) (Faulted Unmapped))
    go true = save_open t p k x s found
    go false = record { page = λ h i e. cc; frame = λ h i e. cc; room = λ h i e. cc }

-- nothing is saved where there is no place
same_words : (c : Ctx) (g : ℕ) (q : Reached) → None ≡ place_of q → (o : Option (ℕ → ℕ))
    → option_map (λ old. written_block c g q old) o ≡ o
same_words c g (Place h i) e o = cc
same_words c g (Faulted f) e None = refl
same_words c g (Faulted f) e (Some w) = λ i. Some (λ j. w j)

pub saved_nowhere : (t : Tree) (m : Memory) (c : Ctx) (q : Reached) → LaysOut t m → None ≡ place_of q
    → LaysOut (saved_to t c q) m
saved_nowhere t m c q lays e = let same : saved_to t c q ≡ t = λ i.
    record { frames = t.frames; root = t.root; others = t.others; words = λ g. same_words c g q e (t.words g) i } in
    subst (λ u. LaysOut u m) (sym same) lays

pub saved_there : (t : Tree) (m n : Memory) (c : Ctx) (q : Reached) → LaysOut t m → IsOpen t q → (y : HandlerBlock)
    → Some y ≡ place_of q → length c.regs ≡ 16 → n ≡ put_words m y.frame y.index (c.pc ∷ c.regs)
    → LaysOut (saved_to t c q) n
saved_there t m n c q lays may y e long is =
    let there = placed_back q y e in
    subst (λ z. LaysOut (saved_to t c z) n) (sym there)
    (subst (LaysOut (saved_to t c (Place y.frame y.index))) (sym is) (saved_lays t m lays c y.frame y.index long
    (may.page y.frame y.index there) (may.frame y.frame y.index there) (may.room y.frame y.index there)))

-- ---- where a yield saves

not_reached : (q : Reached) → None ≡ place_of q → is_reached q ≡ false
not_reached (Place g i) e = cc
not_reached (Faulted f) e = refl

was_reached : (q : Reached) (y : HandlerBlock) → Some y ≡ place_of q → is_reached q ≡ true
was_reached (Place g i) y e = refl
was_reached (Faulted f) y e = cc

module _ (t : Tree) (p s : ℕ) where
  -- nowhere at 256
  pub unsaved_place : s ≡ 256 → IsPlace t p s (Ok None)
  unsaved_place e =
      let off : nat_lt s 256 ≡ false = le-ltb s 256 (omega arith) in (
        sym (ap (λ b. place_of (cond b (save_place t p s) (Faulted Unmapped))) off),
        ap (λ b. b && not (can_save t p s)) off,
      )

  module _ (few : s ≤ 256) (ne : s ≢ 256) where
    below : nat_lt s 256 ≡ true
    below = lt-ltb s 256 (omega (arith, few, ne))

    pub refused_place : None ≡ place_of (save_place t p s) → IsPlace t p s (Err S.BadSave)
    unfolding below
    refused_place e = (refl, ap₂ (λ b c. b && not c) below (not_reached (save_place t p s) e))

    pub found_place : (y : HandlerBlock) → Some y ≡ place_of (save_place t p s) → IsPlace t p s (Ok (Some y))
    unfolding below
    found_place y e = (
      e ∙ sym (ap (λ b. place_of (cond b (save_place t p s) (Faulted Unmapped))) below),
      ap₂ (λ b c. b && not c) below (was_reached (save_place t p s) y e),
    )

-- ---- the page of the handler table

-- in one page one frame is reached
same_page : (t : Tree) (p a b g i : ℕ) (access : Access) → vpage a ≡ vpage b → reach t p a access Byte ≡ Place g i
    → reach t p b access Byte ≡ Place g (b % 4096 / 4)
same_page t p a b g i access same e =
    ap (λ v. reach_by_row t b access (row_at (node t p).rows v)) (sym same) ∙ on (row_at (node t p).rows (vpage a)) e
  where
    at : (f : ℕ) (h k : Bool) → cond h (Faulted Hidden) (cond k (Faulted Right) (Place f (a % 4096 / 4))) ≡ Place g i
        → cond h (Faulted Hidden) (cond k (Faulted Right) (Place f (b % 4096 / 4))) ≡ Place g (b % 4096 / 4)
    at f true k q = cc
    at f false true q = cc
    at f false false q = let here : f ≡ g = cc in ap (λ n. Place n (b % 4096 / 4)) here

    on : (o : Option Row) → reach_by_row t a access o ≡ Place g i → reach_by_row t b access o ≡ Place g (b % 4096 / 4)
    on None q = cc
    on (Some r) q = at r.frame (hidden t r.frame) (not (bit_and (right access) r.rights == right access)) q

pub table_begins : (k : ℕ) → k < 256 → CanBegin (0xfffff000 + 4 * k)
table_begins k low = record { aligned = omega arith; room = omega (arith, low) }

module _ (t : Tree) (p k : ℕ) (access : Access) (low : k < 256) (r : Result (ℕ × ℕ) MmuFault)
    (is : reached_of r ≡ reach t p (0xfffff000 + 4 * k) access Byte) where
  -- no table, and so no entry
  pub no_entry : (f : MmuFault) → r ≡ Err f → access ≡ Load → None ≡ entry t p k
  no_entry f e load =
      let off = fault_nowhere t p (0xfffff000 + 4 * k) access (table_begins k low) r is f e in
      go (reach t p (0xfffff000 + 4 * k) Load Word)
      (subst (λ z. None ≡ place_of (reach t p (0xfffff000 + 4 * k) z Word)) load off)
    where
      go : (q : Reached) → None ≡ place_of q → None ≡ entry_from (word_reached t q)
      go (Place g i) h = cc
      go (Faulted f) h = refl

  module _ (y : ℕ × ℕ) (e : r ≡ Ok y) where
    there : reach t p (0xfffff000 + 4 * k) access Byte ≡ Place y.0 y.1
    there = sym is ∙ ap reached_of e

    pub table_there : IsTable t p access y.0
    unfolding there
    table_there =
        let same : vpage (0xfffff000 + 4 * k) ≡ vpage 0xfffff000 = omega (arith, low) in
        sym (aligned_reach t p 0xfffff000 access refl)
        ∙ same_page t p (0xfffff000 + 4 * k) 0xfffff000 y.0 y.1 access same there

    by_load : access ≢ Fetch → CanRead (node t p) → reach t p (0xfffff000 + 4 * k) Load Word ≡ Place y.0 y.1
    unfolding there
    by_load calm reads =
        let begins = table_begins k low in
        go access calm (sym (aligned_reach t p (0xfffff000 + 4 * k) access begins.aligned) ∙ there)
      where
        go : (z : Access) → z ≢ Fetch → reach t p (0xfffff000 + 4 * k) z Word ≡ Place y.0 y.1
            → reach t p (0xfffff000 + 4 * k) Load Word ≡ Place y.0 y.1
        go Load d h = h
        go Store d h = stores_load t p (0xfffff000 + 4 * k) y.0 y.1 reads h
        go Fetch d h = absurd (d refl)

    -- its word in the memory
    pub entry_word : (m : Memory) (x : Node) (a : ℕ) → IsSound t → LaysOut t m → find_node t p ≡ Some x → access ≢ Fetch
        → a ≡ word_at m y.0 y.1
        → Ok a ≡ load_answer t (0xfffff000 + 4 * k) Word (reach t p (0xfffff000 + 4 * k) Load Word)
    unfolding by_load
    entry_word m x a s lays found calm word =
        let begins = table_begins k low in
        let room = (place_room t m p (0xfffff000 + 4 * k) access x s lays found begins (block_at_word y)
        (found_there t p (0xfffff000 + 4 * k) access begins r is y e)).room in
        let q = by_load calm (s.readable (node t p) (node_in t p)) in
        let (w, page) = reached_page t s p (0xfffff000 + 4 * k) y.0 y.1 x Load Word found q in
        ap Ok (word ∙ laid_words t s m lays y.0 y.1 w page (omega (arith, room)) ∙ sym (ap (λ o. word_of o y.1) page))
        ∙ sym (ap (load_answer t (0xfffff000 + 4 * k) Word) q)

-- a block in the table's page
pub beside_there : (t : Tree) (p a g : ℕ) (access : Access) → CanBegin a → vpage a ≡ vpage 0xfffff000
    → IsTable t p access g → Some (block_at_word (g, a % 4096 / 4)) ≡ place_of (reach t p a access Word)
beside_there t p a g access begins same table =
    sym (ap place_of (sym (aligned_reach t p a access begins.aligned)
    ∙ same_page t p 0xfffff000 a g 0 access (sym same) (aligned_reach t p 0xfffff000 access refl ∙ table)))
