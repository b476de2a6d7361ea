-- What the answers say of what is reached.
use Rattle.std.proofs.Common.{◌≡◌, ℕ, ◌/◌, ◌%◌, ◌<◌, true, false, cond, length, refl, sym, ap, ◌∙◌, subst, arith, Some}
use Rattle.std.specs.Prelude.{Result, Ok, Err, IfOk, is_some}
use Rattle.pip_base.specs.declared.types.Access.{Access}
use Rattle.pip_base.specs.declared.types.Size.{Size}
use Rattle.pip_base.specs.declared.types.Size.TheVariants.{Byte}
use Rattle.pip_base.specs.Memory.{Memory, put_word, word_at}
use Rattle.pip_model.specs.Events.{below_of}
use Rattle.pip_model.specs.Happens.{read_of, written_over}
use Rattle.pip_model.specs.Layout.{LaysOut}
use Rattle.pip_model.specs.Reach.{Alignment, Faulted, Place, Reached, is_misaligned, reach, reach_by_row}
use Rattle.pip_model.specs.Partitions.{IsHeld}
use Rattle.pip_model.specs.Sound.{IsSound}
use Rattle.pip_model.specs.Tree.{Node, Tree, find_node, node, row_at, vpage, word_of}
use Rattle.pip_model.proofs.Trees.Numbers.{reached_small}
use Rattle.pip_model.proofs.Frames.Stored.{reached_frame, reached_page, reached_word, stored_lays, stored_sound}
use Rattle.pip_mmu.specs.Answers.{load_answer, place_answer, store_answer, tree_stored, word_in}
use Rattle.pip_mmu.specs.Faults.{access_fault}
use Rattle.pip_mmu.specs.declared.faults.AccessFault.{AccessFault}

-- ---- from a translation to a place

-- an access that is aligned reaches what one of a byte does
pub placed : (t : Tree) (part va : ℕ) (size : Size) (a : Access) (q : Reached) → is_misaligned va size ≡ false
    → q ≡ reach t part va a Byte → place_answer q ≡ place_answer (reach t part va a size)
placed t part va size a q aligned reached = ap place_answer (reached
    ∙ sym (ap (λ b. cond b (Faulted Alignment) (reach_by_row t va a (row_at (node t part).rows (vpage va)))) aligned))

-- ---- from a place back to what is reached

-- the answer of a place is of a place
pub place_back : (q : Reached) (p : ℕ × ℕ) → Ok p ≡ place_answer q → q ≡ Place p.0 p.1
place_back (Place g i) p e = let same : p ≡ (g, i) = cc in ap (λ (r : ℕ × ℕ). Place r.0 r.1) (sym same)
place_back (Faulted f) p e = cc

-- a fault is the answer of a load and of a store
pub load_fault : (t : Tree) (va : ℕ) (size : Size) (q : Reached) (f : AccessFault) → Err f ≡ place_answer q
    → Err f ≡ load_answer t va size q
load_fault t va size (Place g i) f e = cc
load_fault t va size (Faulted k) f e = let same : f ≡ access_fault k = cc in ap Err same

pub store_fault : (q : Reached) (f : AccessFault) → Err f ≡ place_answer q → Err f ≡ store_answer q
store_fault (Place g i) f e = cc
store_fault (Faulted k) f e = let same : f ≡ access_fault k = cc in ap Err same

-- nothing is stored after a fault
pub fault_stays : (t : Tree) (va : ℕ) (size : Size) (x : ℕ) (q : Reached) (f : AccessFault) (m : Memory) → IsSound t
    → LaysOut t m → Err f ≡ place_answer q → IsHeld (tree_stored t va size x q) m
fault_stays t va size x (Place g i) f m s lays e = cc
fault_stays t va size x (Faulted k) f m s lays e = (s, lays)

module _ (t : Tree) (m : Memory) (part va : ℕ) (size : Size) (a : Access) (x : Node) (s : IsSound t) (lays : LaysOut t
    m) (found : find_node t part ≡ Some x) (p : ℕ × ℕ) (is : Ok p ≡ place_answer (reach t part va a size)) where
  place_is : reach t part va a size ≡ Place p.0 p.1
  place_is = place_back (reach t part va a size) p is

  -- the place is in a frame of the memory
  pub place_inside : p.0 < length m
  unfolding place_is
  place_inside =
      let below = reached_frame t s part va p.0 p.1 x a size found place_is in
      let count = lays.count in
      omega arith

  -- a load reads the tree's word
  pub load_is : (w : ℕ) → w ≡ word_at m p.0 p.1
      → Ok (read_of va size w) ≡ load_answer t va size (reach t part va a size)
  unfolding place_is
  load_is w word =
      ap (λ k. Ok (read_of va size k)) (word ∙ reached_word t s part va p.0 p.1 x a size found place_is m lays)
      ∙ ap (load_answer t va size) (sym place_is)

  -- a store answers nothing
  pub store_is : Ok tt ≡ store_answer (reach t part va a size)
  unfolding place_is
  store_is = ap store_answer (sym place_is)

  -- a store leaves the tree with the word written over
  pub stored_is : (y w k : ℕ) (n : Memory) → y < below_of size → w ≡ word_at m p.0 p.1 → k ≡ written_over va size y w
      → n ≡ put_word m p.0 p.1 k → IsHeld (tree_stored t va size y (reach t part va a size)) n
  unfolding place_is
  stored_is y w k n small word over written =
      let page = reached_page t s part va p.0 p.1 x a size found place_is in
      let on : is_some (t.words p.0) ≡ true = ap is_some page.1 in
      let low = reached_small t part va p.0 p.1 a size place_is in
      let frame = reached_frame t s part va p.0 p.1 x a size found place_is in
      let same : k ≡ written_over va size y (word_of (t.words p.0) p.1) =
      over ∙ ap (written_over va size y) (word ∙ reached_word t s part va p.0 p.1 x a size found place_is m lays) in
      let laid = stored_lays t m lays p.0 p.1 (written_over va size y (word_of (t.words p.0) p.1)) on frame low in
      let sound = stored_sound t va p.0 p.1 size y s on low small in
      subst (λ q. IsSound (tree_stored t va size y q) × LaysOut (tree_stored t va size y q) n) (sym place_is) (
        sound,
        subst (LaysOut (tree_stored t va size y (Place p.0 p.1))) (sym (written ∙ ap (put_word m p.0 p.1) same)) laid,
      )

-- whatever page is answered is a frame of the memory
pub answer_inside : (t : Tree) (m : Memory) (part va : ℕ) (size : Size) (a : Access) (x : Node) (s : IsSound t)
    (lays : LaysOut t m) (found : find_node t part ≡ Some x) (r : Result ℕ AccessFault)
    → word_in va r ≡ place_answer (reach t part va a size) → IfOk r (λ frame. frame < length m)
answer_inside t m part va size a x s lays found (Ok frame) is =
    place_inside t m part va size a x s lays found (frame, va % 4096 / 4) is
answer_inside t m part va size a x s lays found (Err f) is = tt

-- whatever is stored, the nodes stay
pub stored_found : (t : Tree) (va : ℕ) (size : Size) (x : ℕ) (q : Reached) (part : ℕ)
    → find_node (tree_stored t va size x q) part ≡ find_node t part
stored_found t va size x (Place g i) part = refl
stored_found t va size x (Faulted f) part = refl
