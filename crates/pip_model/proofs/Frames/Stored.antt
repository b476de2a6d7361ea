-- A store in frames: a word that is written into a page that was reached is the tree's, and the tree stays sound.
use Rattle.std.proofs.Common.{◌≡◌, ℕ, ◌<◌, ◌==◌, ◌&&◌, Bool, true, false, cond, refl, sym, ap, ◌∙◌, subst, arith}
use Rattle.std.proofs.Common.{eqb-true, length, Option, Some}
use Rattle.std.specs.Prelude.{find, is_some}
use Rattle.pip_base.specs.declared.types.Access.{Access}
use Rattle.pip_base.specs.declared.types.Size.{Size}
use Rattle.pip_base.specs.Memory.{Memory, put_word, word_at}
use Rattle.pip_base.proofs.Memory.{IsMemory-put, length-put_word, word_at-put}
use Rattle.pip_model.specs.Events.{below_of}
use Rattle.pip_model.specs.Happens.{with_word, written_over}
use Rattle.pip_model.specs.Layout.{LaysOut, layout, owned_word}
use Rattle.pip_model.specs.FullRows.{from_word, full_rows, given_word}
use Rattle.pip_model.specs.Lists.{In, has}
use Rattle.pip_model.specs.Reach.{Place, reach}
use Rattle.pip_model.specs.Sound.{IsSound}
use Rattle.pip_model.specs.Tree.{Node, Tree, config, find_node, nodes, row_pages, word_of}
use Rattle.pip_model.proofs.Frames.Laid.{laid_words, open_words}
use Rattle.pip_model.proofs.Locality.OneEvent.{reached_row}
use Rattle.pip_model.proofs.Trees.Lookup.{found_in, node_is}
use Rattle.pip_model.proofs.OnLists.Members.{In-append_right}
use Rattle.pip_model.proofs.Trees.Numbers.{page_small, reached_small}
use Rattle.pip_model.proofs.Events.Reach.{place_open}
use Rattle.pip_model.proofs.Events.Soundness.{read_small, store-sound}

-- ---- what is reached

module _ (t : Tree) (s : IsSound t) (p va g i : ℕ) (x : Node) (a : Access) (z : Size) (found : find_node t p ≡ Some x)
    (e : reach t p va a z ≡ Place g i) where
  in_rows : In g (row_pages x)
  in_rows = rw (← node_is t p x found) (reached_row t p va g i a z e)

  -- a page that can be read
  pub reached_page : (w : ℕ → ℕ) × (t.words g ≡ Some w)
  unfolding in_rows
  reached_page = open_words t s g x (found_in t p x found) in_rows (place_open t p va g i a z e)

  -- which is a frame
  pub reached_frame : g < t.frames
  unfolding in_rows
  reached_frame = page_small t g s x (found_in t p x found) (In-append_right g (config x) (row_pages x) in_rows)

  -- and has its words in the memory
  pub reached_word : (m : Memory) → LaysOut t m → word_at m g i ≡ word_of (t.words g) i
  unfolding reached_page
  reached_word m lays =
      let page = reached_page in
      cc (laid_words t s m lays g i page.0 page.1 (reached_small t p va g i a z e), page.1)

-- ---- what is written

word_written : (b : Bool) (i x j rest : ℕ) (o v : Option (ℕ → ℕ)) → (b ≡ true → o ≡ v) → is_some v ≡ true
    → cond (is_some (cond b (Some (λ k. cond (k == i) x (word_of v k))) o))
    (word_of (cond b (Some (λ k. cond (k == i) x (word_of v k))) o) j) rest
    ≡ cond (b && (j == i)) x (cond (is_some o) (word_of o j) rest)
word_written false i x j rest o v same on = refl
word_written true i x j rest o v same on =
    cc (same refl)

-- the layout of a tree with one word stored differs in this word alone
pub stored_layout : (t : Tree) (g i x f j : ℕ) → is_some (t.words g) ≡ true
    → layout (with_word t g i x) f j ≡ cond ((f == g) && (j == i)) x (layout t f j)
unfolding layout full_rows given_word from_word
stored_layout t g i x f j on = word_written (f == g) i x j (owned_word t f j (find (λ y. has (config y) f) (nodes t)))
    (t.words f) (t.words g) (λ e. rw (eqb-true f g e)) on

-- so the memory with the word written lays it out
pub stored_lays : (t : Tree) (m : Memory) → LaysOut t m → (g i x : ℕ) → is_some (t.words g) ≡ true → g < t.frames
    → i < 1024 → LaysOut (with_word t g i x) (put_word m g i x)
stored_lays t m lays g i x on g_in i_in =
    let count = lays.count in
    let inside : g < length m = omega arith in
    record {
      shape = IsMemory-put m g i x lays.shape inside;
      count = cc (length-put_word m g i x);
      word = λ f j f_in j_in. word_at-put m g i x f j lays.shape inside i_in
          ∙ (ap (λ w. cond ((f == g) && (j == i)) x w) (lays.word f j f_in j_in) ∙ sym (stored_layout t g i x f j on));
    }

-- and it is sound, where a store writes what its size allows
pub stored_sound : (t : Tree) (va g i : ℕ) (z : Size) (x : ℕ) → IsSound t → is_some (t.words g) ≡ true → i < 1024
    → x < below_of z → IsSound (with_word t g i (written_over va z x (word_of (t.words g) i)))
stored_sound t va g i z x s on i_in small = store-sound t g i (written_over va z x (word_of (t.words g) i))
    (read_small va z x (word_of (t.words g) i) small (s.numbers g i i_in)) s on
