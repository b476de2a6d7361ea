-- A child that ends with all below it, from one write to the next.
use Rattle.std.proofs.Common.{◌≡◌, ℕ, cond, inl, inr, Bool, true, false, List, [], ◌∷◌, ◌++◌, refl, sym, ap, ◌∙◌, subst}
use Rattle.std.proofs.Common.{arith, Some, length}
use Rattle.std.specs.Prelude.{flat_map}
use Rattle.std.proofs.lemmas.Bool.{both_ways, cases_Bool}
use Rattle.pip_base.specs.Memory.{IsMemory, Memory, word_at}
use Rattle.pip_model.specs.Boot.{zero_words}
use Rattle.pip_model.specs.Layout.{LaysOut}
use Rattle.pip_model.specs.Lists.{In, has}
use Rattle.pip_model.specs.Midway.{PagesStay, tree_rows}
use Rattle.pip_model.specs.Sound.{IsSound}
use Rattle.pip_model.specs.Tree.{Node, Tree, below, config, find_node, held_pages, hidden, holds}
use Rattle.pip_model.proofs.Frames.Laid.{free_words, held_frame, words_row, zero_owner}
use Rattle.pip_model.proofs.Frames.Lays.{PagesStay-refl}
use Rattle.pip_model.proofs.Frames.Midway.{laid_midway}
use Rattle.pip_model.proofs.Nodes.Writes.{Space-kept}
use Rattle.pip_model.proofs.OnLists.Members.{In-append_cases, has_in, in_has}
use Rattle.pip_model.proofs.Trees.Free.{hidden_from, tests_agree}
use Rattle.pip_model.proofs.Trees.Lookup.{found_in, other_found}
use Rattle.pip_kern.proofs.Taking.{taking_start}
use Rattle.pip_kern.specs.Taking.{HasTaken, rows_taken}
use Rattle.pip_birth.specs.Ending.{CanEnd, HasCleared, IsEnding, without}
use Rattle.pip_birth.proofs.CreatePartition.Writes.{IsMemory-zero_frames, length-zero_frames, word_at-zero_frames}
use Rattle.pip_birth.proofs.CreatePartition.Writes.{word_at-zero_frames_same}
use Rattle.pip_birth.proofs.DeletePartition.Tree.{ended_lays, ended_sound, midway_left, open_then, parent, parent_row}
use Rattle.pip_birth.proofs.DeletePartition.Tree.{unheld}

module _ (t : Tree) (y : Node) (can : CanEnd t y) where
  abbrev u : Tree
  u = without t y

  s : IsSound t
  s = can.sound

  y_found : find_node t y.name ≡ Some y
  unfolding s
  y_found = other_found t s y.name y can.found

  -- ---- pages that can be read

  -- what it held can be read in the tree without it
  words_then : (g : ℕ) → In g (held_pages y) → (w : ℕ → ℕ) × (u.words g ≡ Some w)
  words_then g h = let (p, e, f) = parent t y can in
      free_words u (ended_sound t y can) y.up g p f (parent_row t y can g h) (unheld t y can g h)

  -- and what could be read before
  words_still : (g : ℕ) (w : ℕ → ℕ) → t.words g ≡ Some w → (v : ℕ → ℕ) × (u.words g ≡ Some v)
  words_still g w e = go (has (flat_map config (below t y.name)) g)
    where
      go : (b : Bool) → (v : ℕ → ℕ) × (cond b (Some zero_words) (t.words g) ≡ Some v)
      go true = (zero_words, refl)
      go false = (w, e)

  stay_then : (m n l : Memory) → PagesStay t m n → PagesStay u n l → PagesStay t m l
  unfolding words_still
  stay_then m n l old new = record {
    words = λ f i w e. let (v, k) = words_still f w e in new.words f i v k ∙ old.words f i w e;
    frame_zero = λ i. new.frame_zero i ∙ old.frame_zero i;
  }

  -- ---- the steps

  -- at first no page has come back
  pub ending_start : (m : Memory) → LaysOut t m → IsEnding t y m [] m
  unfolding s
  ending_start m lays = record {
    midway = taking_start u m (tree_rows t) y.up (midway_left t y can m (tree_rows t) (laid_midway t s m lays));
    stay = PagesStay-refl t m;
    back = λ g i. absurd i;
    zeros = λ g i h. absurd h;
  }

  module _ (m n : Memory) (gs : List ℕ) (k : IsEnding t y m gs n) where
    -- a page that is no configuration comes back
    pub ending_taken : (l : Memory) (g : ℕ) → In g (held_pages y) → hidden t g ≡ false
        → HasTaken u (tree_rows t) y.up (gs ++ g ∷ []) n l → IsEnding t y m (gs ++ g ∷ []) l
    unfolding words_then stay_then
    ending_taken l g held shown h = record {
      midway = h.midway;
      stay = stay_then m n l k.stay h.stay;
      back = λ f i. elim (In-append_cases f gs (g ∷ []) i) [
        | inl j ↦ k.back f j
        | inr j ↦ elim j [ inl e ↦ subst (λ z. In z (held_pages y)) (sym e) held | inr none ↦ absurd none ]
      ];
      zeros = λ f i on hides low. elim (In-append_cases f gs (g ∷ []) on) [
        | inl j ↦ let (w, e) = words_then f (k.back f j) in h.stay.words f i w e ∙ k.zeros f i j hides low
        | inr j ↦ elim j [
          | inl e ↦ absurd (both_ways (hidden t g) shown (cc))
          | inr none ↦ absurd none
        ]
      ];
    }

    -- pages of configuration come back, and are zeroed
    pub ending_cleared : (l : Memory) (fs : List ℕ) → ((g : ℕ) → In g fs → In g (held_pages y) × (hidden t g ≡ true))
        → HasCleared u (tree_rows t) y.up (gs ++ fs) fs n l → IsEnding t y m (gs ++ fs) l
    unfolding s y_found words_then stay_then
    ending_cleared l fs of_y h =
        let b = h.between in
        let old : PagesStay t m b = stay_then m n b k.stay h.taken.stay in
        let word : (f i : ℕ) → (In f fs → ⊥) → word_at l f i ≡ word_at b f i =
        λ f i off. rw (h.zeroed, word_at-zero_frames b fs f i off) in
        let shape : IsMemory l = rw h.zeroed (IsMemory-zero_frames b fs h.taken.midway.shape) in
        let count : length l ≡ length b = rw (h.zeroed, length-zero_frames b fs) in
        record {
          midway = record {
            shape = shape;
            count = cc (h.taken.midway.count);
            each = λ a x e. Space-kept b l x (rows_taken (tree_rows t) y.up (gs ++ fs) a) (h.taken.midway.each a x e)
                shape count (λ f i on low. word f i (λ j. open_then t y can f (of_y f j).0 x (found_in u a x e) on));
            like = h.taken.midway.like;
          };
          stay = record {
            words = λ f i w e. word f i (λ j. both_ways (hidden t f) (words_row t s f w e).1 (of_y f j).1)
                ∙ old.words f i w e;
            frame_zero = λ i. word 0 i (λ j. let (x, d, c) = hidden_from t 0 (of_y 0 j).1 in
                zero_owner t s x d c) ∙ old.frame_zero i;
          };
          back = λ f i. elim (In-append_cases f gs fs i) [ inl j ↦ k.back f j | inr j ↦ (of_y f j).0 ];
          zeros = λ f i on hides low. elim (cases_Bool (has fs f)) [
            | inl there ↦
                let j = has_in f fs there in
                let inside = (held_frame t s y.name f y y_found (of_y f j).0).1 in
                let all_frames = h.taken.midway.count in
                rw (h.zeroed, word_at-zero_frames_same b fs f i j (omega (arith, inside, all_frames)))
            | inr not_there ↦
                let out : In f fs → ⊥ = λ j. both_ways (has fs f) not_there (in_has f fs j) in
                elim (In-append_cases f gs fs on) [
                  | inl j ↦ let (w, e) = words_then f (k.back f j) in
                      word f i out ∙ (h.taken.stay.words f i w e ∙ k.zeros f i j hides low)
                  | inr j ↦ absurd (out j)
                ]
          ];
        }

  -- when all that it held has come back, it has ended
  pub ending_done : (m n : Memory) (gs : List ℕ) → LaysOut t m → IsEnding t y m gs n
      → ((g : ℕ) → In g (held_pages y) → In g gs) → LaysOut u n
  ending_done m n gs lays k all = ended_lays t y can m n gs lays (λ g. tests_agree (has gs g) (holds y g) (λ e.
      in_has g (held_pages y) (k.back g (has_in g gs e))) (λ e. in_has g gs (all g (has_in g (held_pages y) e)))) k
