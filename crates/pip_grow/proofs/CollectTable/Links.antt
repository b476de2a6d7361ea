-- What pages hold that are linked into a chain.
use Rattle.std.proofs.Common.{◌≡◌, ◌≢◌, ℕ, ◌<◌, cond, inl, inr, List, [], ◌∷◌, length, map, refl, sym, ap, ◌∙◌, subst}
use Rattle.std.proofs.Common.{arith, eq-eqb, ne_eqb, Option, Some}
use Rattle.std.proofs.lemmas.Bool.{cases_eq}
use Rattle.pip_base.specs.declared.types.Pair.{Pair}
use Rattle.pip_base.specs.Memory.{IsMemory, Memory, word_at, zero_frame}
use Rattle.pip_base.proofs.Memory.{IsMemory-put, IsMemory-zero, length-put_word, length-zero_frame, word_at-put_frame}
use Rattle.pip_base.proofs.Memory.{word_at-put_index, word_at-put_same, word_at-zero_frame, word_at-zero_same}
use Rattle.pip_model.specs.Collect.{first_va, chain_word, words_with_chain}
use Rattle.pip_model.specs.Lists.{In}
use Rattle.pip_space.specs.Tables.{page_list}
use Rattle.pip_grow.specs.Links.{ArePagesIn, link_page, links}

-- ---- one page

pub length-link : (m : Memory) (f next : ℕ) → length (link_page m f next) ≡ length m
length-link m f next = length-put_word (zero_frame m f) f 0 next ∙ length-zero_frame m f

module _ (m : Memory) (shape : IsMemory m) (f : ℕ) (inside : f < length m) (next : ℕ) where
  zeroed_in : f < length (zero_frame m f)
  zeroed_in = let count = length-zero_frame m f in omega arith

  IsMemory-link : IsMemory (link_page m f next)
  unfolding zeroed_in
  IsMemory-link = IsMemory-put (zero_frame m f) f 0 next (IsMemory-zero m f shape) zeroed_in

  -- its own words
  link_here : (i : ℕ) → word_at (link_page m f next) f i ≡ chain_word next i
  unfolding zeroed_in
  link_here i = elim (cases_eq i 0) [
    | inl e ↦
        ap (word_at (link_page m f next) f) e
        ∙ (word_at-put_same (zero_frame m f) f 0 next (IsMemory-zero m f shape) zeroed_in (omega arith)
        ∙ sym (ap (λ b. cond b next 0) (eq-eqb i 0 e)))
    | inr ne ↦
        word_at-put_index (zero_frame m f) f 0 next f i (IsMemory-zero m f shape) zeroed_in (omega arith) ne
        ∙ (word_at-zero_same m f i inside ∙ sym (ap (λ b. cond b next 0) (ne_eqb i 0 ne)))
  ]

  -- those of another frame
  link_other : (g i : ℕ) → g ≢ f → word_at (link_page m f next) g i ≡ word_at m g i
  unfolding zeroed_in
  link_other g i ne = word_at-put_frame (zero_frame m f) f 0 next g i (IsMemory-zero m f shape) zeroed_in (omega arith)
      ne ∙ word_at-zero_frame m f g i ne

-- ---- all pages

pub length-links : (m : Memory) (gs : List Pair) → length (links m gs) ≡ length m
length-links m [] = refl
length-links m (g ∷ gs) = length-link (links m gs) g.frame (first_va gs) ∙ length-links m gs

rest_in : (m : Memory) (g : Pair) (gs : List Pair) → ArePagesIn m (g ∷ gs) → ArePagesIn m gs
rest_in m g gs inside h i = inside h (inr i)

first_in : (m : Memory) (g : Pair) (gs : List Pair) → ArePagesIn m (g ∷ gs) → g.frame < length (links m gs)
first_in m g gs inside = let count = length-links m gs in let low = inside g (inl refl) in omega arith

pub IsMemory-links : (m : Memory) (gs : List Pair) → IsMemory m → ArePagesIn m gs → IsMemory (links m gs)
unfolding rest_in first_in
IsMemory-links m [] shape inside = shape
IsMemory-links m (g ∷ gs) shape inside = IsMemory-link (links m gs) (IsMemory-links m gs shape (rest_in m g gs inside))
    g.frame (first_in m g gs inside) (first_va gs)

-- other frames keep their words
pub links_other : (m : Memory) (gs : List Pair) → IsMemory m → ArePagesIn m gs → (f i : ℕ)
    → (In f (map (λ (g : Pair). g.frame) gs) → ⊥) → word_at (links m gs) f i ≡ word_at m f i
unfolding rest_in first_in
links_other m [] shape inside f i off = refl
links_other m (g ∷ gs) shape inside f i off =
    link_other (links m gs) (IsMemory-links m gs shape (rest_in m g gs inside)) g.frame (first_in m g gs inside)
    (first_va gs) f i (λ e. off (inl e))
    ∙ links_other m gs shape (rest_in m g gs inside) f i (λ j. off (inr j))

-- so each page that can be read has its words
pub links_words : (m : Memory) (gs : List Pair) → IsMemory m → ArePagesIn m gs → (words : ℕ → Option (ℕ → ℕ)) (f i : ℕ)
    → ((w : ℕ → ℕ) → words f ≡ Some w → word_at m f i ≡ w i) → (w : ℕ → ℕ) → words_with_chain gs words f ≡ Some w
    → word_at (links m gs) f i ≡ w i
unfolding rest_in first_in
links_words m [] shape inside words f i old w e = old w e
links_words m (g ∷ gs) shape inside words f i old w e = elim (cases_eq g.frame f) [
  | inl same ↦
      let here : Some (chain_word (first_va gs)) ≡ Some w =
      sym (ap (λ b. cond b (Some (chain_word (first_va gs))) (words_with_chain gs words f)) (eq-eqb g.frame f same))
      ∙ e in
      let is : chain_word (first_va gs) ≡ w = cc in
      ap (λ k. word_at (links m (g ∷ gs)) k i) (sym same) ∙ (link_here (links m gs) (IsMemory-links m gs shape
      (rest_in m g gs inside)) g.frame (first_in m g gs inside) (first_va gs) i ∙ ap (λ k. k i) is)
  | inr ne ↦
      link_other (links m gs) (IsMemory-links m gs shape (rest_in m g gs inside)) g.frame (first_in m g gs inside)
      (first_va gs) f i (λ q. ne (sym q))
      ∙ links_words m gs shape (rest_in m g gs inside) words f i old w
      (sym (ap (λ b. cond b (Some (chain_word (first_va gs))) (words_with_chain gs words f)) (ne_eqb g.frame f ne))
      ∙ e)
]

-- a page that is there is one of the memory's
pub last_in : (m : Memory) (o : Option Pair) (p : Pair) → o ≡ Some p → ArePagesIn m (page_list o) → p.frame < length m
last_in m o p e inside = inside p (subst (λ z. In p (page_list z)) (sym e) (inl refl))

-- the words of a page that isn't among them
pub linked_other : (gs : List Pair) (words : ℕ → Option (ℕ → ℕ)) (f : ℕ) → (In f (map (λ (g : Pair). g.frame) gs) → ⊥)
    → words_with_chain gs words f ≡ words f
linked_other [] words f off = refl
linked_other (g ∷ gs) words f off = ap (λ b. cond b (Some (chain_word (first_va gs))) (words_with_chain gs words f))
    (ne_eqb g.frame f (λ e. off (inl (sym e)))) ∙ linked_other gs words f (λ i. off (inr i))
