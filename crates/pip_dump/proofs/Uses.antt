-- What a row's line says of its page.
use Rattle.std.proofs.Common.{◌≡◌, ℕ, ◌+◌, ◌*◌, ◌≤◌, ◌==◌, cond, inl, inr, Bool, true, false, List, [], ◌∷◌, ◌++◌, refl}
use Rattle.std.proofs.Common.{sym, ap, ◌∙◌, append_assoc, arith, Some}
use Rattle.std.specs.Prelude.{Option, bit_and, codes, decimal, not}
use Rattle.pip_base.specs.Rights.{rights_number}
use Rattle.pip_base.specs.declared.rights.Rights.{Rights}
use Rattle.pip_entry.specs.declared.leaf.Leaf.{Leaf}
use Rattle.pip_entry.specs.declared.leaf.Leaf.TheVariants.{Page}
use Rattle.pip_entry.specs.Sh1.{packed_sh1}
use Rattle.pip_entry.specs.declared.shadows.Sh1.{Sh1}
use Rattle.pip_entry.specs.declared.shadows.Sh1.TheVariants.{Free, Descriptor, Config, Lent}
use Rattle.pip_model.specs.Dump.{kind_text, rights_text, row_line, row_text, use_text}
use Rattle.pip_model.specs.FullRows.{FullRow, full_row, given_word, use_of}
use Rattle.pip_model.specs.Lists.{has}
use Rattle.pip_model.specs.Sound.{IsSound}
use Rattle.pip_model.specs.Text.{word_text}
use Rattle.pip_model.specs.Tree.{Node, Row, Tree, config, hidden, holder}
use Rattle.pip_dump.specs.Lines.{view_between}
use Rattle.pip_model.proofs.Trees.Children.{holder_back}
use Rattle.pip_model.proofs.Frames.Laid.{born_place, filled, use_bounds}
use Rattle.pip_model.proofs.Trees.Lookup.{cases_option}
use Rattle.pip_model.proofs.Frames.Shadows.{given_free, given_none, given_some}

pub marks : (r : ℕ) (a b : Bool) → a ≡ (bit_and r 2 == 2) → b ≡ (bit_and r 4 == 4)
    → 114 ∷ cond a 119 45 ∷ cond b 120 45 ∷ [] ≡ rights_text r
marks r a b e f = ap (λ z. 114 ∷ cond z 119 45 ∷ cond b 120 45 ∷ []) e
    ∙ ap (λ z. 114 ∷ cond (bit_and r 2 == 2) 119 45 ∷ cond z 120 45 ∷ []) f

-- the word for a use
abbrev pub word_for : ℕ → List ℕ
word_for k = cond (k == 1) (codes "desc ") (cond (k == 2) (codes "conf ") (codes "lent "))

kind_is : (y : Node) (g : ℕ) → kind_text y g ≡ word_for (use_of y g)
kind_is y g = go (y.name == g) (has (config y) g)
  where
    go : (b c : Bool)
        → cond b (codes "desc ") (cond c (codes "conf ") (codes "lent ")) ≡ word_for (cond b 1 (cond c 2 3))
    go true c = refl
    go false true = refl
    go false false = refl

module _ (t : Tree) (s : IsSound t) (p g : ℕ) where
  free_text : 0 ≡ given_word t p g → codes "free" ≡ use_text (holder t p g) g
  free_text e = sym (ap (λ o. use_text o g) (given_free t s p g (sym e)))

  given_text : (k v : ℕ) → 1 ≤ k → k ≤ 3 → v * 4096 + k ≡ given_word t p g
      → word_for k ++ word_text (4096 * v) ≡ use_text (holder t p g) g
  given_text k v low high e = elim (cases_option (holder t p g)) [
    | inl none ↦ let zero_word = given_none t p g none in absurd (omega (arith, zero_word, e, low))
    | inr y ↦
        let word = given_some t p g y.0 y.1 in
        let bounds = use_bounds t s y.0 g in
        let place = born_place t s y.0.name y.0 (holder_back t s p g y.0 y.1).0 in
        let most = bounds.1 in
        let even = place.0 in
        let use_is : k ≡ use_of y.0 g = omega (arith, word, e, most, high) in
        let born_is : 4096 * v ≡ y.0.born = omega (arith, word, e, most, high, even) in
        ap (λ z. word_for z ++ word_text (4096 * v)) use_is
        ∙ (ap (λ w. w ++ word_text (4096 * v)) (sym (kind_is y.0 g))
        ∙ (ap (λ a. kind_text y.0 g ++ word_text a) born_is ∙ sym (ap (λ o. use_text o g) y.1)))
  ]

  pub use_free : (w : Sh1) → packed_sh1 w ≡ given_word t p g → w ≡ Free → codes "free" ≡ use_text (holder t p g) g
  unfolding free_text
  use_free w e f = free_text (ap packed_sh1 (sym f) ∙ e)

  pub use_descriptor : (w : Sh1) (v : ℕ) → packed_sh1 w ≡ given_word t p g → w ≡ Descriptor v
      → codes "desc " ++ word_text (4096 * v) ≡ use_text (holder t p g) g
  unfolding given_text
  use_descriptor w v e f = given_text 1 v (omega arith) (omega arith) (ap packed_sh1 (sym f) ∙ e)

  pub use_config : (w : Sh1) (v : ℕ) → packed_sh1 w ≡ given_word t p g → w ≡ Config v
      → codes "conf " ++ word_text (4096 * v) ≡ use_text (holder t p g) g
  unfolding given_text
  use_config w v e f = given_text 2 v (omega arith) (omega arith) (ap packed_sh1 (sym f) ∙ e)

  pub use_lent : (w : Sh1) (v : ℕ) → packed_sh1 w ≡ given_word t p g → w ≡ Lent v
      → codes "lent " ++ word_text (4096 * v) ≡ use_text (holder t p g) g
  unfolding given_text
  use_lent w v e f = given_text 3 v (omega arith) (omega arith) (ap packed_sh1 (sym f) ∙ e)

-- a piece and a rest after a text
pub pushed : (old piece rest : List ℕ) (mid new : List ℕ) → mid ≡ old ++ piece → new ≡ mid ++ rest
    → new ≡ old ++ (piece ++ rest)
pushed old piece rest mid new first second = second ∙ (ap (λ l. l ++ rest) first ∙ append_assoc old piece rest)

-- a word and an address after a text
pub worded : (old mid new kind said : List ℕ) (n v : ℕ) → mid ≡ old ++ kind → new ≡ mid ++ word_text (4096 * n) → n ≡ v
    → kind ++ word_text (4096 * v) ≡ said → new ≡ old ++ said
worded old mid new kind said n v first second same e =
    second
    ∙ (ap (λ l. l ++ word_text (4096 * n)) first
    ∙ (append_assoc old kind (word_text (4096 * n))
    ∙ ap (λ l. old ++ l) (ap (λ k. kind ++ word_text (4096 * k)) same ∙ e)))

-- the page that an MMU table's word stands for
pub page_of : (r : FullRow) (o : Option Leaf) (l : Leaf) (frame : ℕ) (user : Bool) (rights : Rights) → o ≡ Some l
    → l ≡ Page frame user rights → o ≡ Some (Page r.frame r.user (record { 0 = r.rights }))
    → (frame ≡ r.frame) × (user ≡ r.user) × (rights_number rights ≡ r.rights)
page_of r o l frame user rights a b c =
    let same : Some (Page frame user rights) ≡ Some (Page r.frame r.user (record { 0 = r.rights })) =
    ap Some (sym b) ∙ (sym a ∙ c) in
    (cc, cc, let both : rights ≡ record { 0 = r.rights } = cc in ap rights_number both)

-- the pieces of a row's line, as they are written
lined : (front v u : List ℕ) → (front ++ (codes " " ++ v ++ codes " ")) ++ (u ++ codes "\n")
    ≡ front ++ codes " " ++ v ++ codes " " ++ u ++ codes "\n"
lined front v u =
    ap (λ l. l ++ (u ++ codes "\n"))
    (sym (append_assoc (front ++ codes " ") v (codes " ") ∙ append_assoc front (codes " ") (v ++ codes " ")))
    ∙ sym (append_assoc (front ++ codes " " ++ v ++ codes " ") u (codes "\n"))

-- the pieces of a row's line
pub row_is : (t : Tree) (x : Node) (q : Row) (r : FullRow) (v frame rights : ℕ) (user : Bool)
    → Some r ≡ full_row t x (Some q) → v ≡ q.at → frame ≡ r.frame → rights ≡ r.rights → user ≡ r.user
    → (codes "row " ++ word_text (4096 * v) ++ codes " " ++ decimal frame ++ codes " " ++ rights_text rights
    ++ view_between user) ++ (use_text (holder t x.name q.frame) q.frame ++ codes "\n") ≡ row_text t x q
row_is t x q r v frame rights user e a f n w =
    let same : r ≡ filled t x q = cc in
    lined (codes "row " ++ word_text (4096 * v) ++ codes " " ++ decimal frame ++ codes " " ++ rights_text rights)
    (cond user (codes "user") (codes "hidden")) (use_text (holder t x.name q.frame) q.frame)
    ∙ (λ i. row_line (4096 * a i) ((f ∙ ap (λ z. z.frame) same) i) (rights_text ((n ∙ ap (λ z. z.rights) same) i))
    ((ap (λ b. cond b (codes "user") (codes "hidden")) w
    ∙ (ap (λ z. cond z.user (codes "user") (codes "hidden")) same ∙ turned (hidden t q.frame))) i)
    (use_text (holder t x.name q.frame) q.frame))
  where
    turned : (b : Bool) → cond (not b) (codes "user") (codes "hidden") ≡ cond b (codes "hidden") (codes "user")
    turned true = refl
    turned false = refl

-- who uses its page
pub given_is : (t : Tree) (x : Node) (q : Row) (r : FullRow) → Some r ≡ full_row t x (Some q)
    → r.given ≡ given_word t x.name q.frame
given_is t x q r e = let same : r ≡ filled t x q = cc in ap (λ z. z.given) same
