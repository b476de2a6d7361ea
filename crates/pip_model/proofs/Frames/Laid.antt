-- From a tree that frames lay out to its nodes: each node is a space in them, each page of words has its words.
use Rattle.std.proofs.Common.{◌≡◌, ℕ, ◌%◌, ◌^◌, ◌<◌, ◌≤◌, ◌==◌, ◌&&◌, ◌⊎◌, inl, inr, Bool, true, false, not, cond, refl}
use Rattle.std.proofs.Common.{sym, ap, ◌∙◌, subst, arith, map, Option, Some, None}
use Rattle.pip_model.specs.Accepted.{IsUnheld}
use Rattle.std.specs.Prelude.{find, is_some}
use Rattle.std.proofs.lemmas.Bool.{both_ways, cases_Bool}
use Rattle.std.proofs.lemmas.Grind.{numeral_and}
use Rattle.pip_base.specs.Memory.{Memory, word_at}
use Rattle.pip_model.specs.Layout.{LaysOut, config_word, layout, owned_word}
use Rattle.pip_model.specs.FullRows.{FullRow, cells_of, from_word, full_rows, given_word, given_by, vpage_in_parent}
use Rattle.pip_model.specs.FullRows.{vpage_of_page, place_word, use_of}
use Rattle.pip_model.specs.NodeWords.{Role, role, role_word}
use Rattle.pip_model.specs.Lists.{In, has}
use Rattle.pip_model.specs.Midway.{find_other}
use Rattle.pip_model.specs.NodeIn.{IsSecondShadowWord, IsFullRow, IsFirstShadowWord, Space}
use Rattle.pip_model.specs.Sound.{AreAmong, IsSound}
use Rattle.pip_model.specs.Tree.{Node, Row, Tree, config, dir, find_node, held_pages, hidden, holder, nodes, row_at}
use Rattle.pip_model.specs.Tree.{row_pages, vpage, word_of}
use Rattle.pip_model.proofs.OnLists.Members.{Distinct-left, In-append_right, find_in, has_in, in_has}
use Rattle.pip_model.proofs.Trees.Ancestors.{holds_up, name-page, parent_in, root_is_top}
use Rattle.pip_model.proofs.Trees.Free.{hidden_by, hidden_from, row_found, unheld-config}
use Rattle.pip_model.proofs.Trees.Numbers.{at_small, page_positive, page_small, rights_small}
use Rattle.pip_model.proofs.Frames.ReadBack.{config-layout, full-at}
use Rattle.pip_model.proofs.Trees.Lookup.{cases_option, found_in, found_name, other_in}
use Rattle.pip_model.proofs.Trees.Children.{holder_back}
use Rattle.pip_model.proofs.Trees.RowLookup.{held_config, held_row, place_row, row_in}
use Rattle.pip_model.proofs.Nodes.Roles.{has_index, role_config}

and_not : (a b : Bool) → b ≡ true → (a && not b) ≡ false
and_not true b e = rw e
and_not false b e = refl

module _ (t : Tree) (s : IsSound t) where
  -- what a node holds is a frame but 0
  pub held_frame : (a g : ℕ) (x : Node) → find_node t a ≡ Some x → In g (held_pages x) → (1 ≤ g) × (g < t.frames)
  held_frame a g x e h = (page_positive t g s x (found_in t a x e) h, page_small t g s x (found_in t a x e) h)

  -- a page of configuration has no words of its own
  pub no_words : (f : ℕ) (x : Node) → In x (nodes t) → In f (config x) → t.words f ≡ None
  no_words f x i h = elim (cases_option (t.words f)) [
    | inl e ↦ e
    | inr w ↦ absurd (both_ways (is_some (t.words f))
        (s.words f ∙ and_not (has (row_pages t.root) f) (hidden t f) (hidden_by t f x i h)) (rw w.1))
  ]

  -- so a page of words is no configuration
  pub words_apart : (f : ℕ) (w : ℕ → ℕ) (x : Node) → t.words f ≡ Some w → In x (nodes t) → In f (config x) → ⊥
  words_apart f w x e i h = let n = no_words f x i h in cc

  -- a page that can be read is in a row of the root, and is not hidden
  pub words_row : (f : ℕ) (w : ℕ → ℕ) → t.words f ≡ Some w → In f (row_pages t.root) × (hidden t f ≡ false)
  words_row f w e = let p = parts (has (row_pages t.root) f) (hidden t f) (rw (← s.words f, e)) in
      (has_in f (row_pages t.root) p.0, p.1)
    where
      parts : (a b : Bool) → (a && not b) ≡ true → (a ≡ true) × (b ≡ false)
      parts true false h = (refl, refl)
      parts true true h = cc
      parts false b h = cc

  -- and a page in a row of any node that is not hidden can be read
  pub open_words : (f : ℕ) (y : Node) → In y (nodes t) → In f (row_pages y) → hidden t f ≡ false
      → (w : ℕ → ℕ) × (t.words f ≡ Some w)
  open_words f y i r h = elim (cases_option (t.words f)) [
    | inr w ↦ w
    | inl none ↦
        let on : has (row_pages t.root) f ≡ true = in_has f (row_pages t.root) root_row in
        let some : is_some (t.words f) ≡ true = s.words f ∙ both (has (row_pages t.root) f) (hidden t f) on h in
        let off : is_some (t.words f) ≡ false = rw none in
        absurd (both_ways (is_some (t.words f)) off some)
  ]
    where
      both : (a b : Bool) → a ≡ true → b ≡ false → (a && not b) ≡ true
      both true b k e = rw e
      both false b k e = cc

      root_row : In f (row_pages t.root)
      root_row = elim (root_is_top t s y i) [
        | inl e ↦ rw e r
        | inr a ↦ holds_up t f s t.root y a (In-append_right f (config y) (row_pages y) r)
      ]

  -- so can a page that no child of its partition holds
  pub free_words : (p f : ℕ) (y : Node) → find_node t p ≡ Some y → In f (row_pages y) → IsUnheld t p f
      → (w : ℕ → ℕ) × (t.words f ≡ Some w)
  free_words p f y e r u = open_words f y (found_in t p y e) r (go (cases_Bool (hidden t f)))
    where
      go : (hidden t f ≡ true) ⊎ (hidden t f ≡ false) → hidden t f ≡ false
      go (inr off) = off
      go (inl on) = let (z, j, h) = hidden_from t f on in
          absurd (unheld-config t p f s y (found_in t p y e) (found_name t p y e) r u z j h)

  -- ---- the words of shadows

  -- a child's birthplace is a place, and not 0
  pub born_place : (b : ℕ) (y : Node) → find_other t b ≡ Some y
      → (y.born % 4096 ≡ 0) × (4096 ≤ y.born) × (y.born < 2 ^ 32)
  born_place b y e =
      let i = other_in t b y e in
      let (p, j, u) = parent_in t.root t.others s.parents_come_first y i in
      let d = y.base.descriptor in
      let born : y.born ≡ d.va = (s.named_by_descriptor y i).born in
      let even : d.va % 4096 ≡ 0 = (s.lent y p i j u).aligned d (inl refl) in
      let (r, k, at, pg) = row_found p (vpage d.va) d.frame ((s.lent y p i j u).placed d (inl refl)) in
      let small = at_small t s p j r k in
      let first = (s.tables p j).first r k in
      let some : 1 ≤ r.at = omega arith in
      (omega arith, omega arith, omega arith)

  -- a use is one of three
  pub use_bounds : (y : Node) (g : ℕ) → (1 ≤ use_of y g) × (use_of y g ≤ 3)
  use_bounds y g = go (y.name == g) (has (config y) g)
    where
      go : (b c : Bool) → (1 ≤ cond {A = ℕ} b 1 (cond {A = ℕ} c 2 3)) × (cond {A = ℕ} b 1 (cond {A = ℕ} c 2 3) ≤ 3)
      go true c = (omega arith, omega arith)
      go false true = (omega arith, omega arith)
      go false false = (omega arith, omega arith)

  -- a word of a first shadow is packed
  pub given_packed : (p g : ℕ) → IsFirstShadowWord (given_word t p g)
  unfolding given_word
  given_packed p g = go (holder t p g) refl
    where
      go : (o : Option Node) → holder t p g ≡ o → IsFirstShadowWord (given_by o g)
      go None e = inl refl
      go (Some y) e =
          let back = holder_back t s p g y e in
          let born = born_place y.name y back.0 in
          let uses = use_bounds y g in
          let b0 = born.0 in
          let b1 = born.1 in
          let b2 = born.2 in
          let k0 = uses.0 in
          let k1 = uses.1 in
          inr (omega arith, omega arith, omega arith, omega arith)

  place_packed : (g : ℕ) (p : Node) → In p (nodes t) → IsSecondShadowWord (place_word (vpage_of_page p g))
  place_packed g p i = go (vpage_of_page p g) refl
    where
      go : (o : Option ℕ) → vpage_of_page p g ≡ o → IsSecondShadowWord (place_word o)
      go None e = inl refl
      go (Some v) e =
          let row = place_row p (s.pages_apart p i) g v e in
          let in_rows = row_in p v row.0 row.1 in
          let small = at_small t s p i row.0 in_rows.0 in
          let at = in_rows.1 in
          inr (omega arith, omega arith)

  -- so is a word of a second shadow
  pub from_packed : (x : Node) (g : ℕ) → IsSecondShadowWord (from_word t x g)
  unfolding from_word place_packed
  from_packed x g = go (x.name == t.root.name) (find_node t x.up) refl
    where
      go : (b : Bool) (o : Option Node) → find_node t x.up ≡ o
          → IsSecondShadowWord (cond b 0 (place_word (vpage_in_parent o g)))
      go true o e = inl refl
      go false None e = inl refl
      go false (Some p) e = place_packed g p (found_in t x.up p e)

-- ---- full rows

-- a row with what the tables and the shadows say of it
abbrev pub filled : Tree → Node → Row → FullRow
filled t x q = record {
  frame = q.frame;
  rights = q.rights;
  user = not (hidden t q.frame);
  given = given_word t x.name q.frame;
  from = from_word t x q.frame;
}

-- a full row comes of a row
pub full_back : (t : Tree) (x : Node) (v : ℕ) (r : FullRow) → full_rows t x v ≡ Some r
    → (q : Row) × (row_at x.rows v ≡ Some q) × (r ≡ filled t x q)
full_back t x v r e = elim (cases_option (row_at x.rows v)) [
  | inl none ↦ let bad : None ≡ Some r = rw (← full-at t x v None none) e in cc
  | inr q ↦ let both : Some (filled t x q.0) ≡ Some r = rw (← full-at t x v (Some q.0) q.1) e in (q.0, q.1, cc)
]

-- a full row is that of a row where its five parts are
pub full_is : (t : Tree) (x : Node) (v : ℕ) (q : Row) (r : FullRow) → row_at x.rows v ≡ Some q → r.frame ≡ q.frame
    → r.rights ≡ q.rights → r.user ≡ not (hidden t q.frame) → r.given ≡ given_word t x.name q.frame
    → r.from ≡ from_word t x q.frame → Some r ≡ full_rows t x v
full_is t x v q r e f g u n w =
    let same : r ≡ filled t x q = λ i. record { frame = f i; rights = g i; user = u i; given = n i; from = w i } in
    rw (same, ← full-at t x v (Some q) e)

-- two nodes of two trees have one full row where they have one row and say the same of its page
pub full_same : (t u : Tree) (x y : Node) (v : ℕ) → row_at x.rows v ≡ row_at y.rows v
    → ((q : Row) → row_at x.rows v ≡ Some q → (hidden t q.frame ≡ hidden u q.frame)
    × (given_word t x.name q.frame ≡ given_word u y.name q.frame) × (from_word t x q.frame ≡ from_word u y q.frame))
    → full_rows t x v ≡ full_rows u y v
full_same t u x y v rows says = elim (cases_option (row_at x.rows v)) [
  | inl e ↦ cc (full-at t x v None e, full-at u y v None (sym rows ∙ e))
  | inr q ↦
      let k = says q.0 q.1 in
      full-at t x v (Some q.0) q.1 ∙ full_is u y v q.0 (filled t x q.0) (cc (q.1)) refl refl (rw k.0) k.1 k.2
]

-- ---- the words of a node's frames

module _ (t : Tree) (s : IsSound t) where
  -- the layout of a page of configuration is the word of its role
  pub layout_config : (f i : ℕ) (x : Node) (r : Role) → In x (nodes t) → role x f ≡ Some r
      → layout t f i ≡ role_word x (cells_of (full_rows t x)) r i
  layout_config f i x r j e = rw (config-layout t f i x s j (role_config x f r e), e)

  -- so the memory has the words of each node
  pub laid_node : (m : Memory) → LaysOut t m → (f i : ℕ) (x : Node) (r : Role) → In x (nodes t) → role x f ≡ Some r
      → i < 1024 → word_at m f i ≡ role_word x (cells_of (full_rows t x)) r i
  unfolding layout_config
  laid_node m lays f i x r j e i_in =
      lays.word f i (page_small t f s x j (held_config x f (role_config x f r e))) i_in ∙ layout_config f i x r j e

odd : (r : ℕ) → AreAmong 1 r → r % 2 ≡ 1
odd r h = rw (← numeral_and 0 r refl) h

-- each node of the tree is a space in the frames
pub laid_space : (t : Tree) → IsSound t → (m : Memory) → LaysOut t m → (a : ℕ) (x : Node) → find_node t a ≡ Some x
    → Space m x (full_rows t x)
laid_space t s m lays a x e =
    let i = found_in t a x e in
    let count = lays.count in
    let large = s.boot_root.large in
    record {
      node = record {
        shape = lays.shape;
        small = omega arith;
        inside = λ f h. omega (arith, page_small t f s x i (held_config x f h));
        once = Distinct-left (config x) (row_pages x) (s.pages_apart x i).pages;
        dirs = (s.tables x i).differ;
        small_dirs = (s.tables x i).small;
        is_named = name-page t s x i;
        each = λ f j r is j_in. laid_node t s m lays f j x r i is j_in;
      };
      packed = λ v r is.
          let (q, at, same) = full_back t x v r is in
          let j = (row_in x v q at).0 in
          let below = page_small t q.frame s x i (held_row x v q at) in
          rw same (record {
            frame = omega (arith, below, large);
            read = odd q.rights (s.readable x i q j);
            low =
                rights_small t s x i q j;
            given = given_packed t s x.name q.frame;
            from = from_packed t s x q.frame;
          });
      tabled = λ v r is.
          let (q, at, same) = full_back t x v r is in
          let j = row_in x v q at in
          let here : q.at ≡ v = j.1 in
          let small = at_small t s x i q j.0 in (
            omega arith,
            has_index x v (rw (← here) ((s.tables x i).tabled q j.0)),
          );
    }

-- ---- the words of other frames

-- a page that can be read has its words
pub laid_words : (t : Tree) → IsSound t → (m : Memory) → LaysOut t m → (f i : ℕ) (w : ℕ → ℕ) → t.words f ≡ Some w
    → i < 1024 → word_at m f i ≡ w i
unfolding layout
laid_words t s m lays f i w e i_in =
    let r = (words_row t s f w e).0 in
    lays.word f i (page_small t f s t.root (inl refl) (In-append_right f (config t.root) (row_pages t.root) r)) i_in
    ∙ ap (λ o. cond (is_some o) (word_of o i) (owned_word t f i (find (λ z. has (config z) f) (nodes t)))) e

-- the layout of a frame that is no page of words and nobody's configuration is 0
pub layout_none : (t : Tree) (f i : ℕ) → t.words f ≡ None → ((x : Node) → In x (nodes t) → In f (config x) → ⊥)
    → layout t f i ≡ 0
unfolding layout
layout_none t f i e n =
    rw (e, nobody)
  where
    nobody : find (λ z. has (config z) f) (nodes t) ≡ None
    nobody = elim (cases_option (find (λ z. has (config z) f) (nodes t))) [
      | inl none ↦ none
      | inr y ↦ let k = find_in (λ z. has (config z) f) y.0 (nodes t) y.1 in
          absurd (n y.0 k.0 (has_in f (config y.0) k.1))
    ]

-- so it holds zeros
pub laid_none : (t : Tree) (m : Memory) → LaysOut t m → (f i : ℕ) → f < t.frames → i < 1024 → t.words f ≡ None
    → ((x : Node) → In x (nodes t) → In f (config x) → ⊥) → word_at m f i ≡ 0
laid_none t m lays f i f_in i_in e n = lays.word f i f_in i_in ∙ layout_none t f i e n

-- frame 0 is nobody's configuration
pub zero_owner : (t : Tree) → IsSound t → (x : Node) → In x (nodes t) → In 0 (config x) → ⊥
zero_owner t s x i h = let some = page_positive t 0 s x i (held_config x 0 h) in absurd (omega arith)

-- and no page of words
pub no_words_zero : (t : Tree) → IsSound t → t.words 0 ≡ None
no_words_zero t s = elim (cases_option (t.words 0)) [
  | inl none ↦ none
  | inr w ↦
      let r = (words_row t s 0 w.0 w.1).0 in
      let some = page_positive t 0 s t.root (inl refl) (In-append_right 0 (config t.root) (row_pages t.root) r) in
      absurd (omega arith)
]

-- so it holds zeros
pub laid_zero : (t : Tree) → IsSound t → (m : Memory) → LaysOut t m → (i : ℕ) → i < 1024 → word_at m 0 i ≡ 0
laid_zero t s m lays i i_in = let some = s.boot_root.small in
    laid_none t m lays 0 i (omega arith) i_in (no_words_zero t s) (zero_owner t s)
