-- Back from the nodes to the tree: a memory that holds each node and each page of words lays the tree out.
use Rattle.std.proofs.Common.{◌≡◌, ℕ, zero, suc, ◌+◌, ◌-◌, ◌*◌, ◌<◌, ◌≤◌, inl, inr, true, false, cond, [], ◌++◌, map}
use Rattle.std.proofs.Common.{length, refl, sym, ap, ◌∙◌, subst, arith, Option, Some, None}
use Rattle.std.specs.Prelude.{find, flat_map, is_some}
use Rattle.std.proofs.lemmas.Bool.{both_ways, cases_Bool, cases_eq, cases_lt}
use Rattle.pip_base.specs.Memory.{IsMemory, Memory, word_at}
use Rattle.pip_model.specs.Boot.{boot_root, first_user, rows_from, tables_from, tables_of_root}
use Rattle.pip_model.specs.Layout.{LaysOut, config_word, layout, owned_word}
use Rattle.pip_model.specs.FullRows.{FullRow, cells_of, full_rows}
use Rattle.pip_model.specs.NodeWords.{Role, role, role_word}
use Rattle.pip_model.specs.Lists.{In, has}
use Rattle.pip_model.specs.Midway.{HoldsNodes, OffChainStays, PagesStay}
use Rattle.pip_model.specs.NodeIn.{NodeIn, OthersStay}
use Rattle.pip_model.specs.Sound.{IsSound}
use Rattle.pip_model.specs.Tree.{Node, Tree, config, find_node, held_pages, hidden, nodes, row_pages, table_pairs}
use Rattle.pip_model.specs.Tree.{word_of}
use Rattle.pip_model.proofs.OnLists.Members.{In-append_cases, In-append_left, In-append_right, find_in, find_none}
use Rattle.pip_model.proofs.OnLists.Members.{has_in, in_has}
use Rattle.pip_model.proofs.Trees.Free.{hidden_from}
use Rattle.pip_model.proofs.Trees.Lookup.{cases_option, found_in, in_found}
use Rattle.pip_model.proofs.Nodes.Roles.{config_role}
use Rattle.pip_model.proofs.Nodes.Writes.{Space-same}
use Rattle.pip_model.proofs.Frames.Laid.{laid_words, laid_zero, open_words, words_apart, zero_owner}

-- ---- every frame but 0 is somebody's

in_tables_from : (k i g x : ℕ) → g ≤ x → x < g + 3 * (k + 1)
    → In x (map (λ q. q.frame) (flat_map table_pairs (tables_from k i g) ++ []))
in_tables_from zero i g x low high = elim (cases_eq x g) [
  | inl e ↦ inl e
  | inr a ↦ inr (elim (cases_eq x (g + 1)) [ inl e ↦ inl e | inr b ↦ inr (inl (omega arith)) ])
]
in_tables_from (suc k) i g x low high = elim (cases_eq x g) [
  | inl e ↦ inl e
  | inr a ↦ inr (elim (cases_eq x (g + 1)) [
    | inl e ↦ inl e
    | inr b ↦ inr (elim (cases_eq x (g + 2)) [
      | inl e ↦ inl e
      | inr c ↦
          inr (in_tables_from k (i + 1) (g + 3) x (omega arith) (omega arith))
    ])
  ])
]

in_rows_from : (k v g x : ℕ) → g ≤ x → x < g + k + 1 → In x (map (λ r. r.frame) (rows_from k v g))
in_rows_from zero v g x low high = inl (omega arith)
in_rows_from (suc k) v g x low high =
    elim (cases_eq x g) [ inl e ↦ inl e | inr n ↦ inr (in_rows_from k (v + 1) (g + 1) x (omega arith) (omega arith)) ]

base_page : (n x : ℕ) → 1 ≤ x → x < 6 → In x (config (boot_root n))
base_page n x low high = elim (cases_eq x 1) [
  | inl e ↦ inl e
  | inr a ↦ inr (elim (cases_eq x 2) [
    | inl e ↦ inl e
    | inr b ↦ inr (elim (cases_eq x 3) [
      | inl e ↦ inl e
      | inr c ↦ inr (elim (cases_eq x 4) [ inl e ↦ inl e | inr d ↦ inr (inl (omega arith)) ])
    ])
  ])
]

-- the root holds every frame but 0
root_whole : (n : ℕ) → 16 ≤ n → n ≤ 4096 → (x : ℕ) → 1 ≤ x → x < n → In x (held_pages (boot_root n))
root_whole n least most x low high = elim (cases_lt x 6) [
  | inl h ↦ In-append_left x (config (boot_root n)) (row_pages (boot_root n)) (base_page n x low h)
  | inr h ↦ elim (cases_lt x (first_user n)) [
    | inl k ↦ In-append_left x (config (boot_root n)) (row_pages (boot_root n))
        (inr (inr (inr (inr (inr (in_tables_from (tables_of_root n) 1 6 x h (omega arith)))))))
    | inr k ↦ In-append_right x (config (boot_root n)) (row_pages (boot_root n))
        (in_rows_from (n - first_user n - 1) 1024 (first_user n) x k (omega arith))
  ]
]

-- so the root of a sound tree holds it
pub frame_held : (t : Tree) → IsSound t → (f : ℕ) → 1 ≤ f → f < t.frames → In f (held_pages t.root)
frame_held t s f low high = subst (In f) (sym (ap held_pages s.boot_root.same))
    (root_whole t.frames s.boot_root.small s.boot_root.large f low high)

-- so a frame that is nobody's configuration and can't be read is frame 0
pub only_zero : (t : Tree) → IsSound t → (f : ℕ) → f < t.frames → t.words f ≡ None
    → ((x : Node) → In x (nodes t) → In f (config x) → ⊥) → f ≡ 0
only_zero t s f f_in none free = elim (cases_eq f 0) [
  | inl e ↦ e
  | inr ne ↦ elim (In-append_cases f (config t.root) (row_pages t.root) (frame_held t s f (omega arith) f_in)) [
    | inl c ↦ absurd (free t.root (inl refl) c)
    | inr r ↦ elim (cases_Bool (hidden t f)) [
      | inl on ↦ let (x, i, h) = hidden_from t f on in absurd (free x i h)
      | inr off ↦ let (w, e) = open_words t s f t.root (inl refl) r off in cc
    ]
  ]
]

-- ---- the tree is laid out

-- a memory that holds each node, each page of words and nothing else
pub lays_from : (t : Tree) (m : Memory) → IsMemory m → length m ≡ t.frames
    → ((x : Node) → In x (nodes t) → (f i : ℕ) (r : Role) → role x f ≡ Some r → i < 1024
    → word_at m f i ≡ role_word x (cells_of (full_rows t x)) r i)
    → ((f i : ℕ) (w : ℕ → ℕ) → t.words f ≡ Some w → i < 1024 → word_at m f i ≡ w i)
    → ((f i : ℕ) → f < t.frames → i < 1024 → t.words f ≡ None → ((x : Node) → In x (nodes t) → In f (config x) → ⊥)
    → word_at m f i ≡ 0)
    → LaysOut t m
unfolding layout
lays_from t m shape count each words none = record {
  shape = shape;
  count = count;
  word = λ f i f_in i_in. elim (cases_option (t.words f)) [
    | inr w ↦ cc (words f i w.0 w.1 i_in, w.1)
    | inl e ↦ cc (word f i f_in i_in e)
  ];
}
  where
    word : (f i : ℕ) → f < t.frames → i < 1024 → t.words f ≡ None
        → word_at m f i ≡ owned_word t f i (find (λ z. has (config z) f) (nodes t))
    word f i f_in i_in e = elim (cases_option (find (λ z. has (config z) f) (nodes t))) [
      | inl nobody ↦
          cc (none f i f_in i_in e (λ x j h. let off : has (config x) f ≡ false =
          find_none (λ z. has (config z) f) x (nodes t) nobody j in let on : has (config x) f ≡ true =
          in_has f (config x) h in absurd (both_ways (has (config x) f) off on)))
      | inr y ↦
          let k = find_in (λ z. has (config z) f) y.0 (nodes t) y.1 in
          let r = config_role y.0 f (has_in f (config y.0) k.1) in
          cc (each y.0 k.0 f i r.0 r.1 i_in, r.1, y.1)
    ]

-- of a sound tree the nodes by name, the pages of words and frame 0 are enough
pub lays_sound : (t : Tree) → IsSound t → (m : Memory) → IsMemory m → length m ≡ t.frames
    → ((a : ℕ) (x : Node) → find_node t a ≡ Some x → NodeIn m x (cells_of (full_rows t x)))
    → ((f i : ℕ) (w : ℕ → ℕ) → t.words f ≡ Some w → i < 1024 → word_at m f i ≡ w i)
    → ((i : ℕ) → i < 1024 → word_at m 0 i ≡ 0)
    → LaysOut t m
lays_sound t s m shape count each words zeros = lays_from t m shape count
    (λ x j f i r e i_in. (each x.name x (in_found t s x j)).each f i r e i_in)
    words
    (λ f i f_in i_in e free. rw (only_zero t s f f_in e free, zeros i i_in))

-- the middle of a call is over where each node's rows are those of the new tree
pub lays_rows : (t : Tree) → IsSound t → (m : Memory) → IsMemory m → length m ≡ t.frames
    → (rows : ℕ → ℕ → Option FullRow)
    → HoldsNodes m t rows
    → ((a : ℕ) (x : Node) (v : ℕ) → find_node t a ≡ Some x → rows a v ≡ full_rows t x v)
    → ((f i : ℕ) (w : ℕ → ℕ) → t.words f ≡ Some w → i < 1024 → word_at m f i ≡ w i)
    → ((i : ℕ) → i < 1024 → word_at m 0 i ≡ 0)
    → LaysOut t m
lays_rows t s m shape count rows each same words zeros = lays_sound t s m shape count
    (λ a x e. (Space-same m x (rows a) (full_rows t x) (λ v. same a x v e) (each a x e)).node) words zeros

-- ---- pages that stay

-- writing into a node's frames leaves the pages that can be read, and frame 0
pub pages_stay : (t : Tree) → IsSound t → (m n : Memory) (x : Node) → In x (nodes t) → OthersStay x m n
    → PagesStay t m n
pages_stay t s m n x i stay = record {
  words = λ f j w e. stay.words f j (λ h. words_apart t s f w x e i h);
  frame_zero = λ j. stay.words 0 j (zero_owner t s x i);
}

-- so does writing into frames of a chain
pub pages_stay_chain : (t : Tree) → IsSound t → (m n : Memory) (caller : ℕ) → OffChainStays t caller m n
    → PagesStay t m n
pages_stay_chain t s m n caller stay = record {
  words = λ f j w e. stay.words f j (λ a x d r h. words_apart t s f w x e (found_in t a x d) h);
  frame_zero = λ j. stay.words 0 j (λ a x d r h. zero_owner t s x (found_in t a x d) h);
}

-- in one memory they stay
pub PagesStay-refl : (t : Tree) (m : Memory) → PagesStay t m m
PagesStay-refl t m = record { words = λ f i w e. refl; frame_zero = λ i. refl }

-- what stays twice stays
pub PagesStay-trans : (t : Tree) (a b c : Memory) → PagesStay t a b → PagesStay t b c → PagesStay t a c
PagesStay-trans t a b c ab bc = record {
  words = λ f i w e. bc.words f i w e ∙ ab.words f i w e;
  frame_zero = λ i. bc.frame_zero i ∙ ab.frame_zero i;
}

-- so where they stay, each page of words has the words that were laid out
pub words_stay : (t : Tree) → IsSound t → (m n : Memory) → LaysOut t m → PagesStay t m n → (f i : ℕ) (w : ℕ → ℕ)
    → t.words f ≡ Some w → i < 1024 → word_at n f i ≡ w i
words_stay t s m n lays stay f i w e i_in = stay.words f i w e ∙ laid_words t s m lays f i w e i_in

-- and frame 0 has zeros
pub zero_stays : (t : Tree) → IsSound t → (m n : Memory) → LaysOut t m → PagesStay t m n → (i : ℕ) → i < 1024
    → word_at n 0 i ≡ 0
zero_stays t s m n lays stay i i_in = stay.frame_zero i ∙ laid_zero t s m lays i i_in
