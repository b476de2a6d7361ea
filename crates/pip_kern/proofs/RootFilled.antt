-- The root as it is given tables and rows, and the end: the boot tree is laid out.
use Rattle.std.proofs.Common.{◌≡◌, ℕ, ◌+◌, ◌-◌, ◌<◌, ◌≤◌, ◌&&◌, ◌⊎◌, inl, inr, true, false, List, [], ◌∷◌, ◌++◌, map}
use Rattle.std.proofs.Common.{refl, sym, ap, ◌∙◌, subst, arith, Option, Some, None, eq-eqb, ne_eqb}
use Rattle.std.specs.Prelude.{nat_le, nat_lt}
use Rattle.std.proofs.lemmas.Bool.Decides.{nat_tests}
use Rattle.std.proofs.lemmas.Bool.{cases_eq, cases_lt}
use Rattle.std.proofs.lemmas.List.{length-append}
use Rattle.pip_base.specs.declared.types.Pair.{Pair}
use Rattle.pip_base.specs.Memory.{Memory}
use Rattle.pip_model.specs.Boot.{boot_root, boot_table, boot_tree, first_user, frame_of_root, tables_of_root}
use Rattle.pip_model.specs.Booting.{user_row}
use Rattle.pip_model.specs.Layout.{LaysOut}
use Rattle.pip_model.specs.FullRows.{FullRow, cells_of, full_rows}
use Rattle.pip_model.specs.declared.level.Level.{Level}
use Rattle.pip_model.specs.Lists.{In}
use Rattle.pip_model.specs.Partitions.{HasPartition}
use Rattle.pip_model.specs.NodeIn.{HasTableFor, NodeIn, OthersStay, Space, put_row}
use Rattle.pip_model.specs.Tree.{Node, Table, config, find_node, has_table, pairs, table_pairs}
use Rattle.pip_model.proofs.Trees.Boot.{boot-sound, root-frame_between, root-frame_last, root-frame_none}
use Rattle.pip_model.proofs.Frames.Booting.{boot_page, root_no_row, root_room, root_row}
use Rattle.pip_model.proofs.Frames.Lays.{lays_sound}
use Rattle.pip_model.proofs.Trees.Lookup.{found_in}
use Rattle.pip_model.proofs.OnLists.Members.{In-append_cases, In-map, In-map_from}
use Rattle.pip_model.proofs.Nodes.Writes.{Space-same}
use Rattle.pip_model.proofs.Calls.Prepare.{pairs_with}
use Rattle.pip_model.specs.Prepare.{with_table}
use Rattle.pip_space.specs.Tables.{CanInstall, HasInstall}
use Rattle.pip_kern.specs.Boot.{HoldsRoot, no_rows, pages_from, root_with}

-- ---- tables

-- the root is given the table of a further index in the first three frames of zeros
module _ (n i g : ℕ) (ts : List Table) (m : Memory) (h : HoldsRoot n i g ts no_rows m)
    (i_few : i ≤ 5) (j : ℕ) (j_in : i ≤ j) (j_small : j < 1024) (room : g + 3 ≤ n) where
  abbrev x : Node
  x = root_with n ts

  abbrev b : Table
  b = boot_table j g

  new_page : (f : ℕ) → In f (map (λ (p : Pair). p.frame) (table_pairs b)) → (g ≤ f) × (f < g + 3)
  new_page f (inl e) = (omega arith, omega arith)
  new_page f (inr (inl e)) = (omega arith, omega arith)
  new_page f (inr (inr (inl e))) = (omega arith, omega arith)
  new_page f (inr (inr (inr none))) = absurd none

  can : CanInstall m x b []
  can = record {
    new = λ on. let (t, there, e) = In-map_from (λ (t : Table). t.index) j ts on in omega arith;
    inside = λ p on. omega (arith, new_page p.frame (In-map (λ (p : Pair). p.frame) p (table_pairs b) on));
    further = λ f on old. omega (arith, new_page f on, h.pages f old);
    differ = (
      λ e. elim e [ inl a ↦ omega arith | inr e ↦ elim e [ inl a ↦ omega arith | inr none ↦ none ] ],
      (λ e. elim e [ inl a ↦ omega arith | inr none ↦ none ], (λ none. none, tt)),
    );
    listed = omega arith;
    given = omega arith;
  }

  -- what the call asks for
  pub has_install : (part index : ℕ) (slot : List Pair) → part ≡ 1 → j ≡ index → table_pairs (boot_table 0 g) ≡ slot
      → HasInstall m part index slot None
  has_install part index slot name at pages = record {
    node = x;
    cells = cells_of no_rows;
    table = b;
    is_in = h.space.node;
    name = sym name;
    index = at;
    pages = pages;
    can = can;
  }

  after : (k : Memory) → Space k (with_table b [] x) no_rows × OthersStay (with_table b [] x) m k
      → HoldsRoot n (j + 1) (g + 3) (ts ++ b ∷ []) no_rows k
  after k (space, stay) = record {
    count = stay.count ∙ h.count;
    space = space;
    few = omega (arith, length-append ts (b ∷ []));
    indexes = λ t on. elim (In-append_cases t ts (b ∷ []) on) [
      | inl old ↦ omega arith
      | inr new ↦ elim new [ inl e ↦ omega (arith, ap (λ (t : Table). t.index) e) | inr none ↦ absurd none ]
    ];
    pages = pages;
    zeros = λ f w out. stay.words f w (λ on. let p = pages f on in
        elim out [ inl a ↦ omega arith | inr c ↦ omega arith ])
        ∙ h.zeros f w (elim out [ inl a ↦ inl a | inr c ↦ inr (omega arith) ]);
  }
    where
      pages : (f : ℕ) → In f (config (root_with n (ts ++ b ∷ []))) → (1 ≤ f) × (f < g + 3)
      pages f on =
          let (p, i, e) = In-map_from (λ (p : Pair). p.frame) f (pairs (root_with n (ts ++ b ∷ []))) on in
          elim (pairs_with p x b [] i) [
            | inl old ↦ let low = h.pages p.frame (In-map (λ (p : Pair). p.frame) p (pairs x) old) in
                (omega arith, omega arith)
            | inr new ↦ let low = new_page p.frame (In-map (λ (p : Pair). p.frame) p (table_pairs b) new) in
                let some = h.pages 1 (inl refl) in (omega arith, omega arith)
          ]

  -- what it makes
  pub installed : (k : Memory) (part index : ℕ) (slot : List Pair) → part ≡ 1 → j ≡ index
      → table_pairs (boot_table 0 g) ≡ slot
      → ((y : Node) (rows : ℕ → Option FullRow) (c : Table) → Space m y rows → y.name ≡ part → c.index ≡ index
      → table_pairs c ≡ slot → CanInstall m y c []
      → Space k (with_table c [] y) rows × OthersStay (with_table c [] y) m k)
      → HoldsRoot n (j + 1) (g + 3) (ts ++ b ∷ []) no_rows k
  installed k part index slot name at pages says = after k (says x no_rows b h.space (sym name) at pages can)

-- ---- rows

-- the row of a user page is put
module _ (n : ℕ) (least : 16 ≤ n) (most : n ≤ 4096) (rows : ℕ → Option FullRow) (m : Memory) (h : HoldsRoot n 1024
    (first_user n) (boot_root n).tables rows m) (v f : ℕ) (at : Some f ≡ frame_of_root n v) where
  -- what the call asks for
  pub has_room : (part u : ℕ) → part ≡ 1 → v ≡ u → HasTableFor m part u
  has_room part u name place = record {
    held = record { node = boot_root n; cells = cells_of rows; is_in = h.space.node; name = sym name };
    tabled = rw (← place) (root_room n least most v f (sym at));
  }

  -- what it makes
  pub mapped : (k : Memory) (part u : ℕ) (r : FullRow) (more : ℕ → Option FullRow) → part ≡ 1 → v ≡ u → r ≡ user_row f
      → ((w : ℕ) → put_row rows v (Some (user_row f)) w ≡ more w)
      → ((y : Node) (old : ℕ → Option FullRow) → Space m y old → y.name ≡ part → Space k y (put_row old u (Some r)))
      → ((y : Node) (cells : Level → ℕ → ℕ) → NodeIn m y cells → y.name ≡ part → OthersStay y m k)
      → HoldsRoot n 1024 (first_user n) (boot_root n).tables more k
  mapped k part u r more name place row same says others =
      let stay = others (boot_root n) (cells_of rows) h.space.node (sym name) in
      record {
        count = stay.count ∙ h.count;
        space = Space-same k (boot_root n) (put_row rows v (Some (user_row f))) more same
            (rw place (subst (λ w. Space k (boot_root n) (put_row rows u (Some w))) row
            (says (boot_root n) rows h.space (sym name))));
        few = h.few;
        indexes = h.indexes;
        pages = h.pages;
        zeros = λ g w out. stay.words g w (λ on. let p = h.pages g on in
            elim out [ inl a ↦ omega arith | inr c ↦ omega arith ]) ∙ h.zeros g w out;
      }

-- ---- pages one after another

-- the rows of pages at a vpage among theirs
pages_at : (g count v f : ℕ) → 1024 ≤ v → v < 1024 + count → f ≡ g + (v - 1024)
    → pages_from g count v ≡ Some (user_row f)
pages_at g count v f low high e =
    let on : (nat_le 1024 v && nat_lt v (1024 + count)) ≡ true = grind (arith, nat_tests) in
    rw on (rw (← e))

-- and at others
pages_off : (g count v : ℕ) → (v < 1024) ⊎ (1024 + count ≤ v) → pages_from g count v ≡ None
pages_off g count v out =
    let off : (nat_le 1024 v && nat_lt v (1024 + count)) ≡ false =
    elim out [ inl a ↦ grind (arith, nat_tests) | inr b ↦ grind (arith, nat_tests) ] in
    rw off refl

-- none yet
pages_none : (g v : ℕ) → no_rows v ≡ pages_from g 0 v
pages_none g v = sym (pages_off g 0 v (elim (cases_lt v 1024) [ inl a ↦ inl a | inr b ↦ inr (omega arith) ]))

pub no_pages : (n count : ℕ) (m : Memory) → count ≡ 0 → HoldsRoot n 1024 (first_user n) (boot_root n).tables no_rows m
    → HoldsRoot n 1024 (first_user n) (boot_root n).tables (pages_from (first_user n) count) m
no_pages n count m e h = record {
  count = h.count;
  space = Space-same m (boot_root n) no_rows (pages_from (first_user n) count)
      (λ v. cc (pages_none (first_user n) v)) h.space;
  few = h.few;
  indexes = h.indexes;
  pages = h.pages;
  zeros = h.zeros;
}

-- one more
pub pages_more : (g count v f : ℕ) → v ≡ 1024 + count → f ≡ g + count → (w : ℕ)
    → put_row (pages_from g count) v (Some (user_row f)) w ≡ pages_from g (count + 1) w
pages_more g count v f place page w = elim (cases_eq w v) [
  | inl e ↦ rw (eq-eqb w v e) (sym (pages_at g (count + 1) w f (omega arith) (omega arith) (omega arith)))
  | inr ne ↦ rw (ne_eqb w v ne) (elim (cases_lt w 1024) [
    | inl low ↦ cc (pages_off g count w (inl low), pages_off g (count + 1) w (inl low))
    | inr high ↦ elim (cases_lt w (1024 + count)) [
      | inl old ↦ pages_at g count w (g + (w - 1024)) high old refl
          ∙ sym (pages_at g (count + 1) w (g + (w - 1024)) high (omega arith) refl)
      | inr off ↦ cc (pages_off g count w (inr off), pages_off g (count + 1) w (inr (omega arith)))
    ]
  ])
]

module _ (n : ℕ) (least : 16 ≤ n) (most : n ≤ 4096) where
  -- the root has the frames after its tables from vpage 1024 on
  pub frame_at_place : (v f : ℕ) → first_user n ≤ f → f < n - 1 → v ≡ 1024 + (f - first_user n)
      → Some f ≡ frame_of_root n v
  frame_at_place v f low high place =
      root-frame_between n (tables_of_root n) v f refl (omega arith) (omega arith) (omega arith)

  -- and the last one as that of the handlers: these are all its rows
  pub pages_all : (v f count : ℕ) → v ≡ 1048575 → f ≡ n - 1 → count ≡ n - 1 - first_user n → (w : ℕ)
      → put_row (pages_from (first_user n) count) v (Some (user_row f)) w ≡ full_rows (boot_tree n) (boot_root n) w
  pages_all v f count place page all w = elim (cases_eq w v) [
    | inl e ↦ rw (eq-eqb w v e) (root_row n least most w f (sym (root-frame_last n w f least most (cc) page)))
    | inr ne ↦ rw (ne_eqb w v ne) (elim (cases_lt w 1024) [
      | inl low ↦ pages_off (first_user n) count w (inl low) ∙ root_no_row n least most w
          (sym (root-frame_none n (tables_of_root n) w refl (λ z. ne (cc)) (inl low)))
      | inr high ↦ elim (cases_lt w (1024 + count)) [
        | inl on ↦
            pages_at (first_user n) count w (first_user n + (w - 1024)) high on refl
            ∙ root_row n least most w (first_user n + (w - 1024)) (sym (root-frame_between n (tables_of_root n) w
            (first_user n + (w - 1024)) refl high (omega arith) refl))
        | inr off ↦ pages_off (first_user n) count w (inr off) ∙ root_no_row n least most w
            (sym (root-frame_none n (tables_of_root n) w refl (λ z. ne (cc)) (inr (omega arith))))
      ]
    ])
  ]

  -- the root with all its tables and rows, and zeros beside it, is the boot tree
  pub boot_done : (m : Memory) → HoldsRoot n 1024 (first_user n) (boot_root n).tables
      (full_rows (boot_tree n) (boot_root n)) m → LaysOut (boot_tree n) m
  boot_done m h = lays_sound (boot_tree n) (boot-sound n least most) m h.space.node.shape h.count
      (λ a x e. elim (found_in (boot_tree n) a x e) [
        | inl same ↦ rw same h.space.node
        | inr none ↦ absurd none
      ])
      (λ f i w e i_in. let (high, zero) = boot_page n f w e in h.zeros f i (inr high) ∙ sym (rw zero))
      (λ i i_in. h.zeros 0 i (inl refl))

-- where the boot tree is laid out, its root is there
pub root_stands : (n : ℕ) → 16 ≤ n → n ≤ 4096 → (m : Memory) → LaysOut (boot_tree n) m → (part : ℕ) → part ≡ 1
    → HasPartition m part
root_stands n least most m lays part is = record {
  tree = boot_tree n;
  node = boot_root n;
  sound = boot-sound n least most;
  laid = lays;
  found = rw is;
}
