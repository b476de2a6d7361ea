-- The list of a node: its list pages hold its tables, and what a call makes of them is the node's own words again.
use Rattle.std.specs.Prelude.{◌≡◌, ◌≢◌, ℕ, zero, suc, ◌<◌, ◌≤◌, ◌+◌, ◌-◌, ◌==◌, Bool, true, false, List, [], ◌∷◌, ◌++◌}
use Rattle.std.specs.Prelude.{length, Some, None, cond, nat_lt, slice_set, refl}
use Rattle.std.specs.List.{position_or_len}
use Rattle.std.proofs.Common.{arith, sym, ap, ◌∙◌, inl, inr, get_or, eq-eqb, eqb-true, ne_eqb}
use Rattle.std.proofs.lemmas.Bool.{both_ways, cases_lt, lt-ltb}
use Rattle.std.proofs.lemmas.List.Sums.{fails_before_first, passes_at_first}
use Rattle.std.proofs.lemmas.List.{get_or_past}
use Rattle.std.proofs.lemmas.List.Elements.{All-from_get_or}
use Rattle.pip_base.specs.declared.types.Pair.{Pair}
use Rattle.pip_base.specs.Memory.{Memory, word_at}
use Rattle.pip_model.specs.Collect.{front_of, last_first, last_of, last_pair, swap_out}
use Rattle.pip_model.specs.NodeWords.{ListPage, Role, TablePage, list_word, no_table, role, role_word, slots}
use Rattle.pip_model.specs.declared.level.Level.{Level}
use Rattle.pip_model.specs.declared.level.Level.TheVariants.{Mmu, Shadow1, Shadow2}
use Rattle.pip_model.specs.Lists.{Distinct, In}
use Rattle.pip_model.specs.NodeIn.{NodeIn, OthersStay, list_page}
use Rattle.pip_model.specs.Tree.{Node, Table, config, lists}
use Rattle.pip_model.proofs.Nodes.Reads.{list_inside, read_list, table_inside}
use Rattle.pip_model.proofs.Nodes.Roles.{list_role_back, role_config, role_of_list, role_of_table}
use Rattle.pip_model.proofs.OnLists.Members.{same_at_key}
use Rattle.pip_config.specs.Lists.{HasList, HasPages, HasRoomInList, HasSmallFrames, ListIn, ListStays, list_frame}
use Rattle.pip_config.specs.Lists.{IsPlaceOfTable}
use Rattle.pip_config.proofs.Links.{frame_new, frame_old, length_more, link_past}
use Rattle.pip_config.proofs.PageWords.{word_none}

-- ---- a node has a list

-- a page of a node's list
pub node_page : (x : Node) (k : ℕ) → list_frame x.base.list.frame x.more k ≡ (list_page x k).frame
node_page x zero = refl
node_page x (suc k) = refl

-- pages of a node's list differ
list_apart : (x : Node) → Distinct (config x) → (j k : ℕ) → j ≤ length x.more → k ≤ length x.more
    → (list_page x j).frame ≡ (list_page x k).frame → j ≡ k
list_apart x d j k j_in k_in e =
    let a = role_of_list x d j j_in in
    let b = role_of_list x d k k_in in
    let same : Some (ListPage j) ≡ Some (ListPage k) = rw (← a, e, b) in
    cc

in_slots : (ts : List Table) (i : ℕ) (none : Table) → i < length ts → In (get_or ts i none) ts
in_slots [] i none h = absurd (omega arith)
in_slots (t ∷ ts) zero none h = inl refl
in_slots (t ∷ ts) (suc i) none h = inr (in_slots ts i none (omega arith))

module _ (m : Memory) (x : Node) (cells : Level → ℕ → ℕ) (n : NodeIn m x cells) where
  small_table : (t : Table) → In t x.tables → HasSmallFrames t
  small_table t i =
      let few = n.small in
      let a = table_inside m x cells n Mmu t i in
      let b = table_inside m x cells n Shadow1 t i in
      let c = table_inside m x cells n Shadow2 t i in
      record { mmu = omega arith; shadow1 = omega arith; shadow2 = omega arith }

  -- where its pages have room for its tables, the node's list pages hold them
  pub node_list : lists (length x.tables) ≤ length x.more + 1 → ListIn m x.base.list.frame x.more x.tables
  node_list room = record {
    pages = record {
      shape = n.shape;
      inside = λ k h. omega (arith, list_inside m x cells n k h, node_page x k);
      apart = λ j k j_in k_in e. list_apart x n.once j k j_in k_in (rw (← node_page x j, e, node_page x k));
      each = λ k i k_in i_in. rw (node_page x k, read_list m x cells n k k_in i i_in);
    };
    room = room;
    small = All-from_get_or HasSmallFrames x.tables no_table
        (λ i h. small_table (get_or x.tables i no_table) (in_slots x.tables i no_table h));
  }

-- ---- the place of a node's table

member_place : (ts : List Table) (b : Table) → In b ts → (j : ℕ) × (j < length ts) × (get_or ts j no_table ≡ b)
member_place [] b i = absurd i
member_place (t ∷ ts) b (inl e) = (0, omega arith, sym e)
member_place (t ∷ ts) b (inr i) = let (j, h, e) = member_place ts b i in (suc j, omega arith, e)

module _ (m : Memory) (x : Node) (cells : Level → ℕ → ℕ) (n : NodeIn m x cells) (b : Table) (b_in : In b x.tables) where
  abbrev is_b : Table → Bool
  is_b t = t.mmu.frame == b.mmu.frame

  one_index : (t : Table) → In t x.tables → t.index ≡ b.index → t ≡ b
  one_index t i e = same_at_key (λ z. z.index) t b x.tables n.dirs i b_in e

  one_frame : (t : Table) → In t x.tables → t.mmu.frame ≡ b.mmu.frame → t ≡ b
  one_frame t i e =
      let at = role_of_table x n.once Mmu t i in
      let here = role_of_table x n.once Mmu b b_in in
      let same : Some (TablePage Mmu t.index) ≡ Some (TablePage Mmu b.index) = rw (← at, e, here) in
      let index : t.index ≡ b.index = cc in
      one_index t i index

  least : ℕ
  least = position_or_len is_b x.tables

  least_inside : least < length x.tables
  unfolding least
  least_inside = elim (cases_lt (position_or_len is_b x.tables) (length x.tables)) [
    | inl low ↦ low
    | inr high ↦
        let (j, j_in, at) = member_place x.tables b b_in in
        let off : is_b (get_or x.tables j no_table) ≡ false =
        fails_before_first is_b x.tables j no_table (omega arith) in
        let on : is_b (get_or x.tables j no_table) ≡ true = eq-eqb _ _ (rw at) in
        absurd (both_ways (is_b (get_or x.tables j no_table)) off on)
  ]

  pub node_place : (k : ℕ) × IsPlaceOfTable x.tables b k
  unfolding least slots
  node_place = (
    position_or_len is_b x.tables,
    record {
      is_first = let inside : nat_lt (position_or_len is_b x.tables) (length x.tables) ≡ true =
          lt-ltb _ _ least_inside in rw inside;
      inside = least_inside;
      is_table = one_frame (get_or x.tables (position_or_len is_b x.tables) no_table)
          (in_slots x.tables (position_or_len is_b x.tables) no_table least_inside)
          (eqb-true _ _ (passes_at_first is_b x.tables no_table least_inside));
      before = λ j j_in e.
          let low = least_inside in
          let same : get_or x.tables j no_table ≡ b =
          one_index (get_or x.tables j no_table) (in_slots x.tables j no_table (omega arith)) e in
          let off : is_b (get_or x.tables j no_table) ≡ false = fails_before_first is_b x.tables j no_table j_in in
          let on : is_b (get_or x.tables j no_table) ≡ true = eq-eqb _ _ (rw same) in
          both_ways (is_b (get_or x.tables j no_table)) off on;
    },
  )

-- as many list pages as the tables take have room for them
pub listed_room : (x : Node) → length x.more ≡ lists (length x.tables) - 1 → lists (length x.tables) ≤ length x.more + 1
listed_room x e = omega arith

-- ---- and back

module _ (n : Memory) (x : Node) (list : ListIn n x.base.list.frame x.more x.tables) where
  -- the words of a list page are the node's
  pub list_words : (k i : ℕ) → k ≤ length x.more → i < 1024 → word_at n (list_page x k).frame i ≡ list_word x k i
  list_words k i k_in i_in = rw (← node_page x k, list.pages.each k i k_in i_in)

  -- so are those of a page whose role it is
  pub list_role_words : (cells : Level → ℕ → ℕ) (f k i : ℕ) → role x f ≡ Some (ListPage k) → i < 1024
      → word_at n f i ≡ role_word x cells (ListPage k) i
  unfolding role_word
  list_role_words cells f k i e i_in = let (k_in, at) = list_role_back x k f e in
      rw (at, list_words k i k_in i_in)

module _ (x : Node) (m n : Memory) (d : Distinct (config x)) (stay : ListStays x.base.list.frame x.more m n) where
  -- frames that aren't the node's stay
  pub list_others : OthersStay x m n
  list_others = record {
    count = stay.count;
    words = λ f i off. stay.words f i
        (λ k k_in e. off (role_config x f (ListPage k) (rw (e, node_page x k, role_of_list x d k k_in))));
  }

  -- so do its pages of other roles
  pub other_roles : (f i : ℕ) (r : Role) → role x f ≡ Some r → ((k : ℕ) → r ≢ ListPage k)
      → word_at n f i ≡ word_at m f i
  other_roles f i r e other = stay.words f i
      (λ k k_in at. other k (same k (rw (← e, at, node_page x k, role_of_list x d k k_in))))
    where
      same : (k : ℕ) → Some r ≡ Some (ListPage k) → r ≡ ListPage k
      same k h = cc

-- ---- the last of a list

-- what is left of a list and its last
pub front_of-append : {A : Type 0} → (xs : List A) (y : A) → front_of (xs ++ y ∷ []) ≡ xs
front_of-append [] y = refl
front_of-append (x ∷ []) y = refl
front_of-append (x ∷ z ∷ xs) y = rw (front_of-append (z ∷ xs) y)

pub last_pair-append : (gs : List Pair) (g : Pair) → last_pair (gs ++ g ∷ []) ≡ g ∷ []
last_pair-append [] g = refl
last_pair-append (h ∷ []) g = refl
last_pair-append (h ∷ k ∷ gs) g = last_pair-append (k ∷ gs) g

-- a list that isn't empty has a last
pub last_split : {A : Type 0} → (x : A) (xs : List A) → (ys : List A) × (y : A) × (x ∷ xs ≡ ys ++ y ∷ [])
last_split x [] = ([], x, refl)
last_split x (z ∷ xs) = let (ys, y, e) = last_split z xs in (x ∷ ys, y, rw e)

last_of-append : (t : Table) (ts : List Table) (u : Table) → last_of t (ts ++ u ∷ []) ≡ u
last_of-append t [] u = refl
last_of-append t (v ∷ ts) u = last_of-append v ts u

last_first-append : (ts : List Table) (t : Table) → last_first (ts ++ t ∷ []) ≡ t ∷ ts
last_first-append [] t = refl
last_first-append (u ∷ ts) t = rw (last_of-append u ts t, front_of-append (u ∷ ts) t) refl

-- swap removal at place k is that of the index of the table there, where no table before it has the index
pub swap_out-set : (ts : List Table) (t : Table) (k i : ℕ) → k ≤ length ts → (slots (ts ++ t ∷ []) k).index ≡ i
    → ((j : ℕ) → j < k → (slots (ts ++ t ∷ []) j).index ≢ i) → swap_out i (ts ++ t ∷ []) ≡ slice_set ts k t
unfolding slots
swap_out-set [] t zero i h at before = rw (eq-eqb t.index i at) refl
swap_out-set [] t (suc k) i h at before = absurd (omega arith)
swap_out-set (u ∷ ts) t zero i h at before = rw (eq-eqb u.index i at) (last_first-append ts t)
swap_out-set (u ∷ ts) t (suc k) i h at before =
    rw (ne_eqb u.index i (before 0 (omega arith)))
    (rw (swap_out-set ts t k i (omega arith) at (λ j j_in. before (suc j) (omega arith))))

-- ---- the page that goes
