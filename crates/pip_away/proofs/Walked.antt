-- A walk over the rows of a partition: whether they are those that are named, and whether none is a child's.
use Rattle.std.proofs.Common.{◌≡◌, ℕ, zero, suc, ◌+◌, ◌<◌, ◌^◌, ◌≤◌, ◌==◌, ◌&&◌, ◌||◌, inl, inr, not, cond, Bool, true}
use Rattle.std.proofs.Common.{false, List, [], ◌∷◌, ◌++◌, map, length, refl}
use Rattle.std.proofs.Common.{sym, ap, ◌∙◌, subst, arith, eq-eqb, eqb-true, ne_eqb}
use Rattle.std.proofs.Common.{Option, Some, None, append_assoc, drop}
use Rattle.std.specs.Prelude.{filter, is_none, is_some, nat_lt, slice_get}
use Rattle.std.proofs.lemmas.Bool.{le-ltb, lt-leb}
use Rattle.pip_kern.specs.Tested.{is_ungiven}
use Rattle.pip_kern.proofs.Tested.{free-row}
use Rattle.pip_model.specs.FullRows.{FullRow, full_row, full_rows}
use Rattle.pip_model.specs.Lists.{In, Rising}
use Rattle.pip_model.specs.Sound.{IsSound}
use Rattle.pip_model.specs.Tree.{Node, Row, Tree, children, config, find_node, held_pages, hidden, holder, is_free_row}
use Rattle.pip_model.specs.Tree.{node, row_at, row_pages}
use Rattle.pip_model.proofs.Frames.Laid.{filled, full_back}
use Rattle.pip_model.proofs.Frames.ReadBack.{full-at}
use Rattle.pip_model.proofs.OnLists.Members.{In-append_cases, In-append_left, In-append_right, In-filter_from, In-map}
use Rattle.pip_model.proofs.OnLists.Members.{In-map_from, find_in, find_none}
use Rattle.pip_model.proofs.Trees.Children.{holder_back, holder_none, in_children}
use Rattle.pip_model.proofs.Trees.Lookup.{found_in, found_name, in_other, node_is}
use Rattle.pip_model.proofs.Trees.Numbers.{at_small, page_positive}
use Rattle.pip_guests.specs.Entries.{fits_rows, row_fits, rows_fit}
use Rattle.pip_space.specs.Rows.{IsNextRow}
use Rattle.pip_space.specs.declared.row.Row.{Row as CodeRow}
use Rattle.pip_table.specs.NextLeaf.{start_above}
use Rattle.pip_away.specs.Blind.{is_row, own_rows}
use Rattle.pip_away.specs.declared.blind.OwnRow.{OwnRow}
use Rattle.pip_away.proofs.Reading.{drop_all, drop_at}

-- ---- lists

rising_all : (low : ℕ) (rs : List Row) → Rising low (map (λ r. r.at) rs) → (r : Row) → In r rs → low ≤ r.at
rising_all low [] h r i = absurd i
rising_all low (q ∷ rs) h r (inl e) = let l = h.0 in rw e l
rising_all low (q ∷ rs) h r (inr i) = let l = h.0 in omega (arith, l, rising_all (q.at + 1) rs h.1 r i)

found_row : (rows : List Row) (v : ℕ) (r : Row) → row_at rows v ≡ Some r → In r rows × (r.at ≡ v)
found_row rows v r e = let (i, same) = find_in (λ r. r.at == v) r rows e in (i, eqb-true r.at v same)

no_row : (rows : List Row) (v : ℕ) → row_at rows v ≡ None → (r : Row) → In r rows → r.at ≡ v → ⊥
no_row rows v e r i same = cc (find_none (λ r. r.at == v) r rows e i, eq-eqb r.at v same)

-- two tests of a row are one
row_tests : (a b c h z u : Bool) → (b ≡ true → (z ≡ false) × (u ≡ not h))
    → ((a && (b && c)) && not (h || z)) ≡ ((u && (a && b)) && c)
row_tests a true c h z u f = rw ((f refl).0, (f refl).1) (flat a c h)
  where
    flat : (a c h : Bool) → ((a && c) && not (h || false)) ≡ ((not h && (a && true)) && c)
    flat true true true = refl
    flat true true false = refl
    flat true false true = refl
    flat true false false = refl
    flat false c true = refl
    flat false c false = refl
row_tests a false c h z u f = none a u
  where
    none : (a u : Bool) → ((a && false) && not (h || z)) ≡ ((u && (a && false)) && c)
    none true true = refl
    none true false = refl
    none false true = refl
    none false false = refl

-- ---- the walk

module _ (t : Tree) (s : IsSound t) (p : ℕ) (x : Node) (found : find_node t p ≡ Some x) where
  -- the rows below a vpage were passed, and the others come later
  pub record Walked (from : ℕ) (before later : List Row) : Type 0 where
    pub whole : x.rows ≡ before ++ later
    pub low : (r : Row) → In r before → r.at < from
    pub rest : Rising from (map (λ r. r.at) later)

  pub walked_none : Walked 0 [] x.rows
  walked_none = record {
    whole = refl;
    low = λ r i. absurd i;
    rest = (s.pages_apart x (found_in t p x found)).places;
  }

  -- what a row of the tables is, the first of those that come later
  pub record Next (v : ℕ) (f : FullRow) (before later : List Row) : Type 0 where
    pub row : Row
    pub rest : List Row
    pub is : later ≡ row ∷ rest
    pub on : Walked (v + 1) (before ++ row ∷ []) rest
    pub mapped : row_at x.rows v ≡ Some row
    pub at : row.at ≡ v
    pub frame : f.frame ≡ row.frame
    pub rights : f.rights ≡ row.rights
    pub user : f.user ≡ not (hidden t row.frame)

  module _ (from : ℕ) (before later : List Row) (w : Walked from before later) where
    -- the least row from there on is the first of the others
    module _ (v : ℕ) (f : FullRow) (least : from ≤ v) (here : full_rows t x v ≡ Some f)
        (none : (u : ℕ) → from ≤ u → u < v → full_rows t x u ≡ None) where
      no_earlier : (r : Row) → In r x.rows → from ≤ r.at → r.at < v → ⊥
      no_earlier r i l k = go (row_at x.rows r.at) refl
        where
          go : (o : Option Row) → row_at x.rows r.at ≡ o → ⊥
          go None e = no_row x.rows r.at e r i refl
          go (Some q) e = cc (none r.at l k, full-at t x r.at (Some q) e)

      module _ (q : Row) (at : row_at x.rows v ≡ Some q) where
        q_at : In q x.rows × (q.at ≡ v)
        q_at = found_row x.rows v q at

        -- it isn't among those that were passed
        not_before : In q before → ⊥
        not_before i = omega (arith, w.low q i, q_at.1)

        is_next : (h : Row) (rest : List Row) → x.rows ≡ before ++ h ∷ rest → Rising from (map (λ r. r.at) (h ∷ rest))
            → q ≡ h
        is_next h rest e r =
            let here : In h x.rows = rw e (In-append_right h before (h ∷ rest) (inl refl)) in
            elim (In-append_cases q before (h ∷ rest) (rw e at q_at.0)) [
              | inl i ↦ absurd (not_before i)
              | inr j ↦ elim j [
                | inl same ↦ same
                | inr k ↦ absurd (no_earlier h here r.0 (omega (arith, rising_all (h.at + 1) rest r.1 q k, q_at.1)))
              ]
            ]

      pub step : Next v f before later
      step = let (q, at, same) = full_back t x v f here in by q at same later w.whole w.rest
        where
          by : (q : Row) → row_at x.rows v ≡ Some q → f ≡ filled t x q → (later : List Row)
              → x.rows ≡ before ++ later → Rising from (map (λ r. r.at) later) → Next v f before later
          by q at same [] e r = elim (In-append_cases q before [] (rw e at (q_at q at).0)) [
            | inl i ↦ absurd (not_before q at i)
            | inr j ↦ absurd j
          ]
          by q at same (h ∷ rest) e r =
              let one = is_next q at h rest e r in
              let a : h.at ≡ v = rw (← one) (q_at q at).1 in
              record {
                row = h;
                rest = rest;
                is = refl;
                on = record {
                  whole = rw (e, append_assoc before (h ∷ []) rest);
                  low = λ z i. elim (In-append_cases z before (h ∷ []) i) [
                    | inl j ↦ omega (arith, w.low z j)
                    | inr j ↦ elim j [
                      | inl d ↦ let b : z.at ≡ h.at = ap (λ z. z.at) d in omega arith
                      | inr k ↦ absurd k
                    ]
                  ];
                  rest = rw a at r.1;
                };
                mapped = rw (← one) at;
                at = a;
                frame = rw (← one) (ap (λ z. z.frame) same);
                rights = rw (← one) (ap (λ z. z.rights) same);
                user = ap (λ z. z.user) same ∙ ap (λ z. not (hidden t z.frame)) one;
              }

    -- no row is left
    pub walked_end : ((u : ℕ) → from ≤ u → full_rows t x u ≡ None) → later ≡ []
    walked_end none = by later w.whole w.rest
      where
        by : (later : List Row) → x.rows ≡ before ++ later → Rising from (map (λ r. r.at) later) → later ≡ []
        by [] e r = refl
        by (h ∷ rest) e r =
            let here : In h x.rows = rw e (In-append_right h before (h ∷ rest) (inl refl)) in
            absurd (go (row_at x.rows h.at) refl here)
          where
            go : (o : Option Row) → row_at x.rows h.at ≡ o → In h x.rows → ⊥
            go None k i = no_row x.rows h.at k h i refl
            go (Some q) k i = cc (none h.at r.0, full-at t x h.at (Some q) k)

  -- a row's vpage is below 2^20
  pub row_low : (v : ℕ) (f : FullRow) → full_rows t x v ≡ Some f → v < 2 ^ 20
  row_low v f here =
      let (q, at, same) = full_back t x v f here in
      let (i, e) = found_row x.rows v q at in
      omega (arith, at_small t s x (found_in t p x found) q i)

  -- ---- children

  -- none of the rows that were passed is a child's
  pub record AllFree (from : ℕ) : Type 0 where
    pub before : List Row
    pub later : List Row
    pub walk : Walked from before later
    pub free : (r : Row) → In r before → holder t p r.frame ≡ None

  pub free_none : AllFree 0
  free_none = record { before = []; later = x.rows; walk = walked_none; free = λ r i. absurd i }

  holder_of : (q : Row) (v : ℕ) (f : FullRow) → row_at x.rows v ≡ Some q → full_rows t x v ≡ Some f
      → is_none (holder t p q.frame) ≡ is_ungiven f
  holder_of q v f at here =
      let row : row_at (node t p).rows v ≡ Some q = rw (node_is t p x found) at in
      sym (ap (is_free_row t p) row) ∙ free-row t s p x found v f here

  -- a row that isn't free is a child's
  pub free_met : (v : ℕ) (f : FullRow) → full_rows t x v ≡ Some f → false ≡ is_ungiven f
      → false ≡ nat_lt (length (children t p)) 1
  free_met v f here taken =
      let (q, at, same) = full_back t x v f here in
      go q (holder t p q.frame) refl (holder_of q v f at here ∙ sym taken)
    where
      some : (ys : List Node) (y : Node) → In y ys → false ≡ nat_lt (length ys) 1
      some [] y i = absurd i
      some (z ∷ zs) y i = sym (le-ltb (suc (length zs)) 1 (omega arith))

      go : (q : Row) (o : Option Node) → holder t p q.frame ≡ o → is_none o ≡ false
          → false ≡ nat_lt (length (children t p)) 1
      go q None e k = cc
      go q (Some y) e k =
          let (o, up, held) = holder_back t s p q.frame y e in
          some (children t p) y (in_children t p y.name y o up)

  -- the next row was passed
  pub free_on : (from v : ℕ) (f : FullRow) → AllFree from → from ≤ v → full_rows t x v ≡ Some f
      → ((u : ℕ) → from ≤ u → u < v → full_rows t x u ≡ None) → true ≡ is_ungiven f → AllFree (v + 1)
  free_on from v f a least here none on =
      let n = step from a.before a.later a.walk v f least here none in
      record {
        before = a.before ++ n.row ∷ [];
        later = n.rest;
        walk = n.on;
        free = λ z i. elim (In-append_cases z a.before (n.row ∷ []) i) [
          | inl j ↦ a.free z j
          | inr j ↦ elim j [
            | inl d ↦ ap (λ z. holder t p z.frame) d
                ∙ nobody (holder t p n.row.frame) (holder_of n.row v f n.mapped here ∙ sym on)
            | inr k ↦ absurd k
          ]
        ];
      }
    where
      nobody : (o : Option Node) → is_none o ≡ true → o ≡ None
      nobody None k = refl
      nobody (Some y) k = cc

  -- all rows were
  pub free_all : (from : ℕ) → AllFree from → ((u : ℕ) → from ≤ u → full_rows t x u ≡ None)
      → true ≡ nat_lt (length (children t p)) 1
  free_all from a none = by (children t p) refl
    where
      by : (ys : List Node) → children t p ≡ ys → true ≡ nat_lt (length ys) 1
      by [] k = refl
      by (y ∷ ys) k =
          let (i, named) = In-filter_from (λ z. z.up == p) y t.others (rw k (inl refl)) in
          let up : y.up ≡ p = eqb-true y.up p named in
          let held : In y.base.descriptor.frame (held_pages y) =
          In-append_left y.base.descriptor.frame (config y) (row_pages y) (inl refl) in
          let lent = (s.lent y x i (found_in t p x found) (up ∙ sym (found_name t p x found))).rows
          y.base.descriptor.frame held in
          let (r, j, same) = In-map_from (λ r. r.frame) y.base.descriptor.frame x.rows lent in
          let e : x.rows ≡ a.before ++ [] =
          a.walk.whole ∙ ap (λ l. a.before ++ l) (walked_end from a.before a.later a.walk none) in
          elim (In-append_cases r a.before [] (subst (In r) e j)) [
            | inl z ↦ absurd (holder_none t p y.base.descriptor.frame y.name y
                (ap (holder t p) same ∙ a.free r z)
                (in_other t s y i) up held)
            | inr z ↦ absurd z
          ]

  -- ---- rows that are named

  module _ (all : List OwnRow) (owner : ℕ) where
    -- the rows that were passed are those that are named first: the others decide
    pub record Fitting (k from : ℕ) : Type 0 where
      pub before : List Row
      pub later : List Row
      pub walk : Walked from before later
      pub same : fits_rows t p (own_rows all owner) ≡ rows_fit t later (own_rows (drop k all) owner)

    pub fitting_none : Fitting 0 0
    fitting_none = record {
      before = [];
      later = x.rows;
      walk = walked_none;
      same = rw (node_is t p x found);
    }

    module _ (k from : ℕ) (h : Fitting k from) (own : OwnRow) (at : slice_get all k ≡ Some own) where
      -- a row of another partition
      pub fitting_past : own.name == owner ≡ false → Fitting (k + 1) from
      fitting_past e = record {
        before = h.before;
        later = h.later;
        walk = h.walk;
        same = h.same ∙ rw (drop_at all k own at, e);
      }

      module _ (its : own.name == owner ≡ true) where
        abbrev one : Row
        one = record { at = own.at; frame = own.page; rights = own.rights }

        here : fits_rows t p (own_rows all owner) ≡ rows_fit t h.later (one ∷ own_rows (drop (k + 1) all) owner)
        here = h.same ∙ rw (drop_at all k own at, its)

        -- no row is left
        pub fitting_short : ((u : ℕ) → from ≤ u → full_rows t x u ≡ None)
            → false ≡ fits_rows t p (own_rows all owner)
        unfolding here
        fitting_short none = sym (rw (here, walked_end from h.before h.later h.walk none))

        module _ (v : ℕ) (f : FullRow) (least : from ≤ v) (row : full_rows t x v ≡ Some f)
            (none : (u : ℕ) → from ≤ u → u < v → full_rows t x u ≡ None) where
          next : Next v f h.before h.later
          next = step from h.before h.later h.walk v f least row none

          its_row : row_fits t next.row one ≡ is_row v f own
          its_row = rw (next.at, ← next.frame, ← next.rights)
              (row_tests _ _ _ _ _ _ (λ e. page (eqb-true f.frame own.page e)))
            where
              page : f.frame ≡ own.page → ((0 == own.page) ≡ false) × (f.user ≡ not (hidden t own.page))
              page e =
                  let held : In next.row.frame (held_pages x) = In-append_right next.row.frame (config x) (row_pages x)
                  (In-map (λ r. r.frame) next.row x.rows (found_row x.rows v next.row next.mapped).0) in
                  let some = page_positive t next.row.frame s x (found_in t p x found) held in
                  let same : next.row.frame ≡ own.page = sym next.frame ∙ e in (
                    ne_eqb 0 own.page (omega arith),
                    next.user ∙ ap (λ g. not (hidden t g)) same,
                  )

          -- another row
          pub fitting_other : is_row v f own ≡ false → false ≡ fits_rows t p (own_rows all owner)
          unfolding here
          fitting_other e = sym (rw (here, next.is, its_row, e))

          -- this row
          pub fitting_on : is_row v f own ≡ true → Fitting (k + 1) (v + 1)
          unfolding here
          fitting_on e = record {
            before = h.before ++ next.row ∷ [];
            later = next.rest;
            walk = next.on;
            same = here ∙ ap (λ l. rows_fit t l (one ∷ own_rows (drop (k + 1) all) owner)) next.is
                ∙ ap (λ b. b && rows_fit t next.rest (own_rows (drop (k + 1) all) owner)) (its_row ∙ e);
          }

    -- all that are named were passed
    pub fitting_end : (k from : ℕ) → Fitting k from → length all ≤ k → (r : Option (ℕ × CodeRow)) (o : Option ℕ)
        → from ≡ start_above o → IsNextRow (full_rows t x) o r → not (is_some r) ≡ fits_rows t p (own_rows all owner)
    fitting_end k from h late r o is n = sym (rw (h.same, drop_all all k late) (by r n))
      where
        by : (r : Option (ℕ × CodeRow)) → IsNextRow (full_rows t x) o r → rows_fit t h.later [] ≡ not (is_some r)
        by None n = rw (walked_end from h.before h.later h.walk (λ u l. n u (rw (← is) l)))
        by (Some y) n = rw ((step from h.before h.later h.walk y.0 _ (rw is n.0) n.1 (λ u l. n.2 u (rw (← is) l))).is)

-- where there is no next row, none is left
pub none_left : (rows : ℕ → Option FullRow) (after : Option ℕ) (r : Option (ℕ × CodeRow)) → IsNextRow rows after r
    → ((y : ℕ × CodeRow) → r ≡ Some y → ⊥) → (u : ℕ) → start_above after ≤ u → rows u ≡ None
none_left rows after None h n u l = h u l
none_left rows after (Some y) h n u l = absurd (n y refl)
