-- A child that is given a table, from one step of the code to the next.
use Rattle.std.proofs.Common.{◌≡◌, ◌≢◌, ℕ, zero, suc, inl, inr, List, [], ◌++◌, refl, subst, sym, arith, Option, Some}
use Rattle.std.proofs.Common.{◌+◌, ◌*◌, ◌≤◌, length}
use Rattle.std.proofs.Common.{None}
use Rattle.pip_model.specs.Answers.{pair_frames}
use Rattle.pip_base.specs.declared.types.Pair.{Pair}
use Rattle.pip_base.specs.Words.{as_configuration, shadow1_word}
use Rattle.pip_base.specs.Memory.{Memory}
use Rattle.pip_model.specs.Layout.{LaysOut}
use Rattle.pip_model.specs.FullRows.{FullRow, cells_of}
use Rattle.pip_model.specs.Lists.{In}
use Rattle.pip_model.specs.Midway.{Midway}
use Rattle.pip_model.specs.NodeIn.{OthersStay, Space}
use Rattle.pip_model.specs.Prepare.{tree_with_table}
use Rattle.pip_model.specs.Sound.{IsSound}
use Rattle.pip_model.specs.Tree.{Node, Table, Tree, find_node, table_pairs, vpage, chain}
use Rattle.pip_model.proofs.Frames.Laid.{born_place}
use Rattle.pip_model.proofs.Frames.Lays.{PagesStay-trans}
use Rattle.pip_model.proofs.Trees.Lookup.{in_other}
use Rattle.pip_model.proofs.OnLists.Members.{In-append_right}
use Rattle.pip_model.specs.Prepare.{with_table}
use Rattle.pip_space.specs.Tables.{CanInstall, HasInstall, page_list}
use Rattle.pip_kern.specs.Giving.{CanGive, CanGiveEach, CanGivePages, HasGiven, rows_given, GivesFurtherPages}
use Rattle.pip_kern.specs.Giving.{GivesPagesIn}
use Rattle.std.proofs.lemmas.Nat.{mul-le}
use Rattle.pip_kern.proofs.Giving.{giving_start}
use Rattle.pip_grow.specs.Chain.{chain_pages}
use Rattle.pip_grow.specs.Preparing.{CanPrepare, table_of}
use Rattle.pip_grow.specs.declared.chain.TablePages.{TablePages}
use Rattle.pip_grow.proofs.PrepareTable.Tree.{can_give, can_install, child_found, prepare-lays, prepare-tree_sound}

-- the child's descriptor isn't at vpage 0
pub born_some : (t : Tree) → IsSound t → (caller child born i : ℕ) (g : TablePages) → CanPrepare t caller child born i g
    → born ≢ 0
born_some t s caller child born i g can e =
    let c = can.node in
    let high = (born_place t s c.name c (in_other t s c can.may.child)).1 in
    let place = can.place in
    absurd (omega arith)

-- there is one more page at most
pub one_page : (o : Option Pair) → length (page_list o) ≤ 1
one_page None = omega arith
one_page (Some p) = omega arith

-- what the code's install_table says
abbrev pub InstallSays : Memory → Memory → ℕ → ℕ → List Pair → Option Pair → Type 0
InstallSays m n part i s list = (x : Node) (rows : ℕ → Option FullRow) (b : Table) → Space m x rows → x.name ≡ part
    → b.index ≡ i → table_pairs b ≡ s → CanInstall m x b (page_list list)
    → Space n (with_table b (page_list list) x) rows × OthersStay (with_table b (page_list list) x) m n

module _ (t : Tree) (s : IsSound t) (caller : ℕ) (x : Node) (found : find_node t caller ≡ Some x) (child born
    i : ℕ) (g : TablePages) (can : CanPrepare t caller child born i g) (m : Memory) (lays : LaysOut t m) where
  abbrev c : Node
  c = can.node

  abbrev b : Table
  b = table_of i g

  abbrev rest : List Pair
  rest = page_list g.list

  abbrev y : Node
  y = with_table b rest c

  give : (h : Pair) → In h (table_pairs b ++ rest)
      → CanGive t y (vpage h.va) (shadow1_word as_configuration born) h.frame
  give h j = can_give t s caller x found c b rest can.may born can.place h j

  tables_each : CanGiveEach t y born (table_pairs b)
  unfolding give
  tables_each zero d low = give g.mmu (inl refl)
  tables_each (suc zero) d low = give g.shadow1 (inr (inl refl))
  tables_each (suc (suc zero)) d low = give g.shadow2 (inr (inr (inl refl)))
  tables_each (suc (suc (suc k))) d low = absurd (omega arith)

  list_each : CanGiveEach t y born rest
  unfolding give
  list_each = go g.list (λ h j. give h (In-append_right h (table_pairs b) rest j))
    where
      go : (o : Option Pair) → ((h : Pair) → In h (page_list o)
          → CanGive t y (vpage h.va) (shadow1_word as_configuration born) h.frame) → CanGiveEach t y born (page_list o)
      go None says k d low = absurd (omega arith)
      go (Some p) says zero d low = says p (inl refl)
      go (Some p) says (suc k) d low = absurd (omega arith)

  -- the table's pages can be given
  pub tables_can : CanGivePages m caller born (table_pairs b)
  unfolding tables_each
  tables_can = record {
    tree = t;
    child = y;
    given = [];
    each = tables_each;
    up = can.may.up;
    midway = giving_start t s m lays y;
  }

  module _ (m1 : Memory) (tables_say : GivesFurtherPages caller born (table_pairs b) (pair_frames (table_pairs b)) m m1)
      (list : List Pair) (list_is : list ≡ rest) where
    tables_given : HasGiven t y (pair_frames (table_pairs b)) m m1
    unfolding tables_each
    tables_given = tables_say t y [] tables_each can.may.up (giving_start t s m lays y)

    each : CanGiveEach t y born list
    unfolding list_each
    each = subst (CanGiveEach t y born) (sym list_is) list_each

    -- within a bound on the steps
    pub given_in : (before between after : ℕ)
        → GivesPagesIn caller born (table_pairs b) (length (table_pairs b)) m before between
        → GivesPagesIn caller born list (length list) m1 between after → after ≤ before + 28 * length
        (chain t caller) + 8
    unfolding tables_each each tables_given
    given_in before between after one last =
        let first = one t y [] tables_each can.may.up (giving_start t s m lays y) in
        let then = last t y (pair_frames (table_pairs b)) each can.may.up tables_given.midway in
        let most = mul-le (length list) (7 * length (chain t caller) + 2) 1 (7 * length (chain t caller) + 2)
        (subst (λ l. length l ≤ 1) (sym list_is) (one_page g.list)) (omega arith) in
        omega (arith, first, then, most)

    -- then the list page
    pub list_can : CanGivePages m1 caller born list
    unfolding each tables_given
    list_can = record {
      tree = t;
      child = y;
      given = pair_frames (table_pairs b);
      each = each;
      up = can.may.up;
      midway = tables_given.midway;
    }

    module _ (m2 : Memory) (list_says : GivesFurtherPages caller born list (pair_frames list) m1 m2) where
      all_given : HasGiven t y (pair_frames (table_pairs b ++ rest)) m m2
      unfolding each tables_given
      all_given =
          let last = list_says t y (pair_frames (table_pairs b)) each can.may.up tables_given.midway in
          record {
            midway = subst (λ ps. Midway m2 t (rows_given t y (pair_frames (table_pairs b) ++ pair_frames ps))) list_is
                last.midway;
            stay = PagesStay-trans t m m1 m2 tables_given.stay last.stay;
          }

      child_space : Space m2 c (rows_given t y (pair_frames (table_pairs b ++ rest)) c.name)
      unfolding all_given
      child_space = all_given.midway.each c.name c (child_found t s caller x found c b rest can.may)

      installs : CanInstall m2 c b rest
      unfolding all_given
      installs = can_install t s caller x found c b rest can.may m2 all_given.midway.count

      -- then the table can be installed
      pub install_can : HasInstall m2 child i (table_pairs b) g.list
      unfolding child_space installs
      install_can = record {
        node = c;
        cells = cells_of (rows_given t y (pair_frames (table_pairs b ++ rest)) c.name);
        table = b;
        is_in = child_space.node;
        name = can.name;
        index = refl;
        pages = refl;
        can = installs;
      }

      -- which lays out the new tree
      pub prepare-tree : (n : Memory) → InstallSays m2 n child i (table_pairs b) g.list
          → IsSound (tree_with_table t child i (chain_pages g)) × LaysOut (tree_with_table t child i (chain_pages g)) n
      unfolding all_given child_space installs
      prepare-tree n says =
          let done = says c (rows_given t y (pair_frames (table_pairs b ++ rest)) c.name) b child_space can.name refl
          refl installs in
          subst (λ k. IsSound (tree_with_table t k i (chain_pages g))
          × LaysOut (tree_with_table t k i (chain_pages g)) n) can.name (
            prepare-tree_sound t s caller x found c b rest can.may,
            prepare-lays t s caller x found c b rest can.may m m2
                n lays all_given.midway all_given.stay done.0 done.1,
          )
