-- Two partitions of a tree are written, one after the other: what lays the tree with their new rows out.
use Rattle.std.proofs.Common.{◌≡◌, ◌≢◌, ℕ, ◌==◌, cond, Bool, true, false, inl, inr, List, refl, sym, ap, ◌∙◌, subst}
use Rattle.std.proofs.Common.{eq-eqb, ne_eqb, Option, Some}
use Rattle.std.proofs.lemmas.Bool.{cases_eq}
use Rattle.pip_base.specs.Memory.{Memory}
use Rattle.pip_model.specs.Layout.{LaysOut}
use Rattle.pip_model.specs.FullRows.{FullRow, full_rows}
use Rattle.pip_model.specs.Midway.{HoldsNodes, PagesStay, put_rows, tree_rows}
use Rattle.pip_model.specs.NodeIn.{OthersStay, Space}
use Rattle.pip_model.specs.Sound.{IsSound}
use Rattle.pip_model.specs.Tree.{Node, Row, Tree, change_at, change_node, find_node}
use Rattle.pip_model.proofs.Frames.Laid.{laid_space}
use Rattle.pip_model.proofs.Trees.ChangeNode.{change-else, change-here, change-keeps, up-apart}
use Rattle.pip_model.proofs.Frames.ChangeRows.{RowsChange, other_row, rows_tree, rows_tree-sound}
use Rattle.pip_model.proofs.Trees.Chains.{config_apart}
use Rattle.pip_model.proofs.Frames.Lays.{PagesStay-trans, lays_rows, pages_stay, words_stay, zero_stays}
use Rattle.pip_model.proofs.Trees.Lookup.{changed_back, found_in, found_name, node_is, same_found}
use Rattle.pip_model.proofs.Frames.Midway.{laid_nodes, nodes_changed, nodes_put}
use Rattle.pip_model.proofs.Nodes.Writes.{Space-stays}

module _ (t : Tree) (s : IsSound t) (m m1 : Memory) (lays : LaysOut t m) (a : ℕ) (x : Node) (x_is : find_node t a
    ≡ Some x) (stay1 : OthersStay x m m1) (rows1 : ℕ → Option FullRow) (space1 : Space m1 x rows1) where
  -- the second is still there after the first was written
  pub second_stays : (b : ℕ) (y : Node) → find_node t b ≡ Some y → b ≢ a → Space m1 y (full_rows t y)
  second_stays b y y_is ne = Space-stays m m1 y x (full_rows t y) (laid_space t s m lays b y y_is) space1.node.shape
      stay1 (λ f i j. config_apart t s b a f y x y_is x_is ne i j)

  module _ (m2 : Memory) (b : ℕ) (y : Node) (y_is : find_node t b ≡ Some y) (stay2 : OthersStay y m1 m2)
      (rows2 : ℕ → Option FullRow) (space2 : Space m2 y rows2) where
    abbrev rows : ℕ → ℕ → Option FullRow
    rows = put_rows (put_rows (tree_rows t) a rows1) b rows2

    held_nodes : HoldsNodes m2 t rows
    held_nodes = nodes_put t s m1 m2 (put_rows (tree_rows t) a rows1) (nodes_put t s m m1 (tree_rows t)
        (laid_nodes t s m lays) a x rows1 x_is space1 stay1) b y rows2 y_is space2 stay2

    pages : PagesStay t m m2
    pages = PagesStay-trans t m m1 m2 (pages_stay t s m m1 x (found_in t a x x_is) stay1)
        (pages_stay t s m1 m2 y (found_in t b y y_is) stay2)

    -- x is a child, y its parent, and what is written are the rows of the tree in which x has other rows
    module _ (own : List Row → List Row) (g : ℕ) (k : RowsChange t x own g) (up : b ≡ x.up)
        (first : (v : ℕ) → full_rows (rows_tree t s x own g k) (record x { rows = own x.rows }) v ≡ rows1 v)
        (second : (v : ℕ) → full_rows (rows_tree t s x own g k) y v ≡ rows2 v) where
      abbrev f : Node → Node
      f z = record z { rows = own z.rows }

      abbrev u : Tree
      u = change_node x.name f t

      name : x.name ≡ a
      name = found_name t a x x_is

      same_rows : (c : ℕ) (z : Node) → find_node t c ≡ Some z → (v : ℕ)
          → rows c v ≡ full_rows u (change_at x.name f z) v
      unfolding name
      same_rows c z z_is v =
          let z_name = found_name t c z z_is in
          elim (cases_eq c b) [
            | inl e ↦
                let same : y ≡ z = same_found t b y z y_is (subst (λ n. find_node t n ≡ Some z) e z_is) in
                let off : z.name ≢ x.name = λ h. up-apart t s x k.become.child (sym up ∙ (sym e ∙ (sym z_name ∙ h))) in
                ap (λ q. cond q rows2 (put_rows (tree_rows t) a rows1 c) v) (eq-eqb c b e)
                ∙ (sym (second v) ∙ ap (λ w. full_rows u w v) (same ∙ sym (change-else x.name f z off)))
            | inr ne ↦
                ap (λ q. cond q rows2 (put_rows (tree_rows t) a rows1 c) v) (ne_eqb c b ne) ∙ elim (cases_eq c a) [
                  | inl e ↦
                      let same : x ≡ z = same_found t a x z x_is (subst (λ n. find_node t n ≡ Some z) e z_is) in
                      ap (λ q. cond q rows1 (tree_rows t c) v) (eq-eqb c a e)
                      ∙ (sym (first v) ∙ ap (λ w. full_rows u w v)
                      (ap f same ∙ sym (change-here x.name f z (ap (λ n. n.name) (sym same)))))
                  | inr far ↦
                      let off : c ≢ x.name = λ h. far (h ∙ name) in
                      ap (λ q. cond q rows1 (tree_rows t c) v) (ne_eqb c a far)
                      ∙ (ap (λ w. full_rows t w v) (node_is t c z z_is)
                      ∙ (sym (other_row t s x own g k c z z_is off v (λ q at h. absurd (ne (h ∙ sym up))))
                      ∙ ap (λ w. full_rows u w v) (sym (change-else x.name f z (λ h. off (sym z_name ∙ h))))))
                ]
          ]

      only_rows : (z : Node) → (rows : List Row) × (change_at x.name f z ≡ record z { rows = rows })
      only_rows z = go (z.name == x.name)
        where
          go : (q : Bool) → (rows : List Row) × (cond q (f z) z ≡ record z { rows = rows })
          go true = (own z.rows, refl)
          go false = (z.rows, refl)

      -- the new tree is laid out
      pub two_lay : LaysOut (rows_tree t s x own g k) m2
      unfolding held_nodes pages same_rows only_rows
      two_lay = lays_rows u (rows_tree-sound t s x own g k) m2 space2.node.shape
          (stay2.count ∙ (stay1.count ∙ lays.count)) rows
          (nodes_changed (change_at x.name f) t only_rows m2 rows held_nodes)
          (λ c w v w_is. let (z, z_is, same) =
          changed_back (change_at x.name f) t (change-keeps x.name f (λ z. z.name) (λ z. refl)) c w w_is in
          same_rows c z z_is v ∙ ap (λ n. full_rows u n v) (sym same))
          (λ f i k k_is i_in. words_stay t s m m2 lays pages f i k k_is i_in)
          (λ i i_in. zero_stays t s m m2 lays pages i i_in)
