-- A page's user bit set all up a chain, one partition after another.
use Rattle.std.proofs.Common.{◌≡◌, ◌≢◌, ℕ, ◌+◌, ◌<◌, ◌≤◌, ◌^◌, inl, inr, Bool, length, refl, sym, ap, ◌∙◌, subst, arith}
use Rattle.std.proofs.Common.{Option, Some}
use Rattle.std.proofs.lemmas.Bool.{cases_eq}
use Rattle.pip_base.specs.Memory.{Memory, word_at}
use Rattle.pip_base.specs.Words.{shadow2_word}
use Rattle.pip_entry.specs.Sh2.{packed_sh2}
use Rattle.pip_model.specs.FullRows.{FullRow, cells_of, full_rows, row_word}
use Rattle.pip_model.specs.Midway.{Like, Midway, MidwayOnChain, OffChainStays, OnChain, find_other, here, put_user}
use Rattle.pip_model.specs.Midway.{user_at}
use Rattle.pip_model.specs.NodeIn.{Space, put_row}
use Rattle.pip_model.specs.Sound.{IsSound}
use Rattle.pip_model.specs.Tree.{Node, Tree, chain, config, find_node, row_at, row_pages}
use Rattle.pip_model.proofs.Trees.Ancestors.{name-config}
use Rattle.pip_model.proofs.Trees.Chains.{chain-trans, chain_parent, chain_up, config_apart, root_chain}
use Rattle.pip_model.proofs.Trees.Depth.{chain_differs, depth, depth_few, depth_some, depth_up, few_nodes}
use Rattle.pip_model.proofs.Frames.Laid.{filled}
use Rattle.pip_model.proofs.Trees.Lookup.{found_in, found_name, root_or_other, same_found, up_found}
use Rattle.pip_model.proofs.OnLists.Members.{In-append_left}
use Rattle.pip_model.proofs.Frames.Midway.{like_back, like_user, midway_chain, root_from, up_place, user_at_same}
use Rattle.pip_model.proofs.Frames.Midway.{user_row}
use Rattle.pip_model.proofs.Nodes.Reads.{name_inside, read_descriptor}
use Rattle.pip_model.proofs.Nodes.Writes.{Space-same, Space-stays}
use Rattle.pip_model.proofs.Trees.Numbers.{page_small}
use Rattle.pip_model.proofs.Frames.ReadBack.{full-at}
use Rattle.pip_entry.specs.declared.shadows.Sh2.{Sh2}
use Rattle.pip_model.specs.declared.level.Level.TheVariants.{Shadow2}
use Rattle.pip_space.specs.Rows.{HasRow, HasRows}
use Rattle.pip_kern.specs.Hiding.{CanSetUser, IsAbove, UserSet, UserSetIn}
use Rattle.pip_kern.specs.declared.hiding.Above.{Above}

-- ---- before and after

-- a row of the caller is enough in the middle of a call
pub can_set_user : (m : Memory) (t : Tree) (rows : ℕ → ℕ → Option FullRow) (caller v : ℕ) (x : Node) (r : FullRow)
    → IsSound t → Midway m t rows → find_node t caller ≡ Some x → rows caller v ≡ Some r → CanSetUser m caller v
can_set_user m t rows caller v x r s k x_is r_is = record {
  tree = t;
  rows = rows;
  node = x;
  row = r;
  sound = s;
  midway = midway_chain m t caller rows k;
  found = x_is;
  at = r_is;
}

-- and afterwards it is again the middle of a call, for the caller and its ancestors
pub user_set_chain : (m n : Memory) (t : Tree) (caller g : ℕ) (b : Bool) (rows : ℕ → ℕ → Option FullRow)
    → MidwayOnChain m t caller rows → UserSet t rows caller g b m n
    → MidwayOnChain n t caller (λ a. put_user (rows a) g b)
user_set_chain m n t caller g b rows k set = record {
  count = set.rest.count ∙ k.count;
  each = set.each;
  like = λ a x v x_is on. like_user g b (rows a v) (full_rows t x v) (k.like a x v x_is on);
}

-- so it may be set again
pub can_set_again : (m n : Memory) (caller v : ℕ) (b : Bool) (c : CanSetUser m caller v)
    → UserSet c.tree c.rows caller c.row.frame b m n → CanSetUser n caller v
can_set_again m n caller v b c set = record {
  tree = c.tree;
  rows = λ a. put_user (c.rows a) c.row.frame b;
  node = c.node;
  row = record (c.row) { user = b };
  sound = c.sound;
  midway = user_set_chain m n c.tree caller c.row.frame b c.rows c.midway set;
  found = c.found;
  at = rw (c.at, user_at_same c.row.frame b c.row refl);
}

-- ---- one partition

-- a parent is named by a frame
pub up_small : (t : Tree) → IsSound t → (a : ℕ) (x : Node) → find_node t a ≡ Some x → x.up < 2 ^ 20
up_small t s a x x_is =
    let (p, p_is) = up_found t s a x x_is in
    let i = found_in t x.up p p_is in
    let low = page_small t p.name s p i (In-append_left p.name (config p) (row_pages p) (name-config t s p i)) in
    let few = s.boot_root.large in
    let named = found_name t x.up p p_is in
    omega arith

-- a partition's descriptor names the parent
pub parent_word : (m : Memory) (x : Node) (rows : ℕ → Option FullRow) → Space m x rows → (part : ℕ) → x.name ≡ part
    → word_at m part 11 ≡ x.up
parent_word m x rows k part name =
    rw (← name) (read_descriptor m x (cells_of rows) k.node 11 (omega arith))

-- a partition with a row is named by a frame of the memory
pub row_frame : (m : Memory) (part v : ℕ) → HasRow m part v → part < length m
row_frame m part v h = rw (← h.name) (name_inside m h.node (cells_of h.rows) h.is_in.node)

-- where the page is one level up by the words that were read, it is by the node and its row
pub above_is : (m : Memory) (x : Node) (rows : ℕ → Option FullRow) → Space m x rows → (part : ℕ) → x.name ≡ part
    → (v : ℕ) (r : FullRow) → rows v ≡ Some r → (from : Sh2) → packed_sh2 from ≡ row_word Shadow2 (rows v)
    → (o : Option Above) → IsAbove (word_at m part 11) (packed_sh2 from) o → IsAbove x.up r.from o
above_is m x rows k part name v r r_is from word o h = subst (λ z. IsAbove z r.from o) (parent_word m x rows k part
    name) (subst (λ z. IsAbove (word_at m part 11) z o) (word ∙ ap (row_word Shadow2) r_is) h)

-- a node with a row has rows
pub row_rows : (m : Memory) (part v : ℕ) → HasRow m part v → HasRows m part
row_rows m part v h = search

-- ---- the climb

-- a number of steps up from the caller, at a partition that has the page at vpage v: those passed are written, and it
-- and those above it aren't yet
pub record Setting (t : Tree) (rows : ℕ → ℕ → Option FullRow)
    (caller g : ℕ) (b : Bool) (old m : Memory) (at v steps : ℕ) : Type 0 where
  pub x : Node
  pub x_is : find_node t at ≡ Some x
  pub above : OnChain t at caller
  pub long : steps + depth t at ≡ depth t caller
  pub r : FullRow
  pub r_is : rows at v ≡ Some r
  pub page : r.frame ≡ g
  pub todo : (a : ℕ) (y : Node) → find_node t a ≡ Some y → OnChain t a at → Space m y (rows a)
  pub done : (a : ℕ) (y : Node) → find_node t a ≡ Some y → OnChain t a caller → (OnChain t a at → ⊥)
      → Space m y (put_user (rows a) g b)
  pub rest : OffChainStays t caller old m

-- the row of the page where the climb is
pub setting_row : (t : Tree) (rows : ℕ → ℕ → Option FullRow) (caller g : ℕ) (b : Bool) (old m : Memory) (at v steps : ℕ)
    → Setting t rows caller g b old m at v steps → HasRow m at v
setting_row t rows caller g b old m at v steps h = record {
  node = h.x;
  rows = rows at;
  row = h.r;
  is_in = h.todo at h.x h.x_is here;
  name = found_name t at h.x h.x_is;
  at = h.r_is;
}

-- and the parent's name
pub setting_parent : (t : Tree) → IsSound t
    → (rows : ℕ → ℕ → Option FullRow) (caller g : ℕ) (b : Bool) (old m : Memory) (at v steps : ℕ)
    → Setting t rows caller g b old m at v steps → word_at m at 11 < 2 ^ 20
setting_parent t s rows caller g b old m at v steps h = subst (λ w. w < 2 ^ 20) (sym (parent_word m h.x (rows at)
    (h.todo at h.x h.x_is here) at (found_name t at h.x h.x_is))) (up_small t s at h.x h.x_is)

-- no climb takes as many steps as there are frames
pub setting_full : (t : Tree) → IsSound t
    → (rows : ℕ → ℕ → Option FullRow) (caller g : ℕ) (b : Bool) (old m : Memory) (at v steps : ℕ)
    → Setting t rows caller g b old m at v steps → steps ≡ t.frames → ⊥
setting_full t s rows caller g b old m at v steps h e = let few = few_nodes t s in let long = h.long in
    let all = depth_few t caller in let some = depth_some t s at h.x h.x_is in omega arith

-- nor more than there are partitions from the caller up to the root
pub setting_chain : (t : Tree) → IsSound t → (rows : ℕ → ℕ → Option FullRow) (caller g : ℕ) (b : Bool)
    (old m : Memory) (at v steps : ℕ) → Setting t rows caller g b old m at v steps → steps + 1 ≤ length (chain t caller)
unfolding depth
setting_chain t s rows caller g b old m at v steps h = omega (arith, depth_some t s at h.x h.x_is)

module _ (t : Tree) (s : IsSound t) (rows : ℕ → ℕ → Option FullRow)
    (caller g : ℕ) (b : Bool) (old : Memory) (k : MidwayOnChain old t caller rows) where
  -- it begins at the caller
  pub setting_start : (x : Node) (v : ℕ) (r : FullRow) → find_node t caller ≡ Some x → rows caller v ≡ Some r
      → r.frame ≡ g → Setting t rows caller g b old old caller v 0
  setting_start x v r x_is r_is page = record {
    x = x;
    x_is = x_is;
    above = here;
    long = omega arith;
    r = r;
    r_is = r_is;
    page = page;
    todo = λ a y y_is on. k.each a y y_is on;
    done = λ a y y_is on off. absurd (off on);
    rest = record { count = refl; words = λ f i off. refl };
  }

  -- the bit is set in one partition
  module _ (m n : Memory) (at v steps : ℕ) (h : Setting t rows caller g b old m at v steps) (up : Option Above)
      (set : UserSetIn h.x (rows at) v h.r b m n up) where
    like_here : (u : ℕ) → Like (rows at u) (full_rows t h.x u)
    like_here u = k.like at h.x u h.x_is h.above

    -- this partition has the bit
    set_here : (a : ℕ) (y : Node) → find_node t a ≡ Some y → a ≡ at → Space n y (put_user (rows a) g b)
    unfolding like_here
    set_here a y y_is e =
        let same : h.x ≡ y = same_found t at h.x y h.x_is (cc) in
        let own : Space n h.x (put_user (rows at) h.r.frame b) =
        Space-same n h.x (put_row (rows at) v (Some (record (h.r) { user = b }))) (put_user (rows at) h.r.frame b)
        (user_row t s at h.x h.x_is (rows at) like_here v h.r b h.r_is) set.space in
        rw (← same) (subst (λ z. Space n h.x (put_user (rows z) g b)) (sym e)
        (subst (λ f. Space n h.x (put_user (rows at) f b)) h.page own))

    -- the others stay
    stays : (a : ℕ) (y : Node) (own : ℕ → Option FullRow) → find_node t a ≡ Some y → a ≢ at → Space m y own
        → Space n y own
    stays a y own y_is ne space = Space-stays m n y h.x own space set.space.node.shape set.others
        (λ f i j. config_apart t s a at f y h.x y_is h.x_is ne i j)

    rest_stays : OffChainStays t caller old n
    rest_stays = record {
      count = set.others.count ∙ h.rest.count;
      words = λ f i off. set.others.words f i (off at h.x h.x_is h.above) ∙ h.rest.words f i off;
    }

    -- the root's row is from nowhere, and any other's from the parent
    is_root : h.r.from ≡ 0 → h.x ≡ t.root
    unfolding like_here
    is_root from = elim (root_or_other t at h.x h.x_is) [
      | inl root ↦ root
      | inr o ↦ let q = up_place t s at h.x h.x_is (rows at) like_here o v h.r h.r_is in absurd (omega arith)
    ]

    is_other : (w : ℕ) → h.r.from ≡ shadow2_word w → find_other t at ≡ Some h.x
    unfolding like_here
    is_other w from = elim (root_or_other t at h.x h.x_is) [
      | inl root ↦ absurd (omega (arith, root_from t s at h.x h.x_is (rows at) like_here root v h.r h.r_is))
      | inr o ↦ o
    ]

    -- where the page is from nowhere, the climb has come to the root, and all is done
    pub setting_end : h.r.from ≡ 0 → UserSet t rows caller g b old n
    unfolding set_here stays rest_stays is_root
    setting_end from = record {
      each = λ a y y_is on. elim (cases_eq a at) [
        | inl e ↦ set_here a y y_is e
        | inr ne ↦ stays a y (put_user (rows a) g b) y_is ne (h.done a y y_is on (λ up_to. ne (top a up_to)))
      ];
      rest = rest_stays;
    }
      where
        at_root : at ≡ t.root.name
        at_root = rw (← found_name t at h.x h.x_is, is_root from)

        top : (a : ℕ) → OnChain t a at → a ≡ at
        top a on = root_chain t s a (rw at_root at on) ∙ sym at_root

    -- else the parent has a row with the page at the place that the second shadow says
    row_above : (w : ℕ) → h.r.from ≡ shadow2_word w → OnChain t h.x.up caller
        → (y : Node) × (find_node t h.x.up ≡ Some y) × (r : FullRow) × (rows h.x.up w ≡ Some r) × (r.frame ≡ g)
    unfolding like_here is_other
    row_above w from on =
        let (y, y_is, u, q, q_is, page, place) =
        up_place t s at h.x h.x_is (rows at) like_here (is_other w from) v h.r h.r_is in
        let same : u ≡ w = omega arith in
        let there : full_rows t y w ≡ Some (filled t y q) =
        full-at t y w (Some q) (cc) in
        let z =
        like_back (rows h.x.up w) (filled t y q) (rw (← there) (k.like h.x.up y w y_is on)) in
        (y, y_is, z.0, z.1, cc (z.2, h.page))

    -- and the climb goes on there
    pub setting_on : (p w : ℕ) → p ≡ h.x.up → h.r.from ≡ shadow2_word w
        → Setting t rows caller g b old n p w (steps + 1)
    unfolding set_here stays rest_stays is_other row_above
    setting_on p w p_is from =
        let o = is_other w from in
        let on : OnChain t h.x.up caller = chain-trans t h.x.up at caller (chain_parent t at h.x o) h.above in
        let (y, y_is, r, r_is, page) = row_above w from on in
        let low = depth_up t s at h.x o in
        let long = h.long in
        let same : depth t p ≡ depth t h.x.up = rw p_is in
        record {
          x = y;
          x_is = cc;
          above = rw p_is on;
          long = omega arith;
          r = r;
          r_is = rw p_is r_is;
          page = page;
          todo = λ a y y_is up_to.
              let higher : OnChain t a h.x.up = rw (← p_is) up_to in
              stays a y (rows a) y_is (chain_differs t s a at h.x o higher)
              (h.todo a y y_is (chain-trans t a h.x.up at higher (chain_parent t at h.x o)));
          done = λ a y y_is below off. elim (cases_eq a at) [
            | inl e ↦ set_here a y y_is e
            | inr ne ↦ stays a y (put_user (rows a) g b) y_is ne (h.done a y y_is below (λ up_to. elim (chain_up t a at
                h.x o up_to) [ inl e ↦ ne e | inr higher ↦ off (rw p_is higher) ]))
          ];
          rest = rest_stays;
        }
