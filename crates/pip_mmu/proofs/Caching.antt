-- What a hit gives, and what a miss leaves.
use Rattle.std.proofs.Common.{◌≡◌, ℕ, zero, suc, ◌%◌, ◌==◌, ◌&&◌, Bool, true, false, not, cond, List, [], ◌∷◌, refl}
use Rattle.std.proofs.Common.{sym, ap, subst, ◌∙◌, ◌⊎◌, inl, inr, Option, Some, None}
use Rattle.std.proofs.lemmas.Bool.{eqb-true}
use Rattle.std.proofs.lemmas.List.{set-get_or}
use Rattle.std.specs.Prelude.{option_map, unwrap_or, slice_index_or, slice_set}
use Rattle.pip_base.specs.declared.rights.Rights.{Rights}
use Rattle.pip_base.specs.declared.types.Access.{Access}
use Rattle.pip_base.specs.declared.types.Size.{Size}
use Rattle.pip_base.specs.declared.types.Size.TheVariants.{Byte}
use Rattle.pip_entry.specs.declared.leaf.Leaf.{Leaf}
use Rattle.pip_entry.specs.declared.leaf.Leaf.TheVariants.{Empty, Page}
use Rattle.pip_model.specs.declared.cached.Entry.{Entry}
use Rattle.pip_model.specs.Cache.{Places, IsUsable, Agrees, places_after_access, cache_at, cache_after_access}
use Rattle.pip_model.specs.Cache.{counted_lookup, with_new_entry, filled_on_miss, no_places, of_page, page_and_rights}
use Rattle.pip_model.specs.FullRows.{full_row, full_rows}
use Rattle.pip_model.specs.Reach.{Fault, Faulted, Place, Reached, is_misaligned, reach}
use Rattle.pip_model.specs.Tree.{Node, Row, Tree, find_node, hidden, node, row_at, vpage}
use Rattle.pip_model.proofs.Trees.Lookup.{node_is}
use Rattle.pip_model.proofs.Frames.ReadBack.{full-at}
use Rattle.pip_mmu.specs.Answers.{tree_stored}
use Rattle.pip_mmu.specs.Cached.{after_access}
use Rattle.pip_mmu.specs.Leaves.{leaf_of, through_leaf}

-- a fault fills nothing
learned_nothing : (c : Places) (part v : ℕ) (o : Option Row) (f : Fault)
    → filled_on_miss c part v None o (Faulted f) ≡ c
learned_nothing c part v None f = refl
learned_nothing c part v (Some r) f = refl

-- where the tables say nothing there is no row
no_row : (t : Tree) (x : Node) (o : Option Row) → Empty ≡ leaf_of (full_row t x o) → o ≡ None
no_row t x None e = refl
no_row t x (Some r) e = absurd cc

module _ (t : Tree) (part va : ℕ) (x : Node) (a : Access) (found : find_node t part ≡ Some x) (c : Places) where
  pub fault_left : (f : Fault) → Faulted f ≡ reach t part va a Byte
      → c ≡ filled_on_miss c part (vpage va) None (row_at (node t part).rows (vpage va)) (reach t part va a Byte)
  fault_left f e = sym (ap (filled_on_miss c part (vpage va) None (row_at (node t part).rows (vpage va))) (sym e)
      ∙ learned_nothing c part (vpage va) (row_at (node t part).rows (vpage va)) f)

frame_in : Leaf → ℕ
frame_in Empty = 0
frame_in (Page f u r) = f

user_in : Leaf → Bool
user_in Empty = false
user_in (Page f u r) = u

rights_in : Leaf → Rights
rights_in Empty = record { 0 = 0 }
rights_in (Page f u r) = r

-- a page that an access reaches fills its place
fill_at : (t : Tree) (x : Node) (c : Places) (part v : ℕ) (o : Option Row)
    (frame : ℕ) (user : Bool) (rights : Rights) (g i : ℕ) → Page frame user rights ≡ leaf_of (full_row t x o)
    → with_new_entry c (record { part = part; vpage = v; page = frame; rights = rights })
    ≡ filled_on_miss c part v None o (Place g i)
unfolding frame_in rights_in
fill_at t x c part v None frame user rights g i e = absurd cc
fill_at t x c part v (Some r) frame user rights g i e =
    λ k. with_new_entry c (record { part = part; vpage = v; page = frame_in (e k); rights = rights_in (e k) })

module _ (t : Tree) (part va v : ℕ) (x : Node) (a : Access) (found : find_node t part ≡ Some x)
    (c : Places) (page : v ≡ vpage va) (frame : ℕ) (user : Bool) (rights : Rights) (g i : ℕ) (says : Page frame user
    rights ≡ leaf_of (full_rows t x v)) where
  row_says : Page frame user rights ≡ leaf_of (full_row t x (row_at x.rows v))
  row_says = says ∙ ap leaf_of (full-at t x v (row_at x.rows v) refl)

  pub fill_left : Place g i ≡ reach t part va a Byte
      → with_new_entry c (record { part = part; vpage = v; page = frame; rights = rights })
      ≡ filled_on_miss c part (vpage va) None (row_at (node t part).rows (vpage va)) (reach t part va a Byte)
  fill_left re = fill_at t x c part v (row_at x.rows v) frame user rights g i row_says
      ∙ (λ k. filled_on_miss c part (page k) None (row_at (sym (node_is t part x found) k).rows (page k)) (re k))

-- an item of a list after a write is the one written, or as before
set_get : {X : Type 0} (xs : List X) (j k : ℕ) (y d : X)
    → (slice_index_or (slice_set xs j y) k d ≡ y) ⊎ (slice_index_or (slice_set xs j y) k d ≡ slice_index_or xs k d)
set_get [] j k y d = inr refl
set_get (x ∷ xs) zero zero y d = inl refl
set_get (x ∷ xs) zero (suc k) y d = inr refl
set_get (x ∷ xs) (suc j) zero y d = inr refl
set_get (x ∷ xs) (suc j) (suc k) y d = set_get xs j k y d

pub agrees_filled : (t : Tree) (c : Places) (e : Entry) → Agrees t c → IsUsable t e → Agrees t (with_new_entry c e)
agrees_filled t c e old new k y h = elim (set_get c.at (e.vpage % 64) k (Some e) None) [
  | inl q ↦ subst (IsUsable t) (ap (λ o. unwrap_or o e) (sym q ∙ h)) new
  | inr q ↦ old k y (sym q ∙ h)
]

-- a page that is reached may be used
user_of : (va : ℕ) (a : Access) (frame : ℕ) (user : Bool) (rights : Rights) (g i : ℕ)
    → Place g i ≡ through_leaf va a (Page frame user rights) → user ≡ true
user_of va a frame true rights g i e = refl
user_of va a frame false rights g i e = absurd cc

shown : (h : Bool) → true ≡ not h → h ≡ false
shown true e = absurd cc
shown false e = refl

usable_at : (t : Tree) (x : Node) (part v : ℕ) (found : find_node t part ≡ Some x) (o : Option Row)
    → row_at x.rows v ≡ o → (frame : ℕ) (rights : Rights) → Page frame true rights ≡ leaf_of (full_row t x o)
    → IsUsable t (record { part = part; vpage = v; page = frame; rights = rights })
unfolding frame_in user_in rights_in
usable_at t x part v found None at frame rights e = absurd cc
usable_at t x part v found (Some r) at frame rights e = record {
  node = x;
  found = found;
  row = r;
  at = at;
  page = sym (ap frame_in e);
  rights = ap (λ l. (rights_in l).0) (sym e);
  seen = ap (hidden t) (ap frame_in e) ∙ shown (hidden t r.frame) (ap user_in e);
}

pub usable_new : (t : Tree) (part va v : ℕ) (x : Node) (a : Access) → find_node t part ≡ Some x
    → (frame : ℕ) (user : Bool) (rights : Rights) (g i : ℕ)
    → Page frame user rights ≡ leaf_of (full_rows t x v) → Place g i ≡ through_leaf va a (Page frame user rights)
    → IsUsable t (record { part = part; vpage = v; page = frame; rights = rights })
usable_new t part va v x a found frame user rights g i says e =
    usable_at t x part v found (row_at x.rows v) refl frame rights (ap (λ u. Page frame u rights)
    (sym (user_of va a frame user rights g i e)) ∙ (says ∙ ap leaf_of (full-at t x v (row_at x.rows v) refl)))

-- what is held of a page is what the tables say of it
at_entry : (t : Tree) (part v : ℕ) (x : Node) (found : find_node t part ≡ Some x) (e : Entry) (frame : ℕ) (rights :
    Rights) → IsUsable t e → e.part ≡ part → e.vpage ≡ v → frame ≡ e.page → rights ≡ e.rights
    → Page frame true rights ≡ leaf_of (full_rows t x v)
at_entry t part v x found e frame rights u ep ev ef er =
    let same : u.node ≡ x = ap (λ o. unwrap_or o x) (sym u.found ∙ (ap (find_node t) ep ∙ found)) in
    let row : row_at x.rows v ≡ Some u.row =
    ap (λ y. row_at y.rows v) (sym same) ∙ (ap (row_at u.node.rows) (sym ev) ∙ u.at) in
    let f : frame ≡ u.row.frame = ef ∙ sym u.page in
    let s : true ≡ not (hidden t u.row.frame) = ap not (sym u.seen ∙ ap (hidden t) (sym u.page)) in
    let r : rights ≡ record { 0 = u.row.rights } = er ∙ (λ k. record { 0 = sym u.rights k }) in
    (λ k. Page (f k) (s k) (r k)) ∙ ap leaf_of (sym (full-at t x v (Some u.row) row))

held : (t : Tree) (part v : ℕ) (x : Node) (found : find_node t part ≡ Some x) (e : Entry) (frame : ℕ) (rights : Rights)
    → IsUsable t e → (b d : Bool) → b ≡ (e.part == part) → d ≡ (e.vpage == v)
    → Some (frame, rights) ≡ option_map page_and_rights (cond (b && d) (Some e) None)
    → Page frame true rights ≡ leaf_of (full_rows t x v)
held t part v x found e frame rights u true true p q h =
    at_entry t part v x found e frame rights u (eqb-true e.part part (sym p)) (eqb-true e.vpage v (sym q))
    (ap (λ (o : Option (ℕ × Rights)). (unwrap_or o (frame, rights)).0) h)
    (ap (λ (o : Option (ℕ × Rights)). (unwrap_or o (frame, rights)).1) h)
held t part v x found e frame rights u true false p q h = absurd cc
held t part v x found e frame rights u false true p q h = absurd cc
held t part v x found e frame rights u false false p q h = absurd cc

pub hit_leaf : (t : Tree) (part v : ℕ) (x : Node) → find_node t part ≡ Some x
    → (o : Option Entry) (frame : ℕ) (rights : Rights) → ((e : Entry) → o ≡ Some e → IsUsable t e)
    → Some (frame, rights) ≡ option_map page_and_rights (of_page part v o)
    → Page frame true rights ≡ leaf_of (full_rows t x v)
hit_leaf t part v x found None frame rights u h = absurd cc
hit_leaf t part v x found (Some e) frame rights u h =
    held t part v x found e frame rights (u e refl) (e.part == part) (e.vpage == v) refl refl h

-- a count changes no place
pub agrees_counted : (t : Tree) (c : Places) (o : Option Entry) → Agrees t c → Agrees t (counted_lookup c o)
agrees_counted t c None h = h
agrees_counted t c (Some e) h = h

-- nor does a store change a row
pub usable_stored : (t : Tree) (va : ℕ) (size : Size) (x : ℕ) (q : Reached) (e : Entry) → IsUsable t e
    → IsUsable (tree_stored t va size x q) e
usable_stored t va size x (Faulted f) e u = u
usable_stored t va size x (Place g i) e u =
    record { node = u.node; found = u.found; row = u.row; at = u.at; page = u.page; rights = u.rights; seen = u.seen }

-- ---- on a processor
