-- The root's handlers stay as they are, whatever other partitions do.
use Rattle.std.proofs.Common.{◌≡◌, ◌≢◌, ℕ, ◌+◌, ◌*◌, ◌==◌, ◌&&◌, inl, inr, Bool, true, false, not, cond, List, refl}
use Rattle.std.proofs.Common.{sym}
use Rattle.std.proofs.Common.{ap, ◌∙◌, subst, Option, Some, None}
use Rattle.std.specs.Prelude.{◌%◌, ◌/◌, bit_and, nat_le, option_map}
use Rattle.std.proofs.lemmas.Bool.{both_ways, cases_Bool, false_from_ne_true}
use Rattle.pip_base.specs.declared.types.Access.TheVariants.{Load}
use Rattle.pip_base.specs.declared.types.Ctx.{Ctx}
use Rattle.pip_base.specs.declared.types.Size.TheVariants.{Word}
use Rattle.pip_model.specs.Handlers.{context_in, handler, is_reached}
use Rattle.pip_model.specs.Handlers.{saved_to, written_block}
use Rattle.pip_model.specs.Lists.{In, has}
use Rattle.pip_model.specs.Reach.{Alignment, Faulted, Hidden, Place, Reached, Right, Unmapped, is_misaligned, reach}
use Rattle.pip_model.specs.Reach.{reach_by_row, right}
use Rattle.pip_model.specs.Sound.{IsSound}
use Rattle.pip_model.specs.Tree.{Node, Row, Tree, ancestry, config, held_pages, hidden, node, nodes, on_nodes, row_at}
use Rattle.pip_model.specs.Tree.{row_pages, vpage, word_of}
use Rattle.pip_model.specs.Worlds.{lines_in, masked_node, with_masked, with_pending}
use Rattle.pip_model.proofs.OnLists.Members.{In-append_left, In-append_right, In-map_from, has_in, in_has}
use Rattle.pip_model.proofs.Locality.Leaves.{LeavesTree}
use Rattle.pip_model.proofs.Trees.Ancestors.{holds_up, same_name}
use Rattle.pip_model.proofs.Trees.Ancestry.{ancestry_over, named_node, other_in, root_is_one}
use Rattle.pip_model.proofs.Trees.Free.{IsName, hidden_by, hidden_from}
use Rattle.pip_guests.proofs.Lines.{parent_line, top_alone}
use Rattle.pip_slots.specs.Slots.{HandlesAlone, IsUnlent, TakesEachVector}

-- a partition other than the root holds a page
abbrev pub IsLent : Tree → ℕ → Type 0
IsLent t g = (x : Node) × In x t.others × In g (held_pages x)

unlent : (t : Tree) (g : ℕ) → IsUnlent t g → IsLent t g → ⊥
unlent t g h (x, i, j) = h x i j

-- the root keeps its rows and its configuration, no further page of it is lent, and the pages that it lent to nobody
-- keep their words
pub record KeepsRoot (t u : Tree) : Type 0 where
  pub name : u.root.name ≡ t.root.name
  pub rows : u.root.rows ≡ t.root.rows
  pub config : config u.root ≡ config t.root
  pub lent : (g : ℕ) → IsLent u g → IsLent t g
  pub words : (g i : ℕ) → (IsLent t g → ⊥) → word_of (u.words g) i ≡ word_of (t.words g) i

pub keeps_trans : (t u v : Tree) → KeepsRoot t u → KeepsRoot u v → KeepsRoot t v
keeps_trans t u v a b = record {
  name = b.name ∙ a.name;
  rows = b.rows ∙ a.rows;
  config = b.config ∙ a.config;
  lent = λ g h. a.lent g (b.lent g h);
  words = λ g i h. b.words g i (λ z. h (a.lent g z)) ∙ a.words g i h;
}

-- ---- its handlers

pub root_node : (t : Tree) → IsSound t → node t t.root.name ≡ t.root
root_node t s = named_node t t.root.name s t.root (inl refl) refl

-- what the root reaches at an address, by its own rows
root_reach : (t : Tree) → IsSound t → (va : ℕ) → reach t t.root.name va Load Word
    ≡ cond (is_misaligned va Word) (Faulted Alignment) (reach_by_row t va Load (row_at t.root.rows (vpage va)))
root_reach t s va = rw (root_node t s)

module _ (t u : Tree) (s : IsSound t) (r : IsSound u) (k : KeepsRoot t u) where
  -- a page that it lent to nobody is hidden no more than it was
  hidden_kept : (g : ℕ) → (IsLent t g → ⊥) → hidden t g ≡ false → hidden u g ≡ false
  hidden_kept g h e = false_from_ne_true _ (λ z. go (hidden_from u g z))
    where
      go : (x : Node) × In x (nodes u) × In g (config x) → ⊥
      go (x, inl q, c) = both_ways (hidden t g) e (hidden_by t g t.root (inl refl)
          (subst (λ l. In g l) (ap config q ∙ k.config) c))
      go (x, inr j, c) = h (k.lent g (x, j, In-append_left g (config x) (row_pages x) c))

  row_kept : (va g i : ℕ) → (IsLent t g → ⊥) → (o : Option Row) → reach_by_row t va Load o ≡ Place g i
      → reach_by_row u va Load o ≡ Place g i
  row_kept va g i h None e = cc
  row_kept va g i h (Some b) e = go (hidden t b.frame) (not (bit_and (right Load) b.rights == right Load)) refl refl e
    where
      go : (x y : Bool) → hidden t b.frame ≡ x → not (bit_and (right Load) b.rights == right Load) ≡ y
          → cond x (Faulted Hidden) (cond y (Faulted Right) (Place b.frame (va % 4096 / 4))) ≡ Place g i
          → reach_by_row u va Load (Some b) ≡ Place g i
      go true y p q e = cc
      go false true p q e = cc
      go false false p q e =
          let d : b.frame ≡ g = cc in
          let off = hidden_kept b.frame (λ z. h (subst (IsLent t) d z)) p in
          rw (off, q, e)

  reach_root : (va g i : ℕ) → (IsLent t g → ⊥) → reach t t.root.name va Load Word ≡ Place g i
      → reach u u.root.name va Load Word ≡ Place g i
  reach_root va g i h e =
      rw (root_reach u r va, k.rows, go (is_misaligned va Word) (sym (root_reach t s va) ∙ e))
    where
      go : (b : Bool) → cond b (Faulted Alignment) (reach_by_row t va Load (row_at t.root.rows (vpage va))) ≡ Place g i
          → cond b (Faulted Alignment) (reach_by_row u va Load (row_at t.root.rows (vpage va))) ≡ Place g i
      go true e = cc
      go false e = row_kept va g i h (row_at t.root.rows (vpage va)) e

  -- the test of a block's address
  fits_block : ℕ → Reached → Option ℕ
  fits_block a q = cond ((a % 4 == 0 && nat_le (a % 4096) 4028) && is_reached q) (Some a) None

  unlent_kept : (g : ℕ) → IsUnlent t g → IsUnlent u g
  unlent_kept g h x i j = unlent t g h (k.lent g (x, i, j))

  pub handles_kept : (v : ℕ) → HandlesAlone t v → HandlesAlone u v
  unfolding fits_block
  handles_kept v z =
      let a = word_of (t.words z.g) z.i in
      let word = k.words z.g z.i (unlent t z.g z.table_unlent) in
      let table = reach_root (0xfffff000 + 4 * v) z.g z.i (unlent t z.g z.table_unlent) z.table in
      let place = reach_root a z.h z.j (unlent t z.h z.block_unlent) z.place in
      record {
        g = z.g;
        i = z.i;
        h = z.h;
        j = z.j;
        table = table;
        names = cc (z.place, z.table, z.names);
        place = rw (word, place);
        table_unlent = unlent_kept z.g z.table_unlent;
        block_unlent = unlent_kept z.h z.block_unlent;
      }

  pub takes_kept : TakesEachVector t → TakesEachVector u
  takes_kept h v l = handles_kept v (h v l)

-- such a vector has a handler
pub handles_some : (t : Tree) (v : ℕ) → HandlesAlone t v → (c : Ctx) × (handler t t.root.name v ≡ Some c)
handles_some t v z = (
  context_in (word_of (t.words z.h)) z.j,
  rw (z.names, z.place),
)

-- ---- what keeps it

-- a change below another partition leaves the root's node
pub leaves_root : (t u : Tree) (q : ℕ) → IsSound t → IsSound u → q ≢ t.root.name → LeavesTree q t u → u.root ≡ t.root
leaves_root t u q s r m l = let o = (l.outside t.root).0 (inl refl, (λ h. m (top_alone t s q h))) in
    same_name u u.root t.root r (inl refl) o.0 (cc (root_is_one u r, root_is_one t s))

-- a change below another partition
pub leaves_keeps : (t u : Tree) (q : ℕ) → IsSound t → IsSound u → IsName t q → q ≢ t.root.name → LeavesTree q t u
    → KeepsRoot t u
leaves_keeps t u q s r n m l = record {
  name = rw root;
  rows = rw root;
  config = rw root;
  lent = lent;
  words = λ g i h. rw (l.words g (λ j. h (
    node t q,
    kid,
    In-append_right g (config (node t q)) (row_pages (node t q))
        j,
  )));
}
  where
    kid : In (node t q) t.others
    kid = (parent_line t s q n m).0

    root : u.root ≡ t.root
    root = leaves_root t u q s r m l

    lent : (g : ℕ) → IsLent u g → IsLent t g
    lent g (x, i, j) = elim (cases_Bool (has (ancestry u x.name) q)) [
      | inl e ↦
          let (z, a, d, o) = ancestry_over u r x (inr i) q (has_in q _ e) in
          let same : node u q ≡ z = named_node u q r z a d in
          let held : In g (held_pages z) = elim o [
            | inl b ↦ rw b j
            | inr b ↦ In-append_right g (config z) (row_pages z) (holds_up u g r z x b j)
          ] in
          (node t q, kid, subst (λ y. In g y) (ap held_pages (sym same) ∙ sym (ap held_pages l.own)) held)
      | inr e ↦
          let o = (l.outside x).1 (inr i, (λ h. both_ways _ e (in_has q _ h))) in
          (x, other_in u t r s x i o.0, j)
    ]

-- a change of masks or lines alone
keeps_on : (f : Node → Node) → ((x : Node) → held_pages (f x) ≡ held_pages x) → (t : Tree)
    → (f t.root).name ≡ t.root.name → (f t.root).rows ≡ t.root.rows → config (f t.root) ≡ config t.root
    → KeepsRoot t (on_nodes f t)
keeps_on f held t a b c = record {
  name = a;
  rows = b;
  config = c;
  lent = λ g z. let (y, i, e) = In-map_from f z.0 t.others z.1 in
      (y, i, subst (λ l. In g l) (ap held_pages e ∙ held y) z.2);
  words = λ g i h. refl;
}

pub keeps_masked : (t : Tree) (n : ℕ) (b : Bool) → KeepsRoot t (with_masked n b t)
keeps_masked t n b = keeps_on (masked_node n b) (λ x. refl) t refl refl refl

pub keeps_pending : (t : Tree) (js : List ℕ) → KeepsRoot t (with_pending js t)
keeps_pending t js = keeps_on (lines_in t.root.name js) (λ x. refl) t refl refl refl

-- a save to no place
pub unsaved : (t : Tree) (c : Ctx) (g i : ℕ) → word_of ((saved_to t c (Faulted Unmapped)).words g) i
    ≡ word_of (t.words g) i
unsaved t c g i = go (t.words g)
  where
    go : (o : Option (ℕ → ℕ)) → word_of (option_map (λ old. written_block c g (Faulted Unmapped) old) o) i ≡ word_of o i
    go None = refl
    go (Some w) = refl

pub keeps_unsaved : (t : Tree) (c : Ctx) → KeepsRoot t (saved_to t c (Faulted Unmapped))
keeps_unsaved t c = record {
  name = refl;
  rows = refl;
  config = refl;
  lent = λ g h. h;
  words = λ g i h. unsaved t c g i;
}

pub keeps_same : (t : Tree) → KeepsRoot t t
keeps_same t = record {
  name = refl;
  rows = refl;
  config = refl;
  lent = λ g h. h;
  words = λ g i h. refl;
}
