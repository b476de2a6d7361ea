-- Where the test of each line says no, the root takes no line.
use Rattle.std.proofs.Common.{◌≡◌, ℕ, suc, ◌+◌, ◌<◌, ◌==◌, not, inl, inr, Bool, true, false, cond}
use Rattle.std.proofs.Common.{List, [], ◌∷◌, refl, sym, ap, ◌∙◌, subst, eqb-true, Option, Some, None}
use Rattle.std.specs.Prelude.{is_none}
use Rattle.std.specs.List.{AllByRecursion}
use Rattle.pip_base.specs.declared.types.Access.TheVariants.{Load}
use Rattle.pip_base.specs.declared.types.Size.TheVariants.{Word}
use Rattle.pip_model.specs.Handlers.{block_at, handler, handler_at, is_reached}
use Rattle.pip_model.specs.Lists.{In}
use Rattle.pip_model.specs.Reach.{Alignment, Faulted, is_misaligned, reach, reach_by_row, word_reached}
use Rattle.pip_model.specs.Sound.{AreLines, IsSound}
use Rattle.pip_model.specs.Tree.{Node, Row, Tree, config, holder, node, row_at, row_pages, vpage}
use Rattle.pip_model.specs.Worlds.{IsSoundWorld, World}
use Rattle.pip_model.proofs.OnLists.Members.{In-append_right, find_in}
use Rattle.pip_model.proofs.Trees.Ancestry.{named_node}
use Rattle.pip_model.proofs.Trees.Children.{holder_none}
use Rattle.pip_model.proofs.Trees.Lookup.{in_other}
use Rattle.pip_apart.specs.Company.{HasNone, IsNoGuests, TakesNoLine, entry_at}
use Rattle.pip_apart.specs.Tops.{first_taken, is_lent, is_set, might_take}
use Rattle.pip_apart.proofs.Root.{root_reach}
use Rattle.pip_apart.proofs.Children.{IsTop, first_none}

-- neither part of such a test says yes
both_off : (a b : Bool) → cond a true b ≡ false → (a ≡ false) × (b ≡ false)
both_off true b e = cc
both_off false b e = (refl, e)

-- the root has no row at vpage 0
no_first_row : (t : Tree) → IsSound t → row_at t.root.rows (vpage 0) ≡ None
no_first_row t s = go (row_at t.root.rows (vpage 0)) refl
  where
    go : (o : Option Row) → row_at t.root.rows (vpage 0) ≡ o → o ≡ None
    go None e = refl
    go (Some r) e =
        let f = find_in (λ r. r.at == vpage 0) r t.root.rows e in
        absurd ((s.tables t.root (inl refl)).first r f.0 (eqb-true r.at (vpage 0) f.1))

-- a page that no child of the root has is no guest's
not_lent : (w : World) (ps : List ℕ) (va : ℕ) → IsSoundWorld w
    → ((p : ℕ) → In p ps → (a : ℕ) × IsTop w.tree a p) → is_lent w.tree (row_at w.tree.root.rows (vpage va)) ≡ false
    → IsNoGuests w ps va
not_lent w ps va s are off r e p i m =
    let t = w.tree in
    let (a, h) = are p i in
    let free : is_none (holder t t.root.name r.frame) ≡ true =
    off_none (holder t t.root.name r.frame) (cc) in
    let none : holder t t.root.name r.frame ≡ None = is_nothing (holder t t.root.name r.frame) free in
    let here : node t p ≡ h.node = named_node t p s.tree h.node (inr h.others) h.name in
    holder_none t t.root.name r.frame h.node.name h.node none (in_other t s.tree h.node h.others) h.up
    (In-append_right r.frame (config h.node) (row_pages h.node) (rw (← here) m))
  where
    off_none : (o : Option Node) → not (is_none o) ≡ false → is_none o ≡ true
    off_none None e = refl
    off_none (Some x) e = cc

    is_nothing : (o : Option Node) → is_none o ≡ true → o ≡ None
    is_nothing None e = refl
    is_nothing (Some x) e = cc

-- the root can't load at address 0
no_first_load : (t : Tree) → IsSound t → is_reached (reach t t.root.name 0 Load Word) ≡ false
no_first_load t s =
    rw (root_reach t 0 s, no_first_row t s)

-- a word that isn't set is 0
unset : (a : ℕ) → is_set (Some a) ≡ false → a ≡ 0
unset a e = eqb-true a 0 (on (a == 0) e)
  where
    on : (b : Bool) → not b ≡ false → b ≡ true
    on true z = refl
    on false z = cc

-- an entry that is 0, or can't be read, names no handler
unset_none : (t : Tree) (k : ℕ) → IsSound t
    → is_set (word_reached t (reach t t.root.name (entry_at k) Load Word)) ≡ false
    → handler t t.root.name k ≡ None
unset_none t k s off = rw (go (word_reached t (reach t t.root.name (entry_at k) Load Word)) off)
  where
    go : (o : Option ℕ) → is_set o ≡ false → block_at t t.root.name o ≡ None
    go None e = refl
    go (Some a) e =
        let zero : a ≡ 0 = unset a e in
        rw (zero, no_first_load t s)

-- where the test of a line says no, the root has no handler, and no guest has a page on which that depends
untaken : (w : World) (ps : List ℕ) (j : ℕ) → IsSoundWorld w → ((p : ℕ) → In p ps → (a : ℕ) × IsTop w.tree a p)
    → might_take w.tree j ≡ false → HasNone w ps (32 + j)
untaken w ps j s are off =
    let t = w.tree in
    let (lent, set) = both_off (is_lent t (row_at t.root.rows (vpage (entry_at (32 + j)))))
    (is_set (word_reached t (reach t t.root.name (entry_at (32 + j)) Load Word))) off in
    record {
      none = unset_none t (32 + j) s.tree set;
      entry = not_lent w ps (entry_at (32 + j)) s are lent;
      block = λ a e r f p i m.
          let zero : a ≡ 0 = unset a (cc) in
          let none = no_first_row t s.tree in
          let bad : None ≡ Some r = cc in cc;
    }

-- pending lines are below 16
pending_below : (low : ℕ) (js : List ℕ) → AreLines low js → AllByRecursion (λ j. j < 16) js
pending_below low [] a = tt
pending_below low (j ∷ js) a = (a.1, pending_below (suc j) js a.2)

pub takes_no_line : (w : World) (ps : List ℕ) → IsSoundWorld w → ((p : ℕ) → In p ps → (a : ℕ) × IsTop w.tree a p)
    → first_taken w.tree ≡ None → TakesNoLine w ps
takes_no_line w ps s are none = record {
  handlers = λ j l. untaken w ps j s are (first_none (might_take w.tree) 16 j none l);
  pending = pending_below 0 w.tree.root.pending s.tree.lines;
}
