-- The pages that the root can use: it has a row with all rights, and no child has the page.
use Rattle.std.proofs.Common.{◌≡◌, ℕ, ◌+◌, ◌-◌, ◌*◌, ◌/◌, ◌%◌, ◌≤◌, ◌<◌, ◌==◌, inl, inr, Bool, true, false, not, cond}
use Rattle.std.proofs.Common.{refl, ap, ap₂, ◌∙◌, subst, arith, eq-eqb, Option, Some, None, bit_and}
use Rattle.std.specs.Prelude.{is_none, option_map}
use Rattle.std.proofs.lemmas.Bool.{cases_lt}
use Rattle.pip_base.specs.declared.types.Access.TheVariants.{Store}
use Rattle.pip_base.specs.declared.types.Size.TheVariants.{Word}
use Rattle.pip_model.specs.Boot.{boot_root, frame_of_root, tables_of_root}
use Rattle.pip_model.specs.Reach.{Alignment, Faulted, Hidden, Place, Right, reach, reach_by_row}
use Rattle.pip_model.specs.Sound.{IsSound}
use Rattle.pip_model.specs.Tree.{Row, Tree, free, hidden, holder, is_free_row, node, row_at, vpage}
use Rattle.pip_model.proofs.OnLists.Members.{In-map, find_in}
use Rattle.pip_model.proofs.Trees.Boot.{root-frame_between, root-frame_last, root_rights, root_tables-least}
use Rattle.pip_model.proofs.Trees.Free.{hidden_from, no_holder-unheld, node_found, unheld-config}
use Rattle.pip_model.proofs.Trees.Lookup.{node_is, root_found}
use Rattle.pip_native.specs.Watching.{pages_taken}

pub record IsOpen (t : Tree) (v : ℕ) : Type 0 where
  pub row : Row
  pub found : row_at (node t t.root.name).rows v ≡ Some row
  pub rights : row.rights ≡ 7
  pub free : free t t.root.name v ≡ true

-- the root has few tables, so that that many pages stand before the last
few_tables : (n m : ℕ) → 16 ≤ n → n ≤ 4096 → m ≤ 8 → pages_taken m + 13 ≤ n → (k : ℕ) → k < pages_taken m
    → k < n - 1 - (9 + 3 * tables_of_root n)
few_tables n m a b c d k l = elim (cases_lt n 1038) [
  | inl e ↦ let t = root_tables-least n 1 (omega arith) (omega arith) in omega arith
  | inr e ↦ let t = root_tables-least n 4 (omega arith) (omega arith) in omega arith
]

module _ (t : Tree) (s : IsSound t) where
  its_rows : (node t t.root.name).rows ≡ (boot_root t.frames).rows
  its_rows = ap (λ x. x.rows) (node_is t t.root.name t.root (root_found t)) ∙ ap (λ x. x.rows) s.boot_root.same

  row_of_frame : (v f : ℕ) → Some f ≡ frame_of_root t.frames v
      → (r : Row) × (row_at (node t t.root.name).rows v ≡ Some r) × (r.rights ≡ 7)
  row_of_frame v f e = go (row_at (boot_root t.frames).rows v) refl e
    where
      go : (o : Option Row) → row_at (boot_root t.frames).rows v ≡ o → Some f ≡ option_map (λ r. r.frame) o
          → (r : Row) × (row_at (node t t.root.name).rows v ≡ Some r) × (r.rights ≡ 7)
      go None q e = cc
      go (Some r) q e = (
        r,
        ap (λ rows. row_at rows v) its_rows ∙ q,
        root_rights t.frames r (find_in (λ r. r.at == v) r (boot_root t.frames).rows q).0,
      )

  pub row_top : (r : Row) × (row_at (node t t.root.name).rows 0xfffff ≡ Some r) × (r.rights ≡ 7)
  row_top = row_of_frame 0xfffff
      (t.frames - 1) (root-frame_last t.frames 0xfffff (t.frames - 1) s.boot_root.small s.boot_root.large refl refl)

  pub row_page : (m k : ℕ) → m ≤ 8 → pages_taken m + 13 ≤ t.frames → k < pages_taken m
      → (r : Row) × (row_at (node t t.root.name).rows (1024 + k) ≡ Some r) × (r.rights ≡ 7)
  row_page m k a d l =
      let small = few_tables t.frames m s.boot_root.small s.boot_root.large a d k l in
      let e : 1024 + k - 1024 ≡ k = omega arith in
      row_of_frame (1024 + k) (9 + 3 * tables_of_root t.frames + (1024 + k - 1024)) (root-frame_between t.frames
      (tables_of_root t.frames) (1024 + k) (9 + 3 * tables_of_root t.frames + (1024 + k - 1024)) refl (omega arith)
      (omega arith) refl)

  pub open_top : free t t.root.name 0xfffff ≡ true → IsOpen t 0xfffff
  open_top f = let (r, q, k) = row_top in record { row = r; found = q; rights = k; free = f }

  pub open_page : (m k : ℕ) → m ≤ 8 → pages_taken m + 13 ≤ t.frames → k < pages_taken m
      → free t t.root.name (1024 + k) ≡ true → IsOpen t (1024 + k)
  open_page m k a d l f = let (r, q, z) = row_page m k a d l in record { row = r; found = q; rights = z; free = f }

  -- what it reaches there
  module _ (v : ℕ) (o : IsOpen t v) where
    unseen : hidden t o.row.frame ≡ false
    unseen = go (hidden t o.row.frame) refl
      where
        unheld : holder t t.root.name o.row.frame ≡ None
        unheld =
            none (holder t t.root.name o.row.frame) (subst (λ r. is_free_row t t.root.name r ≡ true) o.found o.free)
          where
            none : {A : Type 0} (c : Option A) → is_none c ≡ true → c ≡ None
            none None e = refl
            none (Some c) e = cc

        go : (b : Bool) → hidden t o.row.frame ≡ b → b ≡ false
        go false e = refl
        go true e =
            let (x, j, c) = hidden_from t o.row.frame e in
            let here = node_found t t.root.name (inl refl) in
            let placed = In-map (λ r. r.frame) o.row (node t t.root.name).rows
            (find_in (λ r. r.at == v) o.row (node t t.root.name).rows o.found).0 in
            absurd (unheld-config t t.root.name o.row.frame s (node t t.root.name) here.0 here.1 placed
            (no_holder-unheld t t.root.name o.row.frame unheld) x j c)

    pub reached : (a : ℕ) → vpage a ≡ v → a % 4 ≡ 0
        → reach t t.root.name a Store Word ≡ Place o.row.frame (a % 4096 / 4)
    reached a at four =
        ap (λ c. cond (not c) (Faulted Alignment) (reach_by_row t a Store (row_at (node t t.root.name).rows (vpage a))))
        (eq-eqb (a % 4) 0 four)
        ∙ ap (reach_by_row t a Store) (ap (row_at (node t t.root.name).rows) at ∙ o.found)
        ∙ ap₂ (λ x y. cond x (Faulted Hidden) (cond (not y) (Faulted Right) (Place o.row.frame (a % 4096 / 4)))) unseen
        (ap (λ r. bit_and 2 r == 2) o.rights)
