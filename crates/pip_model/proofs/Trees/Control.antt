-- A change of masks and lines alone keeps the tree sound, and so does a store.
use Rattle.std.proofs.Common.{◌≡◌, ℕ, ◌&&◌, Bool, false, not, cond, List, [], refl, sym, ap, ap₂, ◌∙◌, subst, eq-eqb}
use Rattle.std.proofs.Common.{Option}
use Rattle.std.proofs.lemmas.Bool.{ne_eqb}
use Rattle.pip_model.specs.Lists.{In, has}
use Rattle.pip_model.specs.Sound.{AreApart, AreLines, CanRead, GivesNoMore, RowsHaveTables, IsLentBy, IsNamedByBase}
use Rattle.pip_model.specs.Sound.{IsSound, IsWord, KeepsPagesApart}
use Rattle.pip_model.specs.Tree.{Node, Tree, config, on_nodes, row_pages, word_of}
use Rattle.pip_model.specs.Worlds.{lines_in, masked_node, with_masked, with_pending}
use Rattle.std.specs.Prelude.{is_some, ◌<◌}
use Rattle.pip_model.proofs.Trees.Ancestors.{not_root}
use Rattle.pip_model.proofs.Trees.Changes.{each_node, each_other, each_child, each_siblings, rooted, hidden_kept}

-- a node without what moves control
abbrev pub memory : Node → Node
memory x = record x { masked = false; pending = [] }

module _ (x y : Node) (e : memory x ≡ memory y) where
  unique_same : KeepsPagesApart x → KeepsPagesApart y
  unique_same k = let h = subst KeepsPagesApart e (assumption) in
      assumption

  named_same : IsNamedByBase x → IsNamedByBase y
  named_same k = let h = subst IsNamedByBase e (assumption) in
      assumption

  tables_same : RowsHaveTables x → RowsHaveTables y
  tables_same k = let h = subst RowsHaveTables e
      (assumption) in
      assumption

  readable_same : CanRead x → CanRead y
  readable_same k = subst CanRead e k

module _ (x y v w : Node) (e : memory x ≡ memory y) (d : memory v ≡ memory w) where
  lent_same : IsLentBy v x → IsLentBy w y
  lent_same k = let h = subst (λ z. IsLentBy (memory w) z) e
      (rw (← d) (record { rows = k.rows; aligned = k.aligned; placed = k.placed })) in
      assumption

  apart_same : AreApart x v → AreApart y w
  apart_same k = subst (λ z. AreApart (memory y) z) d (subst (λ z. AreApart z (memory v)) e k)

  rights_same : GivesNoMore v x → GivesNoMore w y
  rights_same k = subst (λ z. GivesNoMore (memory w) z) e (subst (λ z. GivesNoMore z (memory x)) d k)

pub control-sound : (f : Node → Node) (t : Tree) → ((x : Node) → memory x ≡ memory (f x)) → ((x : Node) → In x t.others
    → (f x).pending ≡ []) → AreLines 0 (f t.root).pending → IsSound t → IsSound (on_nodes f t)
control-sound f t same quiet lines s =
    let names : (x : Node) → (f x).name ≡ x.name = λ x. ap (λ z. z.name) (sym (same x)) in
    let ups : (x : Node) → (f x).up ≡ x.up = λ x. ap (λ z. z.up) (sym (same x)) in
    record {
      parents_come_first = rooted f t names ups s.parents_come_first;
      boot_root =
          record { small = s.boot_root.small; large = s.boot_root.large; same = rw (← same t.root) s.boot_root.same };
      pages_apart = each_node f t KeepsPagesApart (λ x i. unique_same x (f x) (same x) (s.pages_apart x i));
      lent = each_child f t names ups IsLentBy
          (λ x y i j u. lent_same x (f x) y (f y) (same x) (same y) (s.lent x y i j u));
      named_by_descriptor =
          each_other f t IsNamedByBase (λ x i. named_same x (f x) (same x) (s.named_by_descriptor x i));
      siblings_apart = each_siblings f t names ups AreApart
          (λ x y i j u d. apart_same x (f x) y (f y) (same x) (same y) (s.siblings_apart x y i j u d));
      readable = each_node f t CanRead (λ x i. readable_same x (f x) (same x) (s.readable x i));
      rights = each_child f t names ups GivesNoMore
          (λ x y i j u. rights_same x (f x) y (f y) (same x) (same y) (s.rights x y i j u));
      tables = each_node f t RowsHaveTables (λ x i. tables_same x (f x) (same x) (s.tables x i));
      no_lines_but_the_root = each_other f t (λ x. x.pending ≡ []) quiet;
      words = λ g. s.words g ∙ ap₂ (λ a b. has (row_pages a) g && not b) (same t.root)
          (sym (hidden_kept f t (λ x. ap config (sym (same x))) g));
      lines = lines;
      numbers = s.numbers;
    }

pub masked-sound : (p : ℕ) (b : Bool) (t : Tree) → IsSound t → IsSound (with_masked p b t)
masked-sound p b t s = control-sound (masked_node p b) t (λ x. refl) (λ x i. s.no_lines_but_the_root x i) s.lines s

pub pending-sound : (js : List ℕ) (t : Tree) → AreLines 0 js → IsSound t → IsSound (with_pending js t)
pending-sound js t l s = control-sound (lines_in t.root.name js) t (λ x. refl) (λ x i. ap (λ b. cond b js x.pending)
    (ne_eqb x.name t.root.name (λ e. not_root t s x i (sym e))) ∙ s.no_lines_but_the_root x i)
    (rw (eq-eqb t.root.name t.root.name refl) l) s

-- other words in the same pages keep a tree sound: what an image puts there, or a store
pub words-sound : (t : Tree) (words : ℕ → Option (ℕ → ℕ)) → IsSound t
    → ((g : ℕ) → is_some (words g) ≡ is_some (t.words g)) → ((g i : ℕ) → i < 1024 → IsWord (word_of (words g) i))
    → IsSound (record t { words = words })
words-sound t words s same small = record {
  parents_come_first = s.parents_come_first;
  boot_root = assumption;
  pages_apart = s.pages_apart;
  lent = s.lent;
  named_by_descriptor = s.named_by_descriptor;
  siblings_apart = s.siblings_apart;
  readable = s.readable;
  rights = s.rights;
  tables = s.tables;
  no_lines_but_the_root = s.no_lines_but_the_root;
  words = λ g. same g ∙ s.words g;
  lines = s.lines;
  numbers = small;
}
