-- The law of the audit: a memory is found to lay out a tree exactly where it lays out a sound one.
use Rattle.std.proofs.Common.{◌≡◌, ℕ, zero, suc, ◌+◌, ◌/◌, ◌%◌, ◌≤◌, ◌<◌, ◌==◌, ◌&&◌, ◌⊎◌, inl, inr, Bool, true, false}
use Rattle.std.proofs.Common.{not, cond, List, [], ◌∷◌, ◌++◌, length, refl, sym, ap, ap₂, ◌∙◌, subst, arith, eqb-true}
use Rattle.std.proofs.Common.{eq-eqb, Option, Some, None}
use Rattle.std.specs.Prelude.{slice_index}
use Rattle.std.proofs.lemmas.Bool.{cases_eq, cases_lt}
use Rattle.std.proofs.lemmas.List.{get_or_past}
use Rattle.pip_base.specs.Memory.{IsMemory, word_at}
use Rattle.pip_model.specs.declared.reading.Difference.{Difference}
use Rattle.pip_model.specs.Audit.{FoundAreLayouts, HasWordsOnly, Lays, LayoutsAreFound, difference, difference_between}
use Rattle.pip_model.specs.Audit.{difference_from, finding, finding_at, finding_of, frame_difference}
use Rattle.pip_model.specs.Layout.{LaysOut, layout}
use Rattle.pip_model.specs.Lists.{In, has}
use Rattle.pip_model.specs.Parts.{broken_part}
use Rattle.pip_model.specs.ReadOff.{Complete, Halts, IsTree, Reading, Stopped, TreeRead, Visit, bare_tree, first}
use Rattle.pip_model.specs.ReadOff.{lines_read, node_read, node_stop, or_first, reading_unless, tree_of}
use Rattle.pip_model.specs.ReadOff.{tree_of_reading, tree_unless, tree_of_nodes, visits, walk}
use Rattle.pip_model.specs.declared.reading.Stop.{Stop}
use Rattle.pip_model.specs.Sound.{AreLines, HasSmallWords, IsSound, IsWord}
use Rattle.pip_model.specs.Tree.{Node, Tree, hidden, names_of, row_pages, word_of}
use Rattle.pip_model.proofs.Audit.Over.{first_none}
use Rattle.pip_model.proofs.Audit.PartTests.{all_hold, tests_parents_come_first, tests_boot_root, tests_pages_apart}
use Rattle.pip_model.proofs.Audit.PartTests.{tests_lent, tests_siblings_apart, tests_rights, tests_tables_of_rows}
use Rattle.pip_model.proofs.Audit.PartTests.{tests_no_lines_but_the_root, unbroken}
use Rattle.pip_model.proofs.Audit.TreeBack.{is_some_cond, read_back}

-- ---- from layouts

sound_holds : (t : Tree) → IsSound t → broken_part t ≡ None
sound_holds t s = all_hold t
    ((tests_parents_come_first t).from s.parents_come_first)
    ((tests_boot_root t).from s.boot_root)
    ((tests_pages_apart t).from s.pages_apart)
    ((tests_lent t).from (s.lent, s.named_by_descriptor))
    ((tests_siblings_apart t).from s.siblings_apart)
    ((tests_rights t).from (s.readable, s.rights))
    ((tests_tables_of_rows t).from s.tables)
    ((tests_no_lines_but_the_root t).from s.no_lines_but_the_root)

no_difference : (t : Tree) (m : List (List ℕ)) → LaysOut t m → difference m t ≡ None
unfolding difference_from frame_difference
no_difference t m lays = first_none (frame_difference m (layout t)) 0 (length m)
    (λ f lo hi. first_none (λ i. difference_between f i (word_at m f i) (layout t f i)) 0 1024 (λ i low high.
    let count = lays.count in
    let same = lays.word f i (omega arith) (omega arith) in
    rw (eq-eqb (word_at m f i) (layout t f i) same)))

pub layouts_found : LayoutsAreFound
unfolding finding
layouts_found t m s lays =
    let r = read_back t s m lays in
    record {
      tree = r.tree;
      is =
          rw (r.is, ap₂ (finding_at r.tree) (sound_holds r.tree r.sound) (no_difference r.tree m r.lays));
      same = r.same;
    }

-- ---- to layouts

pub first_none_back : {A : Type 0} (f : ℕ → Option A) (from n : ℕ) → first f from n ≡ None → (k : ℕ) → from ≤ k
    → k < from + n → f k ≡ None
unfolding first
first_none_back f from zero e k lo hi = absurd (omega arith)
first_none_back {A} f from (suc n) e k lo hi =
    let r = split (f from) (first f (from + 1) n) e in
    elim (cases_eq from k) [
      | inl q ↦ rw (← q, r.0)
      | inr ne ↦ first_none_back f (from + 1) n r.1 k (omega arith) (omega arith)
    ]
  where
    split : (a b : Option A) → or_first a b ≡ None → (a ≡ None) × (b ≡ None)
    split None b e = (refl, e)
    split (Some a) b e = cc

-- every node that is read is read of a frame
walk_made : (m : List (List ℕ)) (root : Node) (n : ℕ) (vs : List Visit) (others us : List Node)
    → walk m root n vs others ≡ Complete us → (z : Node) → In z us → In z others ⊎ ((f : ℕ) × (z ≡ node_read m f))
unfolding walk
walk_made m root zero [] others us e z i = inl (let same : us ≡ others = done others us e in rw (← same) i)
  where
    done : (a b : List Node) → Complete a ≡ Complete b → b ≡ a
    done a b e = cc
walk_made m root (suc n) [] others us e z i = inl (let same : us ≡ others = done others us e in rw (← same) i)
  where
    done : (a b : List Node) → Complete a ≡ Complete b → b ≡ a
    done a b e = cc
walk_made m root zero (v ∷ vs) others us e z i = absurd (never v.told us e)
  where
    never : (s : Stop) (us : List Node) → Stopped s ≡ Complete us → ⊥
    never s us e = cc
walk_made m root (suc n) (v ∷ vs) others us e z i =
    let next = passed (has (names_of (root ∷ others)) v.page) (node_stop m v.page)
    (walk m root n (visits m (node_read m v.page) ++ vs) (node_read m v.page ∷ others)) e in
    elim (walk_made m root n (visits m (node_read m v.page) ++ vs) (node_read m v.page ∷ others) us next z i) [
      | inl (inl q) ↦ inr (v.page, q)
      | inl (inr j) ↦ inl j
      | inr made ↦ inr made
    ]
  where
    passed : (b : Bool) (o : Option Stop) (r : Reading) → cond b (Stopped v.told) (reading_unless o r) ≡ Complete us
        → r ≡ Complete us
    passed true o r e = cc
    passed false None r e = e
    passed false (Some s) r e = cc

-- what a tree that is read is made of
pub record IsMadeOf (m : List (List ℕ)) (t : Tree) : Type 0 where
  pub root : Node
  pub others : List Node
  pub is : t ≡ tree_of_nodes m root others
  pub made : (x : Node) → In x (root ∷ others) → (f : ℕ) × (x ≡ node_read m f)

made_of : (m : List (List ℕ)) (t : Tree) → tree_of m ≡ IsTree t → IsMadeOf m t
unfolding tree_of
made_of m t e = go (node_stop m 1) (walk m (node_read m 1) (length m) (visits m (node_read m 1)) []) refl e
  where
    go : (o : Option Stop) (r : Reading) → walk m (node_read m 1) (length m) (visits m (node_read m 1)) [] ≡ r
        → tree_unless o (tree_of_reading m (node_read m 1) r) ≡ IsTree t → IsMadeOf m t
    go (Some s) r w e = cc
    go None (Stopped s) w e = cc
    go None (Complete us) w e = record {
      root = node_read m 1;
      others = us;
      is = the (tree_of_nodes m (node_read m 1) us) t e;
      made = λ x i. elim i [
        | inl q ↦ (1, q)
        | inr j ↦ elim (walk_made m (node_read m 1) (length m) (visits m (node_read m 1)) [] us w x j)
            [ inl k ↦ absurd k | inr made ↦ made ]
      ];
    }
      where
        the : (a b : Tree) → IsTree a ≡ IsTree b → b ≡ a
        the a b e = cc

-- lines that are read are lines
fewer : (low more : ℕ) (js : List ℕ) → low ≤ more → AreLines more js → AreLines low js
fewer low more [] h l = tt
fewer low more (j ∷ js) h l = let a = l.0 in (omega arith, l.1, l.2)

lines_are : (k low w : ℕ) → low + k ≤ 16 → AreLines low (lines_read k low w)
unfolding lines_read
lines_are zero low w h = tt
lines_are (suc k) low w h = go (w % 2 == 1) (lines_are k (low + 1) (w / 2) (omega arith))
  where
    go : (b : Bool) → AreLines (low + 1) (lines_read k (low + 1) (w / 2))
        → AreLines low (cond b (low ∷ lines_read k (low + 1) (w / 2)) (lines_read k (low + 1) (w / 2)))
    go true l = let s : low + 1 ≡ suc low = omega arith in
        (omega arith, omega arith, rw (← s) l)
    go false l = fewer low (low + 1) (lines_read k (low + 1) (w / 2)) (omega arith) l

module _ (m : List (List ℕ)) (w : HasWordsOnly m) where
  -- every word is one, also where there is none
  any_word : (f i : ℕ) → i < 1024 → IsWord (word_at m f i)
  unfolding word_at
  any_word f i h = elim (cases_lt f (length m)) [
    | inl l ↦ w f i l h
    | inr l ↦ let z : word_at m f i ≡ 0 = rw (get_or_past m f [] l) in omega arith
  ]

  -- a tree that is read and breaks no part is sound
  module _ (root : Node) (others : List Node)
      (made : (x : Node) → In x (root ∷ others) → (f : ℕ) × (x ≡ node_read m f)) where
    lines_of : (x : Node) (f : ℕ) → x ≡ node_read m f → AreLines 0 x.pending
    unfolding node_read
    lines_of x f e = rw e (lines_are 16 0 (word_at m f 15) (omega arith))

    small_words : HasSmallWords (tree_of_nodes m root others)
    unfolding any_word
    small_words g i h = go (has (row_pages root) g && not (hidden (bare_tree m root others) g))
      where
        go : (b : Bool) → IsWord (word_of (cond b (Some (word_at m g)) None) i)
        go true = any_word g i h
        go false = omega arith

    pub read_sound : broken_part (tree_of_nodes m root others) ≡ None → IsSound (tree_of_nodes m root others)
    unfolding lines_of small_words
    read_sound e =
        let t : Tree = tree_of_nodes m root others in
        let (p1, p2, p3, p4, p5, p6, p7, p8) = unbroken t e in
        let four = (tests_lent t).to p4 in
        let six = (tests_rights t).to p6 in
        record {
          parents_come_first = (tests_parents_come_first t).to p1;
          boot_root = (tests_boot_root t).to p2;
          pages_apart = (tests_pages_apart t).to p3;
          lent = four.0;
          named_by_descriptor = four.1;
          siblings_apart = (tests_siblings_apart t).to p5;
          readable = six.0;
          rights = six.1;
          tables = (tests_tables_of_rows t).to p7;
          no_lines_but_the_root = (tests_no_lines_but_the_root t).to p8;
          words = λ g. is_some_cond (has (row_pages root) g && not (hidden (bare_tree m root others) g)) (word_at m g);
          lines = let k = made root (inl refl) in lines_of root k.0 k.1;
          numbers = small_words;
        }

-- a memory without difference lays the tree out
lays_out : (m : List (List ℕ)) (t : Tree) → IsMemory m → length m ≡ t.frames → difference m t ≡ None → LaysOut t m
unfolding difference_from frame_difference
lays_out m t shape count e = record {
  shape = shape;
  count = count;
  word = λ f i f_in i_in.
      let in_frame : frame_difference m (layout t) f ≡ None =
      first_none_back (frame_difference m (layout t)) 0 (length m) e f (omega arith) (omega arith) in
      equal f i (first_none_back (λ i. difference_between f i (word_at m f i) (layout t f i)) 0 1024 in_frame i
      (omega arith) (omega arith));
}
  where
    equal : (f i : ℕ) → difference_between f i (word_at m f i) (layout t f i) ≡ None → word_at m f i ≡ layout t f i
    equal f i e = go (word_at m f i == layout t f i) refl e
      where
        go : (b : Bool) → (word_at m f i == layout t f i) ≡ b → ◌≡◌ {A = Option Difference}
            (cond b None (Some (record { frame = f; index = i; found = word_at m f i; want = layout t f i }))) None
            → word_at m f i ≡ layout t f i
        go true q e = eqb-true (word_at m f i) (layout t f i) q
        go false q e = cc

pub found_layouts : FoundAreLayouts
unfolding finding
found_layouts t m shape words e = go (tree_of m) refl e
  where
    parts : (u : Tree) (o : Option ℕ) (d : Option Difference) → finding_at u o d ≡ Lays t
        → (o ≡ None) × (d ≡ None) × (u ≡ t)
    parts u (Some p) d e = cc
    parts u None (Some d) e = cc
    parts u None None e = (refl, refl, cc)

    with_tree : (u : Tree) → IsMadeOf m u → broken_part u ≡ None → difference m u ≡ None → IsSound u × LaysOut u m
    with_tree u made b d =
        let s : IsSound (tree_of_nodes m made.root made.others) =
        read_sound m words made.root made.others made.made (rw (← made.is, b)) in
        (rw made.is s, lays_out m u shape (cc (made.is)) d)

    go : (r : TreeRead) → tree_of m ≡ r → finding_of m r ≡ Lays t → IsSound t × LaysOut t m
    go (Halts s) k e = cc
    go (IsTree u) k e = let p = parts u (broken_part u) (difference m u) e in
        rw (← p.2) (with_tree u (made_of m u k) p.0 p.1)
