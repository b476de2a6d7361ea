-- Words of one table that become free at once, and then table after table.
use Rattle.std.proofs.Common.{◌≡◌, ◌≢◌, ◌⊎◌, ℕ, zero, suc, ◌+◌, ◌-◌, ◌*◌, ◌<◌, ◌≤◌, ◌/◌, ◌%◌, ◌↔◌, Bool, true, false}
use Rattle.std.proofs.Common.{inl, inr, List, [], ◌∷◌, refl, sym, ap, ◌∙◌, subst, arith, get_or-set_other}
use Rattle.std.proofs.Common.{get_or-set_same, length, Option, Some, None}
use Rattle.std.specs.Prelude.{is_some, slice_index, slice_set}
use Rattle.std.proofs.lemmas.Bool.{both_ways, cases_eq, cases_lt}
use Rattle.std.proofs.lemmas.List.{ext_get_or, length-set, set-get_or}
use Rattle.pip_base.specs.Memory.{Memory, frame_at, put_word, word_at}
use Rattle.pip_model.specs.NodeIn.{HasNode, HasTableFor, NodeIn}
use Rattle.pip_model.specs.NodeWords.{TablePage, role}
use Rattle.pip_model.specs.declared.level.Level.{Level}
use Rattle.pip_model.specs.declared.level.Level.TheVariants.{Mmu, Shadow1}
use Rattle.pip_model.specs.Tree.{Node, Tree, table_at, vpage}
use Rattle.pip_model.proofs.Trees.Lookup.{found_name}
use Rattle.pip_space.specs.Levels.{table_frame_at}
use Rattle.pip_space.specs.Tables.{IsNextTables}
use Rattle.pip_space.proofs.Tables.{has_table_found, page_inside}
use Rattle.pip_table.specs.NextWord.{AreZero}
use Rattle.pip_kern.specs.Taking.{row_taken}
use Rattle.pip_birth.specs.Ending.{CanEnd, EndsEachChild, EndsPage, HasConfiguration, HasEnding, IsConfiguration}
use Rattle.pip_birth.specs.Ending.{IsEndingAt, without}
use Rattle.pip_birth.specs.Freeing.{AreFreed, IsHiddenLeaf, IsOpenLeaf, IsTaken, NamesBirthplace}
use Rattle.pip_birth.proofs.DeletePartition.Tree.{parent}
use Rattle.pip_birth.proofs.DeletePartition.Writes.Pages.{born_positive, none_here, row_now, space, word_freed}
use Rattle.pip_birth.proofs.DeletePartition.Writes.Pages.{word_kept, word_taken, x_new}
use Rattle.pip_birth.proofs.DeletePartition.Writes.Words.{page_role, set-set}

-- ---- lists

-- no word is free yet
pub none_freed : (leaves : List ℕ) (born k : ℕ) (ws : List ℕ) → k ≤ 1024 → AreFreed leaves born k ws k ws
none_freed leaves born k ws low = record {
  order = omega arith;
  below = low;
  count = refl;
  freed = λ j above under names. absurd (omega arith);
  kept = λ j above under other. refl;
  outside = λ j away. refl;
}

-- so they are the words that were there
none_changed : (leaves : List ℕ) (born k : ℕ) (old ws : List ℕ) → AreFreed leaves born k old k ws → ws ≡ old
none_changed leaves born k old ws a = ext_get_or 0 ws old a.count
    (λ j low. elim (cases_lt j k) [ inl h ↦ a.outside j (inl h) | inr h ↦ a.outside j (inr h) ])

-- words of 0 name nobody
zeros_freed : (leaves : List ℕ) (born from to : ℕ) (ws : List ℕ) → born ≢ 0 → from ≤ to → to ≤ 1024 → AreZero ws from to
    → AreFreed leaves born from ws to ws
zeros_freed leaves born from to ws ne up low zeros = record {
  order = up;
  below = low;
  count = refl;
  freed = λ j above under names. absurd (ne (let z = zeros j above under in
      let e : slice_index ws j / 4096 ≡ born = names in omega arith));
  kept = λ j above under other. refl;
  outside = λ j away. refl;
}

-- up to an index, and from there on
pub freed_more : (leaves : List ℕ) (born k : ℕ) (old : List ℕ) (i : ℕ) (ws : List ℕ) (j : ℕ) (new : List ℕ)
    → AreFreed leaves born k old i ws → AreFreed leaves born i ws j new → AreFreed leaves born k old j new
freed_more leaves born k old i ws j new a b =
    let low = a.order in
    let high = b.order in
    record {
      order = omega arith;
      below = b.below;
      count = b.count ∙ a.count;
      freed = λ n above under names. elim (cases_lt n i) [
        | inl h ↦ let f = a.freed n above h names in (b.outside n (inl h) ∙ f.0, f.1)
        | inr h ↦ b.freed n h under (rw (a.outside n (inr h)) names)
      ];
      kept = λ n above under other. elim (cases_lt n i) [
        | inl h ↦ b.outside n (inl h) ∙ a.kept n above h other
        | inr h ↦ b.kept n h under (λ names. other (rw (← a.outside n (inr h)) names))
            ∙ a.outside n (inr h)
      ];
      outside = λ n away. elim away [
        | inl h ↦ b.outside n (inl (omega arith)) ∙ a.outside n (inl h)
        | inr h ↦ b.outside n (inr h) ∙ a.outside n (inr (omega arith))
      ];
    }

-- words of 0 more
pub zeros_kept : (leaves : List ℕ) (born k : ℕ) (old : List ℕ) → born ≢ 0 → (from to : ℕ) (ws : List ℕ) → from ≤ to
    → to ≤ 1024 → AreZero ws from to → AreFreed leaves born k old from ws → AreFreed leaves born k old to ws
zeros_kept leaves born k old ne from to ws up low zeros a =
    freed_more leaves born k old from ws to ws a (zeros_freed leaves born from to ws ne up low zeros)

-- a word that became 0
word_zero : (ws : List ℕ) (j : ℕ) → slice_index (slice_set ws j 0) j ≡ 0
word_zero [] j = refl
word_zero (w ∷ ws) zero = refl
word_zero (w ∷ ws) (suc j) = word_zero ws j

-- a word put back
word_back : (ws old : List ℕ) (j : ℕ) → length ws ≡ length old
    → slice_index (slice_set ws j (slice_index old j)) j ≡ slice_index old j
word_back [] [] j e = refl
word_back [] (o ∷ old) j e = cc
word_back (w ∷ ws) [] j e = cc
word_back (w ∷ ws) (o ∷ old) zero e = refl
word_back (w ∷ ws) (o ∷ old) (suc j) e = word_back ws old j (let h : suc (length ws) ≡ suc (length old) = e in cc)

-- one word that becomes free, and one that names another
word_freed_at : (leaves : List ℕ) (born j : ℕ) (ws : List ℕ) → j < 1024 → IsOpenLeaf (slice_index leaves j)
    → NamesBirthplace born (slice_index ws j) → AreFreed leaves born j ws (j + 1) (slice_set ws j 0)
word_freed_at leaves born j ws low opens names = record {
  order = omega arith;
  below = omega arith;
  count = length-set ws j 0;
  freed = λ n above under named. let same : j ≡ n = omega arith in
      rw (← same) (word_zero ws j, opens);
  kept = λ n above under other. let same : j ≡ n = omega arith in
      absurd (other (rw (← same) names));
  outside = λ n away. get_or-set_other ws j n 0 0
      (λ e. elim away [ inl h ↦ absurd (omega arith) | inr h ↦ absurd (omega arith) ]);
}

word_kept_at : (leaves : List ℕ) (born j : ℕ) (ws : List ℕ) → j < 1024 → (NamesBirthplace born (slice_index ws j) → ⊥)
    → AreFreed leaves born j ws (j + 1) ws
word_kept_at leaves born j ws low other = record {
  order = omega arith;
  below = omega arith;
  count = refl;
  freed = λ n above under names. let same : n ≡ j = omega arith in
      absurd (other (rw (← same) names));
  kept = λ n above under others. refl;
  outside = λ n away. refl;
}

-- one word more
pub some_freed : (leaves : List ℕ) (born k : ℕ) (old : List ℕ) (j : ℕ) (ws new : List ℕ) (number : ℕ) (hides : Bool)
    → AreFreed leaves born k old j ws → j < 1024 → slice_index ws j / 4096 ≡ number → number ≡ born → hides ≡ false
    → ((hides ≡ true) ↔ IsHiddenLeaf (slice_index leaves j)) → new ≡ slice_set ws j 0
    → AreFreed leaves born k old (j + 1) new
some_freed leaves born k old j ws new number hides at low names same shown iff is =
    let opens : IsOpenLeaf (slice_index leaves j) = elim (cases_eq (slice_index leaves j / 2 % 2) 0) [
      | inl z ↦ absurd (both_ways hides shown (iff.1 z))
      | inr ne ↦ omega arith
    ] in
    rw is (freed_more leaves born k old j ws (j + 1) (slice_set ws j 0) at
    (word_freed_at leaves born j ws low opens (names ∙ same)))

pub some_kept : (leaves : List ℕ) (born k : ℕ) (old : List ℕ) (j : ℕ) (ws new : List ℕ) (number : ℕ)
    → AreFreed leaves born k old j ws → j < 1024 → slice_index ws j / 4096 ≢ number → number ≡ born → new ≡ ws
    → AreFreed leaves born k old (j + 1) new
some_kept leaves born k old j ws new number at low other same is =
    rw is (freed_more leaves born k old j ws (j + 1) ws at
    (word_kept_at leaves born j ws low (λ e. other (e ∙ sym same))))

-- one word less: there is a word that doesn't name the child, or one that did and became 0
abbrev IsLast : List ℕ → ℕ → ℕ → List ℕ → List ℕ → Type 0
IsLast leaves born j ws new =
    ((NamesBirthplace born (slice_index ws j) → ⊥) × (new ≡ ws))
    ⊎ (NamesBirthplace born (slice_index ws j) × IsOpenLeaf (slice_index leaves j) × (new ≡ slice_set ws j 0))

one_less : (leaves : List ℕ) (born k : ℕ) (old : List ℕ) (j : ℕ) (new : List ℕ) → k ≤ j → AreFreed leaves born k old
    (j + 1) new → (ws : List ℕ) × AreFreed leaves born k old j ws × IsLast leaves born j ws new
one_less leaves born k old j new order a = elim (cases_eq (slice_index old j / 4096) born) [
  | inr other ↦
      let stays : slice_index new j ≡ slice_index old j = a.kept j order (omega arith) other in
      let low = a.below in (
        new,
        record {
          order = order;
          below = omega arith;
          count = a.count;
          freed = λ n above under names. a.freed n above (omega arith) names;
          kept = λ n above under others. a.kept n above (omega arith) others;
          outside = λ n away. elim (cases_eq n j) [
            | inl e ↦ rw e stays
            | inr ne ↦ a.outside n (away_more n k j ne away)
          ];
        },
        inl (λ names. other (rw (← stays, names)), refl),
      )
  | inl names ↦
      let f = a.freed j order (omega arith) names in
      let low = a.below in
      let put = slice_set new j (slice_index old j) in
      let back : slice_index put j ≡ slice_index old j = word_back new old j a.count in (
        put,
        record {
          order = order;
          below = omega arith;
          count = length-set new j (slice_index old j) ∙ a.count;
          freed = λ n above under named. let h = a.freed n above (omega arith) named in
              (get_or-set_other new j n _ 0 (λ e. absurd (omega arith)) ∙ h.0, h.1);
          kept = λ n above under others. get_or-set_other new j n _ 0 (λ e. absurd (omega arith))
              ∙ a.kept n above (omega arith) others;
          outside = λ n away. elim (cases_eq n j) [
            | inl e ↦ rw e back
            | inr ne ↦ get_or-set_other new j n _ 0 ne ∙ a.outside n (away_more n k j ne away)
          ];
        },
        inr (
          rw (back, names),
          f.1,
          cc (set-get_or new j 0, f.0, set-set new j (slice_index old j) 0),
        ),
      )
]
  where
    away_more : (n k j : ℕ) → n ≢ j → (n < k) ⊎ (j ≤ n) → (n < k) ⊎ (j + 1 ≤ n)
    away_more n k j ne away = elim away [ inl h ↦ inl h | inr h ↦ inr (omega arith) ]

-- ---- one table

module _ (t : Tree) (y : Node) (can : CanEnd t y)
    (m : Memory) (i k leaves shadow : ℕ) (i_low : i < 1024) (n : Memory) (at : IsEndingAt t y m (1024 * i + k) n)
    (leaf_page : table_frame_at Mmu (parent t y can).0 i ≡ Some leaves)
    (page : table_frame_at Shadow1 (parent t y can).0 i ≡ Some shadow) where
  abbrev x : Node
  x = (parent t y can).0

  pub two_frames : leaves ≢ shadow
  two_frames e =
      let node = (space t y can m n (1024 * i + k) at).node in
      let a = page_role n x _ node Mmu i leaves leaf_page in
      let b = page_role n x _ node Shadow1 i shadow page in
      let both : Some (TablePage Mmu i) ≡ Some (TablePage Shadow1 i) = rw (← a, e, b) in
      cc

  pub leaves_inside : leaves < length n
  leaves_inside = page_inside n x _ (space t y can m n (1024 * i + k) at).node Mmu i leaves leaf_page

  pub shadow_inside : shadow < length n
  shadow_inside = page_inside n x _ (space t y can m n (1024 * i + k) at).node Shadow1 i shadow page

  -- the memory with these words in the table
  abbrev now : List ℕ → Memory
  now ws = slice_set n shadow ws

  shadow_word : (ws : List ℕ) (j : ℕ) → word_at (now ws) shadow j ≡ slice_index ws j
  unfolding word_at shadow_inside
  shadow_word ws j = rw (get_or-set_same n shadow ws [] shadow_inside)

  leaf_word : (ws : List ℕ) (j : ℕ) → word_at (now ws) leaves j ≡ slice_index (frame_at n leaves) j
  unfolding word_at frame_at two_frames
  leaf_word ws j = rw (get_or-set_other n shadow leaves ws [] two_frames)

  one_word : (ws : List ℕ) (j : ℕ) → now (slice_set ws j 0) ≡ put_word (now ws) shadow j 0
  unfolding put_word shadow_inside
  one_word ws j = cc (set-set n shadow ws (slice_set ws j 0), get_or-set_same n shadow ws [] shadow_inside)

  place : (j : ℕ) → j < 1024 → (1024 * i + j) % 1024 ≡ j
  place j low = omega arith

  page_here : (level : Level) (f j : ℕ) → j < 1024 → table_frame_at level x i ≡ Some f
      → table_frame_at level x ((1024 * i + j) / 1024) ≡ Some f
  page_here level f j low e = let q : (1024 * i + j) / 1024 ≡ i = omega arith in
      rw (q, e)

  -- a number of words on, the pages there have come back
  words_on : (d j : ℕ) (ws : List ℕ) → j ≡ k + d → AreFreed (frame_at n leaves) (vpage y.born) k (frame_at n shadow) j
      ws → IsEndingAt t y m (1024 * i + j) (now ws)
  unfolding frame_at shadow_word leaf_word one_word place page_here
  words_on zero j ws is a =
      let same : k ≡ j = omega arith in
      let none : frame_at n shadow ≡ ws = sym (none_changed (frame_at n leaves) (vpage y.born) k (frame_at n shadow) ws
      (rw (← same) at a)) in
      rw (← same) (subst (λ zs. IsEndingAt t y m (1024 * i + k) (now zs)) none
      (subst (IsEndingAt t y m (1024 * i + k)) (sym (set-get_or n shadow [])) at))
  words_on (suc d) j new is a =
      let last = k + d in
      let next : j ≡ last + 1 = omega arith in
      let low : last < 1024 = omega arith in
      let less = one_less (frame_at n leaves) (vpage y.born) k (frame_at n shadow) last new (omega arith)
      (rw (← next) a) in
      let ws = less.0 in
      let before = words_on d last ws refl less.1 in
      let e : 1024 * i + last + 1 ≡ 1024 * i + j = omega arith in
      rw (← e) (elim less.2 [
        | inl h ↦ subst (λ zs. IsEndingAt t y m (1024 * i + last + 1) (now zs)) (sym h.1)
            (word_kept t y can m (now ws) (1024 * i + last) before shadow (slice_index ws last)
            (omega (arith, i_low, low)) (page_here Shadow1 shadow last low page)
            (ap (word_at (now ws) shadow) (place last low) ∙ shadow_word ws last) h.0)
        | inr h ↦
            subst (λ zs. IsEndingAt t y m (1024 * i + last + 1) (now zs)) (sym h.2)
            (word_freed t y can m (now ws) (1024 * i + last) before shadow (slice_index ws last)
            (omega (arith, i_low, low)) (page_here Shadow1 shadow last low page)
            (ap (word_at (now ws) shadow) (place last low) ∙ shadow_word ws last) h.0 leaves
            (slice_index (frame_at n leaves) last) (page_here Mmu leaves last low leaf_page)
            (ap (word_at (now ws) leaves) (place last low) ∙ leaf_word ws last) h.1
            (now (slice_set ws last 0))
            (one_word ws last ∙ ap (λ q. put_word (now ws) shadow q 0)
            (sym (place last low))))
      ])

  pub so_far : {j : ℕ} → {ws : List ℕ} → AreFreed (frame_at n leaves) (vpage y.born) k (frame_at n shadow) j ws
      → IsEndingAt t y m (1024 * i + j) (now ws)
  unfolding words_on
  so_far {j = j} {ws = ws} a = let h = a.order in words_on (j - k) j ws (omega arith) a

  -- and the word there is of a page of configuration
  pub taken_there : (j : ℕ) (ws : List ℕ) → AreFreed (frame_at n leaves) (vpage y.born) k (frame_at n shadow) j ws
      → IsTaken (frame_at n leaves) ws (vpage y.born) j → IsConfiguration t y leaves (1024 * i + j)
  unfolding shadow_word leaf_word place page_here so_far
  taken_there j ws a h =
      word_taken t y can m (now ws) (1024 * i + j) (so_far a) shadow (slice_index ws j) (omega arith)
      (page_here Shadow1 shadow j h.below page)
      (rw (place j h.below, shadow_word ws j)) h.named leaves
      (slice_index (frame_at n leaves) j) (page_here Mmu leaves j h.below leaf_page)
      (rw (place j h.below, leaf_word ws j)) h.hidden

-- ---- as the code asks

-- what the code's table_for says
abbrev pub TableSays : Memory → ℕ → Level → ℕ → ℕ → Type 0
TableSays m parent_name level v f = (z : Node) (cells : Level → ℕ → ℕ) → NodeIn m z cells → z.name ≡ parent_name
    → table_frame_at level z (v / 1024) ≡ Some f

-- so the parent has that table
pub table_is : (t : Tree) (y : Node) (can : CanEnd t y) (m : Memory) (k : ℕ) (n : Memory) → IsEndingAt t y m k n
    → (parent_name : ℕ) → y.up ≡ parent_name → (level : Level) (i v f : ℕ) → v ≡ 1024 * i
    → TableSays n parent_name level v f → table_frame_at level (parent t y can).0 i ≡ Some f
table_is t y can m k n at parent_name up level i v f is says =
    let index : i ≡ v / 1024 = omega arith in
    ap (table_frame_at level (parent t y can).0) index ∙ says (parent t y can).0 _ (space t y can m n k at).node
    (found_name (without t y) y.up (parent t y can).0 (x_new t y can) ∙ up)

-- the first vpage of a directory index
pub room_first : (n : Memory) (parent_name i v : ℕ) → v ≡ 1024 * i → HasTableFor n parent_name (1024 * i)
    → HasTableFor n parent_name v
room_first n parent_name i v is h = rw is h

-- further on
pub ending_next : (m n : Memory) (parent_name born k q : ℕ) → EndsEachChild parent_name born k q m n
    → HasEnding m parent_name born k → HasEnding n parent_name born q
ending_next m n parent_name born k q says h = record {
  tree = h.tree;
  node = h.node;
  start = h.start;
  can = h.can;
  up = h.up;
  place = h.place;
  at = says h.tree h.node h.start h.can h.up h.place h.at;
}

pub born_place : (n : Memory) (parent_name born k : ℕ) → HasEnding n parent_name born k → born ≢ 0
born_place n parent_name born k h e = born_positive h.tree h.node h.can (h.place ∙ e)

-- where the tables of a directory index are, at first and further on
module _ (m n : Memory) (parent_name born i k leaves shadow : ℕ) (i_low : i < 1024) (h : HasEnding m parent_name born
    (1024 * i)) (so : EndsEachChild parent_name born (1024 * i) (1024 * i + k) m n) (v : ℕ) (is : v ≡ 1024 * i)
    (leaves_say : TableSays m parent_name Mmu v leaves) (shadow_says : TableSays m parent_name Shadow1 v shadow) where
  leaf_page : (t : Tree) (y : Node) (can : CanEnd t y) (start : Memory) → IsEndingAt t y start (1024 * i) m
      → y.up ≡ parent_name → table_frame_at Mmu (parent t y can).0 i ≡ Some leaves
  leaf_page t y can start at up = table_is t y can start (1024 * i) m at parent_name up Mmu i v leaves is leaves_say

  page : (t : Tree) (y : Node) (can : CanEnd t y) (start : Memory) → IsEndingAt t y start (1024 * i) m
      → y.up ≡ parent_name → table_frame_at Shadow1 (parent t y can).0 i ≡ Some shadow
  page t y can start at up = table_is t y can start (1024 * i) m at parent_name up Shadow1 i v shadow is shadow_says

  pub tables_apart : leaves ≢ shadow
  unfolding leaf_page page
  tables_apart = two_frames h.tree h.node h.can h.start i k leaves shadow i_low n (so h.tree h.node h.start h.can h.up
      h.place h.at) (leaf_page h.tree h.node h.can h.start h.at h.up) (page h.tree h.node h.can h.start h.at h.up)

  -- up to the next page of configuration, or to the end
  pub freed_to : (l : Memory) (j : ℕ) (ws : List ℕ) → AreFreed (frame_at n leaves) born k (frame_at n shadow) j ws
      → l ≡ slice_set n shadow ws → EndsEachChild parent_name born (1024 * i) (1024 * i + j) m l
  unfolding leaf_page page
  freed_to l j ws a written t y start can up place at =
      rw written (so_far t y can start i k leaves shadow i_low n (so t y start can up place at)
      (leaf_page t y can start at up) (page t y can start at up)
      (subst (λ b. AreFreed (frame_at n leaves) b k (frame_at n shadow) j ws) (sym place) a))

  pub next_page : (l : Memory) (j : ℕ) (ws : List ℕ) → AreFreed (frame_at n leaves) born k (frame_at n shadow) j ws
      → IsTaken (frame_at n leaves) ws born j → (t : Tree) (y : Node) (start : Memory) → CanEnd t y → y.up ≡ parent_name
      → vpage y.born ≡ born → IsEndingAt t y start (1024 * i) m → IsConfiguration t y leaves (1024 * i + j)
  unfolding leaf_page page
  next_page l j ws a h t y start can up place at =
      taken_there t y can start i k leaves shadow i_low n (so t y start can up place at) (leaf_page t y can start at up)
      (page t y can start at up) j ws
      (rw place a)
      (rw place h)

  pub has_page : (l : Memory) (j : ℕ) (ws : List ℕ) → AreFreed (frame_at n leaves) born k (frame_at n shadow) j ws
      → IsTaken (frame_at n leaves) ws born j → l ≡ slice_set n shadow ws → (w : ℕ) → w ≡ 1024 * i + j
      → HasConfiguration l parent_name leaves w
  unfolding freed_to next_page
  has_page l j ws a taken written w at = rw at (record {
    tree = h.tree;
    node = h.node;
    start = h.start;
    can = h.can;
    up = h.up;
    at =
        freed_to l j ws a written h.tree h.node h.start h.can h.up h.place h.at;
    next =
        next_page l j ws a taken h.tree h.node h.start h.can h.up h.place h.at;
  })

  -- and after that page
  pub next_ended : (l : Memory) (j : ℕ) (ws : List ℕ) → AreFreed (frame_at n leaves) born k (frame_at n shadow) j ws
      → IsTaken (frame_at n leaves) ws born j → l ≡ slice_set n shadow ws → (q : Memory) (w : ℕ) → w ≡ 1024 * i + j
      → EndsPage parent_name leaves w l q → EndsEachChild parent_name born (1024 * i) (1024 * i + (j + 1)) m q
  unfolding freed_to next_page
  next_ended l j ws a taken written q w there says t y start can up place at =
      let e : 1024 * i + j + 1 ≡ 1024 * i + (j + 1) = omega arith in
      rw (← e) (subst (λ p. EndsPage parent_name leaves p l q) there says t y start can up
      (next_page l j ws a taken t y start can up place at) (freed_to l j ws a written t y start can up place at))

-- ---- table after table

-- there are no pages where there are no tables
pub tables_past : (t : Tree) (y : Node) (can : CanEnd t y) (m : Memory) (from to : ℕ) (n : Memory) → from ≤ to
    → IsEndingAt t y m (1024 * from) n → ((i : ℕ) → from ≤ i → i < to → table_at (parent t y can).0.tables i ≡ None)
    → IsEndingAt t y m (1024 * to) n
tables_past t y can m from to n up k none =
    none_here t y can m n (1024 * from) (1024 * to) (omega arith) k (λ a r low high at h.
    let x = (parent t y can).0 in
    let on = ((space t y can m n (1024 * from) k).tabled a (row_taken k.back true r)
    (row_now t y can m n (1024 * from) k a r at)).1 in
    let off = none (a / 1024) (omega arith) (omega arith) in
    absurd (both_ways (is_some (table_at x.tables (a / 1024))) (rw off) (rw (← has_table_found x a) on)))

-- what the code's next_tables says
abbrev pub NextSays : Memory → ℕ → ℕ → Option ℕ → Type 0
NextSays n parent_name from o = (z : Node) (cells : Level → ℕ → ℕ) → NodeIn n z cells → z.name ≡ parent_name
    → IsNextTables z from o

pub next_is : (t : Tree) (y : Node) (can : CanEnd t y) (m : Memory) (k : ℕ) (n : Memory) → IsEndingAt t y m k n
    → (parent_name : ℕ) → y.up ≡ parent_name → (from : ℕ) (o : Option ℕ) → NextSays n parent_name from o
    → IsNextTables (parent t y can).0 from o
next_is t y can m k n at parent_name up from o says = says (parent t y can).0 _ (space t y can m n k at).node
    (found_name (without t y) y.up (parent t y can).0 (x_new t y can) ∙ up)

-- the parent is there
pub parent_there : (n : Memory) (parent_name born k : ℕ) → HasEnding n parent_name born k → HasNode n parent_name
parent_there n parent_name born k h = record {
  node = (parent h.tree h.node h.can).0;
  cells = _;
  is_in = (space h.tree h.node h.can h.start n k h.at).node;
  name = found_name (without h.tree h.node) h.node.up (parent h.tree h.node h.can).0 (x_new h.tree h.node h.can) ∙ h.up;
}

-- up to the next tables
pub next_tables_at : (m n : Memory) (parent_name born from i : ℕ) → EndsEachChild parent_name born 0 (1024 * from) m n
    → NextSays n parent_name from (Some i) → EndsEachChild parent_name born 0 (1024 * i) m n
unfolding tables_past next_is
next_tables_at m n parent_name born from i so says t y start can up place at =
    let k = so t y start can up place at in
    let h = next_is t y can start (1024 * from) n k parent_name up from (Some i) says in
    tables_past t y can start from i n h.0 k h.3

pub no_more_tables : (m n : Memory) (parent_name born from : ℕ) → from ≤ 1024 → EndsEachChild parent_name born 0
    (1024 * from) m n → NextSays n parent_name from None → EndsEachChild parent_name born 0 (1024 * 1024) m n
unfolding tables_past next_is
no_more_tables m n parent_name born from low so says t y start can up place at =
    let k = so t y start can up place at in
    let h = next_is t y can start (1024 * from) n k parent_name up from None says in
    tables_past t y can start from 1024 n low k h

-- the parent has tables there
pub room_next : (n : Memory) (parent_name born from i : ℕ) → HasEnding n parent_name born (1024 * from)
    → NextSays n parent_name from (Some i) → HasTableFor n parent_name (1024 * i)
unfolding next_is parent_there
room_next n parent_name born from i h says =
    let x = (parent h.tree h.node h.can).0 in
    let d = next_is h.tree h.node h.can h.start (1024 * from) n h.at parent_name h.up from (Some i) says in
    let index : 1024 * i / 1024 ≡ i = omega arith in
    record {
      held = parent_there n parent_name born (1024 * from) h;
      tabled = rw (has_table_found x (1024 * i), index, d.2);
    }

-- which is above the last
pub index_next : (m n : Memory) (parent_name born from i : ℕ) → EndsEachChild parent_name born 0 (1024 * from) m n
    → HasEnding m parent_name born 0 → NextSays n parent_name from (Some i) → (from ≤ i) × (i < 1024)
unfolding next_is
index_next m n parent_name born from i so h says =
    let d = next_is h.tree h.node h.can h.start (1024 * from) n (so h.tree h.node h.start h.can h.up h.place h.at)
    parent_name h.up from (Some i) says in
    (d.0, d.1)

-- so one more table is done
pub one_table : (m n l : Memory) (parent_name born from i : ℕ) → EndsEachChild parent_name born 0 (1024 * from) m n
    → NextSays n parent_name from (Some i) → EndsEachChild parent_name born (1024 * i) (1024 * i + 1024) n l
    → EndsEachChild parent_name born 0 (1024 * (i + 1)) m l
unfolding next_tables_at
one_table m n l parent_name born from i so says takes t y start can up place at =
    let e : 1024 * i + 1024 ≡ 1024 * (i + 1) = omega arith in
    rw (← e) (takes t y start can up place (next_tables_at m n parent_name born from i so says t y start can up place
    at))
