-- The boot tree is sound.
use Rattle.std.proofs.Common.{◌≡◌, ℕ, zero, suc, ◌+◌, ◌-◌, ◌*◌, ◌≤◌, ◌<◌, ◌⊎◌, ◌&&◌, ◌||◌, inl, inr, Bool, true, false}
use Rattle.std.proofs.Common.{not, cond, List, [], ◌∷◌, ◌++◌, map, refl, sym, ap, ◌∙◌, subst, arith, Some, None}
use Rattle.std.specs.Prelude.{◌≢◌, option_map, is_some, nat_le, nat_lt, flat_map, length}
use Rattle.std.proofs.lemmas.Bool.Decides.{nat_tests}
use Rattle.std.proofs.lemmas.Bool.{cases_lt, cases_eq, eq-eqb, ne_eqb}
use Rattle.pip_model.specs.Boot.{boot_root, frame_of_root, boot_tree, boot_tree_with, first_user, rows_from}
use Rattle.pip_model.specs.Boot.{tables_from, tables_of_root, zero_words}
use Rattle.pip_model.specs.Lists.{In, Rising, has}
use Rattle.pip_model.specs.Sound.{AreAmong, ArePageWords, CanRead, RowsHaveTables, HasVisibleWords, IsSound, IsWord}
use Rattle.pip_model.specs.Sound.{KeepsPagesApart}
use Rattle.pip_model.specs.Tree.{Row, Table, config, dir, held_pages, row_at, row_pages, table_pairs, word_of}
use Rattle.pip_model.proofs.OnLists.Members.{In-append_cases, In-map_from, has_in, Distinct-apart, Rising-low}
use Rattle.pip_model.proofs.OnLists.Members.{Rising-distinct}

Rising-from : (low less : ℕ) (xs : List ℕ) → less ≤ low → Rising low xs → Rising less xs
Rising-from low less [] h r = tt
Rising-from low less (x ∷ xs) h r = let k = r.0 in (omega arith, r.1)

row_pages_rise : (k v g low : ℕ) → low ≤ g → Rising low (map (λ r. r.frame) (rows_from k v g))
row_pages_rise zero v g low h = (h, tt)
row_pages_rise (suc k) v g low h = (h, row_pages_rise k (v + 1) (g + 1) (g + 1) (omega arith))

row_places_rise : (k v g low : ℕ) → low ≤ v → v + k ≤ 1048575 → Rising low (map (λ r. r.at) (rows_from k v g))
row_places_rise zero v g low h b = (omega arith, tt)
row_places_rise (suc k) v g low h b = (h, row_places_rise k (v + 1) (g + 1) (v + 1) (omega arith) (omega arith))

tables_rise : (k i g low : ℕ) (rest : List ℕ) → low ≤ g → Rising (g + 3 * (k + 1)) rest
    → Rising low (map (λ x. x.frame) (flat_map table_pairs (tables_from k i g) ++ []) ++ rest)
tables_rise zero i g low rest h r =
    (h, (omega arith, (omega arith, Rising-from (g + 3 * (0 + 1)) (g + 2 + 1) rest (omega arith) r)))
tables_rise (suc k) i g low rest h r = (
  h,
  (
    omega arith,
    (
      omega arith,
      tables_rise k (i + 1) (g + 3) (g + 2 + 1) rest
          (omega arith) (Rising-from (g + 3 * (suc k + 1)) (g + 3 + 3 * (k + 1)) rest (omega arith) r),
    ),
  ),
)

indexes_rise : (k i g low : ℕ) → low ≤ i → i + k ≤ 1023 → Rising low (map (λ t. t.index) (tables_from k i g))
indexes_rise zero i g low h b = (omega arith, tt)
indexes_rise (suc k) i g low h b = (h, indexes_rise k (i + 1) (g + 3) (i + 1) (omega arith) (omega arith))

-- the tables have the indexes from i on and 1023
index_in : (k i g x : ℕ) → i ≤ x → x < i + k → In x (map (λ t. t.index) (tables_from k i g))
index_in zero i g x l h = absurd (omega arith)
index_in (suc k) i g x l h = elim (cases_lt i x)
    [ inl q ↦ inr (index_in k (i + 1) (g + 3) x (omega arith) (omega arith)) | inr q ↦ inl (omega arith) ]

index_last : (k i g : ℕ) → In 1023 (map (λ t. t.index) (tables_from k i g))
index_last zero i g = inl refl
index_last (suc k) i g = inr (index_last k (i + 1) (g + 3))

index_small : (k i g : ℕ) → i + k ≤ 1023 → (t : Table) → In t (tables_from k i g) → t.index < 1024
index_small zero i g b t (inl e) = omega (arith, ap (λ t. t.index) e)
index_small zero i g b t (inr j) = absurd j
index_small (suc k) i g b t (inl e) = omega (arith, ap (λ t. t.index) e)
index_small (suc k) i g b t (inr j) = index_small k (i + 1) (g + 3) (omega arith) t j

-- a row of the root
rows_are : (k v g : ℕ) (r : Row) → In r (rows_from k v g)
    → (r.rights ≡ 7) × ((r.at ≡ 1048575) ⊎ ((v ≤ r.at) × (r.at < v + k))) × (g ≤ r.frame) × (r.frame < g + k + 1)
rows_are zero v g r (inl e) = let p = ap (λ r. r.frame) e in
    (rw e, inl (rw e), omega arith, omega arith)
rows_are zero v g r (inr j) = absurd j
rows_are (suc k) v g r (inl e) = let p = ap (λ r. r.frame) e in let a = ap (λ r. r.at) e in
    (rw e, inr (omega arith), omega arith, omega arith)
rows_are (suc k) v g r (inr j) = let h = rows_are k (v + 1) (g + 1) r j in
    (h.0, elim h.1 [ inl q ↦ inl q | inr q ↦ inr (omega arith) ], omega arith, omega arith)

length_tables : (k i g : ℕ) → length (tables_from k i g) ≡ k + 1
length_tables zero i g = refl
length_tables (suc k) i g = omega (arith, length_tables k (i + 1) (g + 3))

-- which pages are in the rows
has_rows : (k v g x : ℕ) → has (map (λ r. r.frame) (rows_from k v g)) x ≡ (nat_le g x && nat_lt x (g + k + 1))
has_rows zero v g x = grind (arith, nat_tests)
has_rows (suc k) v g x = let h = has_rows k (v + 1) (g + 1) x in grind (arith, nat_tests, h)

-- how many rows the root has before that of the handlers
abbrev user_rows : ℕ → ℕ
user_rows n = n - first_user n - 1

record Sizes (n : ℕ) : Type 0 where
  some : 1 ≤ tables_of_root n
  few : tables_of_root n ≤ 4
  all : first_user n + user_rows n + 1 ≡ n
  fit : user_rows n ≤ 1024 * tables_of_root n

sizes : (n : ℕ) → 16 ≤ n → n ≤ 4096 → Sizes n
sizes n l h = record { some = omega arith; few = omega arith; all = omega arith; fit = omega arith }

held_rise : (n : ℕ) → Sizes n → Rising 1 (held_pages (boot_root n))
held_rise n z = (
  omega arith,
  (
    omega arith,
    (
      omega arith,
      (
        omega arith,
        (
          omega arith,
          tables_rise (tables_of_root n) 1 6 6 (row_pages (boot_root n)) (omega arith)
              (row_pages_rise (user_rows n) 1024 (first_user n) (6 + 3 * (tables_of_root n + 1)) (omega arith)),
        ),
      ),
    ),
  ),
)

apart_root : (n : ℕ) → Sizes n → KeepsPagesApart (boot_root n)
apart_root n z = let few = z.few in let fit = z.fit in record {
  pages = Rising-distinct 1 (held_pages (boot_root n)) (held_rise n z);
  places = row_places_rise (user_rows n) 1024 (first_user n) 0 (omega arith) (omega arith);
}

tables_root : (n : ℕ) → Sizes n → RowsHaveTables (boot_root n)
tables_root n z = let few = z.few in let fit = z.fit in let some = z.some in record {
  first = λ r i e.
      elim (rows_are (user_rows n) 1024 (first_user n) r i).1 [ inl q ↦ omega arith | inr q ↦ omega arith ];
  differ = Rising-distinct 0 _ (indexes_rise (tables_of_root n) 1 6 0 (omega arith) (omega arith));
  tabled = λ r i. elim (rows_are (user_rows n) 1024 (first_user n) r i).1 [
    | inl q ↦
        rw q (index_last (tables_of_root n) 1 6)
    | inr q ↦ let lo = q.0 in let hi = q.1 in index_in (tables_of_root n) 1 6 (dir r.at) (omega arith) (omega arith)
  ];
  small = λ t i. index_small (tables_of_root n) 1 6 (omega arith) t i;
  listed = omega (arith, length_tables (tables_of_root n) 1 6);
}

words_from : (b h : Bool) (words : ℕ → ℕ) → (b ≡ true → h ≡ true → ⊥)
    → is_some (cond b (Some words) None) ≡ (b && not (h || false))
words_from true true words n = absurd (n refl refl)
words_from true false words n = refl
words_from false h words n = refl

boot_words : (words : ℕ → ℕ → ℕ) (n : ℕ) → Sizes n → HasVisibleWords (boot_tree_with words n)
boot_words words n z g =
    let rows = has_rows (user_rows n) 1024 (first_user n) g in
    let b : Bool = nat_le (first_user n) g && nat_lt g n in
    let e : has (row_pages (boot_root n)) g ≡ b = rw (rows, z.all) in
    let d = Rising-distinct 1 (held_pages (boot_root n)) (held_rise n z) in
    words_from b (has (config (boot_root n)) g) (words g) (λ k h. Distinct-apart g (config (boot_root n))
    (row_pages (boot_root n)) d (has_in g (config (boot_root n)) h) (has_in g (row_pages (boot_root n)) (e ∙ k)))
    ∙ ap (λ k. k && not (has (config (boot_root n)) g || false)) (sym e)

boot_small : (b : Bool) (words : ℕ → ℕ) (i : ℕ) → IsWord (words i) → IsWord (word_of (cond b (Some words) None) i)
boot_small true words i h = h
boot_small false words i h = omega arith

pub boot-sound_with : (words : ℕ → ℕ → ℕ) (n : ℕ) → 16 ≤ n → n ≤ 4096 → ArePageWords words
    → IsSound (boot_tree_with words n)
boot-sound_with words n l h small = let z = sizes n l h in record {
  parents_come_first = refl;
  boot_root = record { small = l; large = h; same = refl };
  pages_apart = λ x i. elim i [ inl e ↦ rw e (apart_root n z) | inr j ↦ absurd j ];
  lent = λ x y i. absurd i;
  named_by_descriptor = λ x i. absurd i;
  siblings_apart = λ x y i. absurd i;
  readable = λ x i. elim i [
    | inl e ↦ rw e (λ r j. subst (λ k. AreAmong 1 k) (sym (rows_are (user_rows n) 1024 (first_user n) r j).0) refl)
    | inr j ↦ absurd j
  ];
  rights = λ x y i. absurd i;
  tables = λ x i. elim i [ inl e ↦ rw e (tables_root n z) | inr j ↦ absurd j ];
  no_lines_but_the_root = λ x i. absurd i;
  words = boot_words words n z;
  lines = tt;
  numbers = λ g i l. boot_small (nat_le (first_user n) g && nat_lt g n) (words g) i (small g i l);
}

pub zeros_small : ArePageWords (λ g. zero_words)
zeros_small g i l = omega arith

pub boot-sound : (n : ℕ) → 16 ≤ n → n ≤ 4096 → IsSound (boot_tree n)
boot-sound n l h = boot-sound_with (λ g. zero_words) n l h zeros_small

config_boot_small : (k i g x : ℕ) → In x (map (λ q. q.frame) (flat_map table_pairs (tables_from k i g) ++ []))
    → x < g + 3 * (k + 1)
config_boot_small zero i g x (inl e) = omega arith
config_boot_small zero i g x (inr (inl e)) = omega arith
config_boot_small zero i g x (inr (inr (inl e))) = omega arith
config_boot_small zero i g x (inr (inr (inr e))) = absurd e
config_boot_small (suc k) i g x (inl e) = omega arith
config_boot_small (suc k) i g x (inr (inl e)) = omega arith
config_boot_small (suc k) i g x (inr (inr (inl e))) = omega arith
config_boot_small (suc k) i g x (inr (inr (inr j))) = omega (arith, config_boot_small k (i + 1) (g + 3) x j)

rows_boot_small : (n : ℕ) → Sizes n → (x : ℕ) → In x (row_pages (boot_root n)) → x < n
rows_boot_small n z x i =
    let (r, j, e) = In-map_from (λ r. r.frame) x (boot_root n).rows i in
    let h = rows_are (user_rows n) 1024 (first_user n) r j in
    omega arith

-- every page of the root is a frame
pub root_small : (n : ℕ) → 16 ≤ n → n ≤ 4096 → (x : ℕ) → In x (held_pages (boot_root n)) → x < n
root_small n l h x i = let z = sizes n l h in
    elim (In-append_cases x (config (boot_root n)) (row_pages (boot_root n)) i) [
      | inl (inl e) ↦ omega arith
      | inl (inr (inl e)) ↦ omega arith
      | inl (inr (inr (inl e))) ↦ omega arith
      | inl (inr (inr (inr (inl e)))) ↦ omega arith
      | inl (inr (inr (inr (inr (inl e))))) ↦ omega arith
      | inl (inr (inr (inr (inr (inr j))))) ↦ omega (arith, config_boot_small (tables_of_root n) 1 6 x j)
      | inr j ↦ rows_boot_small n z x j
    ]

pub root_rights : (n : ℕ) (r : Row) → In r (boot_root n).rows → r.rights ≡ 7
root_rights n r i = (rows_are (user_rows n) 1024 (first_user n) r i).0

-- and none is frame 0
pub root_positive : (n : ℕ) → 16 ≤ n → n ≤ 4096 → (x : ℕ) → In x (held_pages (boot_root n)) → 1 ≤ x
root_positive n l h x i = Rising-low 1 x (held_pages (boot_root n)) (held_rise n (sizes n l h)) i

pub root_tables-least : (n t : ℕ) → 1 ≤ t → n - 6 - 3 * (t + 1) - 1 ≤ 1024 * t → tables_of_root n ≤ t
root_tables-least n t l h = omega arith

-- the root's frame at a vpage: the last is at 0xfffff, the others from 1024 on
pub frame-last : (k v g : ℕ) → v + k ≤ 0xfffff
    → option_map (λ r. r.frame) (row_at (rows_from k v g) 0xfffff) ≡ Some (g + k)
frame-last zero v g h = ap Some (omega arith)
frame-last (suc k) v g h =
    rw (ne_eqb v 0xfffff (omega arith)) (frame-last k (v + 1) (g + 1) (omega arith) ∙ ap Some (omega arith))

pub frame-between : (k v g u : ℕ) → v ≤ u → u < v + k
    → option_map (λ r. r.frame) (row_at (rows_from k v g) u) ≡ Some (g + (u - v))
frame-between zero v g u l h = absurd (omega arith)
frame-between (suc k) v g u l h = elim (cases_eq v u) [
  | inl e ↦ rw (eq-eqb v u e) (ap Some (omega arith))
  | inr n ↦ rw (ne_eqb v u n) (frame-between k (v + 1) (g + 1) u (omega arith) (omega arith) ∙ ap Some (omega arith))
]

pub frame-none : (k v g u : ℕ) → u ≢ 0xfffff → (u < v) ⊎ (v + k ≤ u)
    → option_map (λ r. r.frame) (row_at (rows_from k v g) u) ≡ None
frame-none zero v g u n h = rw (ne_eqb 0xfffff u (λ e. n (sym e)))
frame-none (suc k) v g u n h =
    let ne : v ≢ u = λ e. elim h [ inl a ↦ omega arith | inr b ↦ omega arith ] in
    rw (ne_eqb v u ne)
    (frame-none k (v + 1) (g + 1) u n (elim h [ inl a ↦ inl (omega arith) | inr b ↦ inr (omega arith) ]))

pub root-frame_last : (n v frame : ℕ) → 16 ≤ n → n ≤ 4096 → v ≡ 0xfffff → frame ≡ n - 1 → Some frame ≡ frame_of_root n v
root-frame_last n v frame l h e f =
    let g : frame ≡ first_user n + (n - first_user n - 1) = omega arith in
    rw e (ap Some g ∙ sym (frame-last (n - first_user n - 1) 1024 (first_user n) (omega arith)))

-- t is the number of its tables
pub root-frame_between : (n t v frame : ℕ) → t ≡ tables_of_root n → 1024 ≤ v → v - 1024 < n - 1 - (9 + 3 * t)
    → frame ≡ 9 + 3 * t + (v - 1024) → Some frame ≡ frame_of_root n v
root-frame_between n t v frame e a b f =
    let g : frame ≡ first_user n + (v - 1024) = omega arith in
    let h : v < 1024 + (n - first_user n - 1) = omega arith in
    rw (g, ← frame-between (n - first_user n - 1) 1024 (first_user n) v a h)

pub root-frame_none : (n t v : ℕ) → t ≡ tables_of_root n → v ≢ 0xfffff → (v < 1024) ⊎ (n - 1 - (9 + 3 * t) ≤ v - 1024)
    → None ≡ frame_of_root n v
root-frame_none n t v e ne o = sym (frame-none (n - first_user n - 1) 1024 (first_user n) v ne (elim o [
  | inl a ↦ inl a
  | inr b ↦ elim (cases_lt v 1024) [ inl a ↦ inl a | inr a ↦ inr (omega arith) ]
]))
