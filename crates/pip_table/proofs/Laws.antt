-- Laws of tables of two levels: what a write does to the map.
use Rattle.std.specs.Prelude.{◌≡◌, ◌≢◌, ℕ, zero, suc, ◌<◌, ◌≤◌, ◌^◌, ◌+◌, ◌*◌, ◌/◌, ◌%◌, ◌==◌, if◌then◌else◌, length}
use Rattle.std.specs.Prelude.{Some, None, ◌⊎◌, refl}
use Rattle.std.proofs.Common.{◌∙◌, sym, arith, ap, add-one, eq-eqb, ne_eqb, inl, inr}
use Rattle.std.proofs.lemmas.Bool.{cases_eq}
use Rattle.pip_base.specs.Memory.{IsMemory, Memory, put_word, word_at, zero_frame}
use Rattle.pip_base.specs.Words.{directory_word}
use Rattle.pip_base.proofs.Memory.{word_at-put_same, word_at-put_frame, word_at-put_index, length-put_word}
use Rattle.pip_base.proofs.Memory.{IsMemory-put, word_at-zero_frame, length-zero_frame, IsMemory-zero}
use Rattle.pip_entry.specs.DirWord.{packed_dir}
use Rattle.pip_entry.specs.declared.dir_word.DirWord.{DirWord}
use Rattle.pip_entry.specs.declared.dir_word.DirWord.TheVariants.{Empty, Table}
use Rattle.pip_table.specs.Table.{HasTable, table_frame, IsDirectory, leaf_at, IsFurther, IsFitting, word_under}
use Rattle.pip_table.specs.Table.{tables_below}

-- a table is known by the words of its directory
pub IsDirectory-same : (m n : Memory) (top : ℕ) → IsDirectory m top → IsMemory n → length n ≡ length m
    → ((i : ℕ) → i < 1024 → word_at n top i ≡ word_at m top i) → IsDirectory n top
IsDirectory-same m n top ok shape count same = record {
  shape = shape;
  inside = omega arith;
  packed = λ i i_in has. let e = same i i_in in let h = ok.packed i i_in (λ z. has cc) in rw e h;
  below = λ i i_in has. let e = same i i_in in let h = ok.below i i_in (λ z. has cc) in rw (e, count) h;
  beside = λ i i_in has. let e = same i i_in in let h = ok.beside i i_in (λ z. has cc) in rw e h;
  apart = λ i j i_in j_in i_has j_has equal.
      let e = same i i_in in
      let f = same j j_in in
      ok.apart i j i_in
      j_in (λ z. i_has cc) (λ z. j_has cc) (rw (← e, equal, f));
}

-- a word of the map is known by its directory word and its word in the table
pub leaf_at-same : (m n : Memory) (top v : ℕ) → word_at n top (v / 1024) ≡ word_at m top (v / 1024)
    → (HasTable m top (v / 1024) → word_at n (table_frame m top (v / 1024)) (v % 1024)
    ≡ word_at m (table_frame m top (v / 1024)) (v % 1024)) → leaf_at n top v ≡ leaf_at m top v
leaf_at-same m n top v entry word =
    elim (cases_eq (word_at m top (v / 1024)) 0) [
      | inl is ↦ rw (entry, eq-eqb (word_at m top (v / 1024)) 0 is) refl
      | inr is_not ↦ rw (entry, ne_eqb (word_at m top (v / 1024)) 0 is_not) (rw (word is_not))
    ]

-- the map where there is a table, and where there is none
pub leaf_at-has : (m : Memory) (top v : ℕ) → HasTable m top (v / 1024)
    → leaf_at m top v ≡ Some (word_at m (table_frame m top (v / 1024)) (v % 1024))
leaf_at-has m top v has = rw (ne_eqb (word_at m top (v / 1024)) 0 has) refl

pub leaf_at-none : (m : Memory) (top v : ℕ) → word_at m top (v / 1024) ≡ 0 → leaf_at m top v ≡ None
leaf_at-none m top v none = rw (eq-eqb (word_at m top (v / 1024)) 0 none) refl

-- ---- a directory without tables

pub IsDirectory-none : (m : Memory) (top : ℕ) → IsMemory m → top < length m → ((i : ℕ) → i < 1024 → word_at m top i ≡ 0)
    → IsDirectory m top
IsDirectory-none m top shape inside none = record {
  shape = shape;
  inside = inside;
  packed = λ i i_in has. absurd (has (none i i_in));
  below = λ i i_in has. absurd (has (none i i_in));
  beside = λ i i_in has. absurd (has (none i i_in));
  apart = λ i j i_in j_in i_has j_has equal. absurd (i_has (none i i_in));
}

pub IsFurther-none : (m : Memory) (top f : ℕ) → f < length m → f ≢ top → ((i : ℕ) → i < 1024 → word_at m top i ≡ 0)
    → IsFurther m top f
IsFurther-none m top f below beside none =
    record { below = below; beside = beside; apart = λ j j_in has. absurd (has (none j j_in)) }

-- ---- how many tables

pub tables_below-next : (m : Memory) (top i : ℕ)
    → tables_below m top (i + 1) ≡ tables_below m top i + (if word_at m top i == 0 then 0 else 1)
unfolding tables_below
tables_below-next m top i = rw add-one refl

pub tables_below-mono : (m : Memory) (top i n : ℕ) → i ≤ n → tables_below m top i ≤ tables_below m top n
tables_below-mono m top i zero le = let e : i ≡ 0 = omega arith in rw e (omega arith)
tables_below-mono m top i (suc n) le =
    elim (cases_eq i (suc n)) [
      | inl same ↦ rw same (omega arith)
      | inr other ↦
          let below : i ≤ n = omega arith in
          let h = tables_below-mono m top i n below in
          let e = tables_below-next m top n in
          rw (← add-one, e) (omega arith)
    ]

-- ---- a word in another frame than the directory

pub word_at-put_below : (m : Memory) (top f i w : ℕ) → IsDirectory m top → f < length m → i < 1024 → f ≢ top → (j : ℕ)
    → j < 1024 → word_at (put_word m f i w) top j ≡ word_at m top j
word_at-put_below m top f i w ok f_in i_in other j j_in =
    word_at-put_frame m f i w top j ok.shape f_in i_in (λ e. other (sym e))

pub IsDirectory-put : (m : Memory) (top f i w : ℕ) → IsDirectory m top → f < length m → i < 1024 → f ≢ top
    → IsDirectory (put_word m f i w) top
IsDirectory-put m top f i w ok f_in i_in other =
    IsDirectory-same m (put_word m f i w) top ok (IsMemory-put m f i w ok.shape f_in) (length-put_word m f i w)
    (word_at-put_below m top f i w ok f_in i_in other)

-- ---- zeros in a further frame

-- ---- a word at a vpage

pub IsDirectory-put_leaf : (m : Memory) (top v w : ℕ) → IsDirectory m top → v < 2 ^ 20 → HasTable m top (v / 1024)
    → IsDirectory (put_word m (table_frame m top (v / 1024)) (v % 1024) w) top
IsDirectory-put_leaf m top v w ok small has =
    let index : v / 1024 < 1024 = omega arith in
    let below : v % 1024 < 1024 = omega arith in
    IsDirectory-put m top (table_frame m top (v / 1024)) (v % 1024) w ok (ok.below (v / 1024) index has) below
    (ok.beside (v / 1024) index has)

-- the map has the word at this vpage, and is the same elsewhere
pub leaf_at-put_leaf : (m : Memory) (top v w u : ℕ) → IsDirectory m top → v < 2 ^ 20 → HasTable m top (v / 1024)
    → u < 2 ^ 20 → leaf_at (put_word m (table_frame m top (v / 1024)) (v % 1024) w) top u
    ≡ (if u == v then Some w else leaf_at m top u)
leaf_at-put_leaf m top v w u ok small has u_small =
    let v_in : v / 1024 < 1024 = omega arith in
    let u_in : u / 1024 < 1024 = omega arith in
    let i_in : v % 1024 < 1024 = omega arith in
    let f_in = ok.below (v / 1024) v_in has in
    let entry = word_at-put_below m top (table_frame m top (v / 1024)) (v % 1024) w ok f_in
    i_in (ok.beside (v / 1024) v_in has) in
    elim (cases_eq u v) [
      | inl same ↦ rw (same, eq-eqb v v refl, entry (v / 1024) v_in, ne_eqb (word_at m top (v / 1024)) 0 has)
          (rw (word_at-put_same m (table_frame m top (v / 1024)) (v % 1024) w ok.shape f_in i_in))
      | inr other ↦ rw (ne_eqb u v other) (leaf_at-same m (put_word m (table_frame m top (v / 1024)) (v % 1024) w) top u
          (entry (u / 1024) u_in) (λ u_has. elim (cases_eq (u / 1024) (v / 1024)) [
            | inl index ↦ word_at-put_index m (table_frame m top (v / 1024)) (v % 1024) w
                (table_frame m top (u / 1024)) (u % 1024) ok.shape f_in i_in (λ e. other (omega arith))
            | inr apart ↦
                word_at-put_frame m (table_frame m top (v / 1024)) (v % 1024) w (table_frame m top (u / 1024)) (u
                % 1024) ok.shape f_in i_in (λ e. apart (ok.apart (u / 1024) (v / 1024) u_in v_in u_has has e))
          ]))
    ]

-- ---- an entry of the directory

-- an entry is the one that was written, or was there before
pub entry_cases : (m : Memory) (top i w j : ℕ) → IsDirectory m top → i < 1024 → HasTable (put_word m top i w) top j
    → ((j ≡ i) × (word_at (put_word m top i w) top j ≡ w))
    ⊎ ((word_at (put_word m top i w) top j ≡ word_at m top j) × HasTable m top j)
entry_cases m top i w j ok i_in has =
    elim (cases_eq j i) [
      | inl same ↦
          inl (same, rw (same, word_at-put_same m top i w ok.shape ok.inside i_in))
      | inr other ↦ let e = word_at-put_index m top i w top j ok.shape ok.inside i_in other in inr (e, λ z. has cc)
    ]

pub IsDirectory-put_entry : (m : Memory) (top i w : ℕ) → IsDirectory m top → i < 1024
    → (w ≢ 0 → (w ≡ directory_word (w / 4096)) × IsFurther m top (w / 4096)) → IsDirectory (put_word m top i w) top
IsDirectory-put_entry m top i w ok i_in fits = record {
  shape = IsMemory-put m top i w ok.shape ok.inside;
  inside = omega (arith, length-put_word m top i w);
  packed = λ j j_in has. elim (entry_cases m top i w j ok i_in has) [
    | inl new ↦ let e = new.1 in let h = (fits (λ z. has cc)).0 in rw e h
    | inr old ↦ let e = old.0 in let h = ok.packed j j_in old.1 in rw e h
  ];
  below = λ j j_in has. let n = length-put_word m top i w in elim (entry_cases m top i w j ok i_in has) [
    | inl new ↦ let e = new.1 in let h = (fits (λ z. has cc)).1.below in rw (e, n) h
    | inr old ↦ let e = old.0 in let h = ok.below j j_in old.1 in rw (e, n) h
  ];
  beside = λ j j_in has. elim (entry_cases m top i w j ok i_in has) [
    | inl new ↦ let e = new.1 in let h = (fits (λ z. has cc)).1.beside in rw e h
    | inr old ↦ let e = old.0 in let h = ok.beside j j_in old.1 in rw e h
  ];
  apart = λ j k j_in k_in j_has k_has equal. elim (entry_cases m top i w j ok i_in j_has) [
    | inl j_new ↦ elim (entry_cases m top i w k ok i_in k_has) [
      | inl k_new ↦ j_new.0 ∙ sym k_new.0
      | inr k_old ↦ absurd ((fits (λ z. j_has (j_new.1 ∙ z))).1.apart k k_in
          k_old.1 (rw (← k_old.0, ← equal, j_new.1)))
    ]
    | inr j_old ↦ elim (entry_cases m top i w k ok i_in k_has) [
      | inl k_new ↦ absurd ((fits (λ z. k_has (k_new.1 ∙ z))).1.apart j j_in
          j_old.1 (rw (← j_old.0, equal, k_new.1)))
      | inr k_old ↦
          ok.apart j k j_in k_in j_old.1 k_old.1 (rw (← j_old.0, equal, k_old.0))
    ]
  ];
}

-- what is further stays so, but for the table of the new entry
pub IsFurther-put_entry : (m : Memory) (top i w f : ℕ) → IsDirectory m top → i < 1024 → IsFurther m top f → w / 4096 ≢ f
    → IsFurther (put_word m top i w) top f
IsFurther-put_entry m top i w f ok i_in far other = record {
  below = omega (arith, length-put_word m top i w);
  beside = far.beside;
  apart = λ j j_in has. elim (entry_cases m top i w j ok i_in has) [
    | inl new ↦ let e = new.1 in rw e other
    | inr old ↦ let e = old.0 in let h = far.apart j j_in old.1 in rw e h
  ];
}

pub IsDirectory-put_dir : (m : Memory) (top i : ℕ) (d : DirWord) → IsDirectory m top → i < 1024 → IsFitting m top d
    → IsDirectory (put_word m top i (packed_dir d)) top
IsDirectory-put_dir m top i Empty ok i_in fits = IsDirectory-put_entry m top i 0 ok i_in (λ h. absurd (h refl))
IsDirectory-put_dir m top i (Table f) ok i_in fits =
    let frame : (f * 4096 + 1) / 4096 ≡ f = omega arith in
    IsDirectory-put_entry m top i (f * 4096 + 1) ok i_in (λ h. (rw frame refl, rw frame fits))

-- the map has the words of the entry's table under this index, and is the same elsewhere
pub leaf_at-put_dir_here : (m : Memory) (top i : ℕ) (d : DirWord) (v : ℕ) → IsDirectory m top → i < 1024
    → IsFitting m top d → v / 1024 ≡ i → leaf_at (put_word m top i (packed_dir d)) top v ≡ word_under m d (v % 1024)
leaf_at-put_dir_here m top i Empty v ok i_in fits here =
    leaf_at-none (put_word m top i 0) top v
    (rw (here, word_at-put_same m top i 0 ok.shape ok.inside i_in))
leaf_at-put_dir_here m top i (Table f) v ok i_in fits here =
    let e = ap (word_at (put_word m top i (f * 4096 + 1)) top) here
    ∙ word_at-put_same m top i (f * 4096 + 1) ok.shape ok.inside i_in in
    let frame : (f * 4096 + 1) / 4096 ≡ f = omega arith in
    let full : f * 4096 + 1 ≢ 0 = λ z. absurd (omega arith) in
    rw (
      e,
      ne_eqb (f * 4096 + 1) 0 full,
      frame,
    ) (rw (word_at-put_frame m top i (f * 4096 + 1) f (v % 1024) ok.shape ok.inside i_in fits.beside))

pub leaf_at-put_dir : (m : Memory) (top i : ℕ) (d : DirWord) (v : ℕ) → IsDirectory m top → i < 1024 → IsFitting m top d
    → v < 2 ^ 20 → leaf_at (put_word m top i (packed_dir d)) top v
    ≡ (if v / 1024 == i then word_under m d (v % 1024) else leaf_at m top v)
leaf_at-put_dir m top i d v ok i_in fits small =
    let index : v / 1024 < 1024 = omega arith in
    elim (cases_eq (v / 1024) i) [
      | inl here ↦ rw (eq-eqb (v / 1024) i here) (leaf_at-put_dir_here m top i d v ok i_in fits here)
      | inr other ↦ rw (ne_eqb (v / 1024) i other)
          (leaf_at-same m (put_word m top i (packed_dir d)) top v (word_at-put_index m top i (packed_dir d) top
          (v / 1024) ok.shape ok.inside i_in other) (λ has. word_at-put_frame m top i (packed_dir d)
          (table_frame m top (v / 1024)) (v % 1024) ok.shape ok.inside i_in (ok.beside (v / 1024) index has)))
    ]
