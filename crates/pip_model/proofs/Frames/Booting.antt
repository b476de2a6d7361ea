-- The boot tree by what its frames hold: its tables one after another, its rows with what the shadows say, its words.
use Rattle.std.proofs.Common.{◌≡◌, ℕ, zero, suc, ◌+◌, ◌*◌, ◌≤◌, ◌&&◌, inl, inr, Bool, true, false, not, cond, [], ◌∷◌}
use Rattle.std.proofs.Common.{◌++◌, map, refl, sym, ap, ◌∙◌, subst, arith, Some, None}
use Rattle.std.specs.Prelude.{nat_le, nat_lt, option_map}
use Rattle.std.proofs.lemmas.Bool.Decides.{nat_tests}
use Rattle.std.proofs.lemmas.Bool.{cases_Bool}
use Rattle.pip_model.specs.Boot.{boot_root, boot_table, boot_tree, first_user, frame_of_root, tables_from, zero_words}
use Rattle.pip_model.specs.Booting.{tables_begin, user_row}
use Rattle.pip_model.specs.FullRows.{from_word, full_rows, given_word}
use Rattle.pip_model.specs.Lists.{In}
use Rattle.pip_model.specs.Sound.{IsSound}
use Rattle.pip_model.specs.Tree.{Row, Table, config, dir, has_table, hidden, row_pages}
use Rattle.pip_model.proofs.Trees.Boot.{boot-sound, root_rights}
use Rattle.pip_model.proofs.Trees.Free.{hidden_from}
use Rattle.pip_model.proofs.Frames.Laid.{full_back, full_is}
use Rattle.pip_model.proofs.Trees.Lookup.{cases_option}
use Rattle.pip_model.proofs.OnLists.Members.{Distinct-apart}
use Rattle.pip_model.proofs.Nodes.Roles.{has_index}
use Rattle.pip_model.proofs.Trees.RowLookup.{page_at_row, row_in, row_page}

-- ---- the tables

-- one more
pub tables_more : (k i g : ℕ) → tables_begin (suc k) i g ≡ tables_begin k i g ++ boot_table (i + k) (g + 3 * k) ∷ []
tables_more zero i g =
    let a : i ≡ i + 0 = omega arith in
    let b : g ≡ g + 3 * 0 = omega arith in
    cc
tables_more (suc k) i g =
    let a : i + 1 + k ≡ i + suc k = omega arith in
    let b : g + 3 + 3 * k ≡ g + 3 * suc k = omega arith in
    rw (tables_more k (i + 1) (g + 3), a, b)

-- and then that of the handlers
pub tables_end : (k i g : ℕ) → tables_begin k i g ++ boot_table 1023 (g + 3 * k) ∷ [] ≡ tables_from k i g
tables_end zero i g = let b : g + 3 * 0 ≡ g = omega arith in rw b
tables_end (suc k) i g =
    let b : g + 3 * suc k ≡ g + 3 + 3 * k = omega arith in
    rw (b, tables_end k (i + 1) (g + 3))

-- ---- the rows

module _ (n : ℕ) (least : 16 ≤ n) (most : n ≤ 4096) where
  sound : IsSound (boot_tree n)
  sound = boot-sound n least most

  -- a page of a row isn't hidden
  row_open : (g : ℕ) → In g (row_pages (boot_root n)) → hidden (boot_tree n) g ≡ false
  row_open g i = elim (cases_Bool (hidden (boot_tree n) g)) [
    | inr off ↦ off
    | inl on ↦
        let (x, there, c) = hidden_from (boot_tree n) g on in
        elim there [
          | inl e ↦ absurd (Distinct-apart g (config (boot_root n)) (row_pages (boot_root n))
              (sound.pages_apart (boot_root n) (inl refl)).pages (rw e at c) i)
          | inr none ↦ absurd none
        ]
  ]

  none_given : (g : ℕ) → 0 ≡ given_word (boot_tree n) 1 g
  unfolding given_word
  none_given g = refl

  from_none : (g : ℕ) → 0 ≡ from_word (boot_tree n) (boot_root n) g
  unfolding from_word
  from_none g = refl

  -- the row at a vpage where the root has a frame
  pub root_row : (v f : ℕ) → frame_of_root n v ≡ Some f → Some (user_row f) ≡ full_rows (boot_tree n) (boot_root n) v
  root_row v f is =
      let (r, at, frame) = page_at_row (boot_root n) v f is in
      full_is (boot_tree n) (boot_root n) v r (user_row f) at (sym frame)
      (sym (root_rights n r (row_in (boot_root n) v r at).0))
      (cc (row_open r.frame (row_page (boot_root n) v r at))) (none_given r.frame) (from_none r.frame)

  -- there is none where it has none
  pub root_no_row : (v : ℕ) → frame_of_root n v ≡ None → None ≡ full_rows (boot_tree n) (boot_root n) v
  root_no_row v is = elim (cases_option (full_rows (boot_tree n) (boot_root n) v)) [
    | inl e ↦ sym e
    | inr r ↦
        let (q, at, same) = full_back (boot_tree n) (boot_root n) v r.0 r.1 in
        let bad : None ≡ Some q.frame = rw (← is, at) in
        cc
  ]

  -- the root has a table where it has a row
  pub root_room : (v f : ℕ) → frame_of_root n v ≡ Some f → has_table (boot_root n) v ≡ true
  root_room v f is =
      let (r, at, frame) = page_at_row (boot_root n) v f is in
      let (i, e) = row_in (boot_root n) v r at in
      has_index (boot_root n) v (rw (← e) ((sound.tables (boot_root n) (inl refl)).tabled r i))

-- ---- the words

-- pages of words are user frames, and hold zeros
pub boot_page : (n f : ℕ) (w : ℕ → ℕ) → (boot_tree n).words f ≡ Some w → (first_user n ≤ f) × (w ≡ zero_words)
boot_page n f w is =
    let h = go (nat_le (first_user n) f && nat_lt f n) is in
    let on : (nat_le (first_user n) f && nat_lt f n) ≡ true = h.0 in
    (grind (arith, nat_tests), h.1)
  where
    go : (b : Bool) → cond b (Some zero_words) None ≡ Some w → (b ≡ true) × (w ≡ zero_words)
    go true e = (refl, cc)
    go false e = cc
