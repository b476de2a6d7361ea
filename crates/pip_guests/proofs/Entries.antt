-- Two words of one class in an entry do the same.
use Rattle.std.proofs.Common.{◌≡◌, ℕ, ◌+◌, ◌==◌, ◌&&◌, ◌||◌, ◌⊎◌, inl, inr, not, Bool, true, false, cond, List, []}
use Rattle.std.proofs.Common.{◌∷◌, refl, sym, subst, arith, eqb-true, option_map}
use Rattle.std.proofs.Common.{Option, Some, None}
use Rattle.std.specs.Prelude.{is_none}
use Rattle.pip_base.specs.declared.types.Access.{Access}
use Rattle.pip_base.specs.declared.types.Access.TheVariants.{Load, Store}
use Rattle.pip_base.specs.declared.types.Size.{Size}
use Rattle.pip_base.specs.declared.types.Size.TheVariants.{Byte, Word}
use Rattle.pip_model.specs.Lists.{In}
use Rattle.pip_model.specs.Happens.{written_over}
use Rattle.pip_model.proofs.OnLists.Members.{find_in, has_in}
use Rattle.pip_model.specs.Handlers.{block_at, store_at}
use Rattle.pip_model.specs.Reach.{Faulted, Place, Reached, reach, reach_by_row}
use Rattle.pip_model.specs.Tree.{Row, Tree, hidden, node, row_at, vpage, word_of}
use Rattle.pip_guests.specs.Entries.{ClassesAreSights, EntriesHaveClasses, block_class, by_class, class_look}
use Rattle.pip_guests.specs.Entries.{entry_fits}
use Rattle.pip_guests.specs.Entries.{fits_rows, free_of, is_of_word, place_class}
use Rattle.pip_guests.specs.Entries.{row_fits, rows_fit, rows_tree, seen_by}
use Rattle.pip_guests.specs.Entries.{word_class}
use Rattle.pip_guests.specs.Outside.{BothLand, EntryMisses, IsOneUse, Lands}
use Rattle.pip_guests.specs.Sights.{each_from}
use Rattle.pip_guests.proofs.Testing.{all_are, both, off}

module _ (blind : ℕ → ℕ → Bool) (entries : ℕ → ℕ → Option (ℕ → ℕ)) (apart : (h j : ℕ) → blind h j ≡ true
    → entries h j ≡ None) (t : Tree) (p : ℕ) where
  abbrev look : ℕ → ℕ → ℕ → ℕ
  look = seen_by blind entries

  land : (g i : ℕ) → each_from (λ j. blind g j) 17 i ≡ true → Lands look (Place g i)
  land g i e j l k x y =
      let b = all_are (λ j. blind g j) 17 i e j l k in
      rw (apart g j b, b)

  -- two blocks of one class
  places : (x y : ℕ) (q r : Reached) → place_class blind x q ≡ place_class blind y r → (x ≡ y) ⊎ BothLand look q r
  places x y (Faulted f) (Faulted e) k = inr tt
  places x y (Faulted f) (Place h j) k = absurd (go (each_from (λ k. blind h k) 17 j) k)
    where
      go : (b : Bool) → 1 ≡ cond b 2 (3 + y) → ⊥
      go true k = cc
      go false k = omega arith
  places x y (Place g i) (Faulted f) k = absurd (go (each_from (λ j. blind g j) 17 i) k)
    where
      go : (b : Bool) → cond b 2 (3 + x) ≡ 1 → ⊥
      go true k = cc
      go false k = omega arith
  places x y (Place g i) (Place h j) k = go (each_from (λ j. blind g j) 17 i) (each_from
      (λ k. blind h k) 17 j) refl refl k
    where
      go : (b c : Bool) → each_from (λ j. blind g j) 17 i ≡ b → each_from (λ k. blind h k) 17 j ≡ c
          → cond b 2 (3 + x) ≡ cond c 2 (3 + y) → (x ≡ y) ⊎ BothLand look (Place g i) (Place h j)
      go true true d e k = inr (land g i d, land h j e)
      go true false d e k = absurd (omega arith)
      go false true d e k = absurd (omega arith)
      go false false d e k = inl (omega arith)

  -- two words of one class
  one_use : (x y : ℕ) → word_class blind t p x ≡ word_class blind t p y → (x ≡ y) ⊎ IsOneUse look t p x y
  one_use x y k = go (block_at t p (Some x)) (block_at t p (Some y)) k refl refl
    where
      some : (n : ℕ) (q : Reached) → 0 ≡ place_class blind n q → ⊥
      some n (Faulted f) k = cc
      some n (Place g i) k = by (each_from (λ j. blind g j) 17 i) k
        where
          by : (b : Bool) → 0 ≡ cond b 2 (3 + n) → ⊥
          by true k = cc
          by false k = omega arith

      go : (o q : Option ℕ) → block_class blind t p x o ≡ block_class blind t p y q → block_at t p (Some x) ≡ o
          → block_at t p (Some y) ≡ q → (x ≡ y) ⊎ IsOneUse look t p x y
      go None None k d e = inr (record { block = rw (d, e); saves = rw (d, e) tt })
      go None (Some b) k d e = absurd (some y (store_at t p (Some b)) k)
      go (Some a) None k d e = absurd (some x (store_at t p (Some a)) (sym k))
      go (Some a) (Some b) k d e = elim (places x y (store_at t p (Some a)) (store_at t p (Some b)) k) [
        | inl s ↦ inl s
        | inr l ↦ inr (record { block = rw (d, e); saves = rw (d, e) l })
      ]

pub entries_have_classes : EntriesHaveClasses
entries_have_classes own blind entries t p g i f in_own apart at is y k =
    let x = word_of (t.words g) i in
    let same : f x ≡ f y = rw at at k in
    elim (one_use blind entries apart t p x y (rw (← is x, same, is y))) [
      | inl e ↦ inl e
      | inr u ↦ inr (in_own, u)
    ]

-- ---- the test

one_row : (a b c : Bool) → (a && (b && c)) ≡ true → (a ≡ true) × (b ≡ true) × (c ≡ true)
one_row a b c e = let (x, y) = both _ _ e in let (u, v) = both _ _ y in (x, u, v)

fitting : (t : Tree) (r s : Row) → row_fits t r s ≡ true → (r ≡ s) × ((hidden t s.frame || 0 == s.frame) ≡ false)
fitting t r s e =
    let (same, shown) = both _ _ e in
    let (at, frame, rights) = one_row _ _ _ same in
    let at_same = eqb-true r.at s.at at in
    let frame_same = eqb-true r.frame s.frame frame in
    let rights_same = eqb-true r.rights s.rights rights in (
      λ i. record { at = at_same i; frame = frame_same i; rights = rights_same i },
      off _ shown,
    )

rows_are : (t : Tree) (rs ss : List Row) → rows_fit t rs ss ≡ true
    → (rs ≡ ss) × ((r : Row) → In r ss → (hidden t r.frame || 0 == r.frame) ≡ false)
rows_are t [] [] e = (refl, λ r i. absurd i)
rows_are t [] (s ∷ ss) e = cc
rows_are t (r ∷ rs) [] e = cc
rows_are t (r ∷ rs) (s ∷ ss) e =
    let (one, rest) = both _ _ e in
    let (same, shown) = fitting t r s one in
    let (others, all) = rows_are t rs ss rest in (
      rw (same, others),
      λ q i. elim i [
        | inl d ↦ subst (λ r. (hidden t r.frame || 0 == r.frame) ≡ false) (sym d) shown
        | inr j ↦ all q j
      ],
    )

module _ (t : Tree) (p : ℕ) (rows : List Row) (fit : fits_rows t p rows ≡ true) where
  own_rows : (node t p).rows ≡ rows
  own_rows = (rows_are t (node t p).rows rows fit).0

  -- none of their pages is hidden
  shown : (r : Row) → In r rows → hidden t r.frame ≡ hidden (rows_tree rows) r.frame
  shown r i = by (hidden t r.frame) (0 == r.frame) (eq_back r.frame)
      ((rows_are t (node t p).rows rows fit).1 r i)
    where
      eq_back : (n : ℕ) → (0 == n) ≡ false → hidden (rows_tree rows) n ≡ false
      eq_back n e = rw e

      by : (a b : Bool) → (b ≡ false → hidden (rows_tree rows) r.frame ≡ false) → (a || b) ≡ false
          → a ≡ hidden (rows_tree rows) r.frame
      by true b f e = cc
      by false true f e = cc
      by false false f e = sym (f refl)

  same_reach : (va : ℕ) (a : Access) (z : Size) → reach (rows_tree rows) 0 va a z ≡ reach t p va a z
  same_reach va a z = rw own_rows (rw (by (row_at rows (vpage va)) refl))
    where
      by : (o : Option Row) → row_at rows (vpage va) ≡ o
          → reach_by_row (rows_tree rows) va a o ≡ reach_by_row t va a o
      by None e = refl
      by (Some r) e = rw (shown r (find_in (λ x. x.at == vpage va) r rows e).0)

  same_class : (blind : ℕ → ℕ → Bool) (x : ℕ) → word_class blind (rows_tree rows) 0 x ≡ word_class blind t p x
  same_class blind x =
      rw (same_reach x Load Word, by (block_at t p (Some x)))
    where
      by : (o : Option ℕ) → block_class blind (rows_tree rows) 0 x o ≡ block_class blind t p x o
      by None = refl
      by (Some a) = rw (same_reach a Store Word)

pub classes_are_sights : ClassesAreSights
classes_are_sights own blind kept = record {
  seen = λ g i e x y k. seen (kept g i) (blind g i) x y e k;
  blind = λ g i e x y. none (kept g i) (blind g i) x y e;
  entry = λ t p g i e. entry t p g i (kept g i) refl e;
  stores = λ va z g i e n x y k. stores (kept g i) (blind g i) va z n x y e k;
}
  where
    free : ℕ → ℕ → Bool
    free = free_of blind kept

    class : List Row → ℕ → ℕ
    class rows = word_class free (rows_tree rows) 0

    at : Option (List Row) → Bool → ℕ → ℕ
    at o b x = by_class (option_map class o) (cond (is_none o && b) 0 x) x

    seen : (o : Option (List Row)) (b : Bool) (x y : ℕ) → (is_none o && not b) ≡ true → at o b x ≡ at o b y → x ≡ y
    seen (Some rows) b x y e k = cc
    seen None true x y e k = cc
    seen None false x y e k = k

    none : (o : Option (List Row)) (b : Bool) (x y : ℕ) → (is_none o && b) ≡ true → at o b x ≡ at o b y
    none (Some rows) b x y e = cc
    none None false x y e = cc
    none None true x y e = refl

    stores : (o : Option (List Row)) (b : Bool) (va : ℕ) (z : Size) (n x y : ℕ) → (is_of_word z || is_none o) ≡ true
        → at o b x ≡ at o b y → at o b (written_over va z n x) ≡ at o b (written_over va z n y)
    stores o b va Word n x y e k = refl
    stores (Some rows) b va Byte n x y e k = cc
    stores None true va Byte n x y e k = refl
    stores None false va Byte n x y e k = rw k

    apart : (h j : ℕ) → free h j ≡ true → option_map class (kept h j) ≡ None
    apart h j = by (kept h j)
      where
        by : (o : Option (List Row)) → (is_none o && blind h j) ≡ true → option_map class o ≡ None
        by None e = refl
        by (Some rows) e = cc

    entry : (t : Tree) (p g i : ℕ) (o : Option (List Row)) → kept g i ≡ o → entry_fits own blind t p g i o ≡ true
        → EntryMisses own (class_look blind kept) t p (Place g i)
    entry t p g i None q e = λ y k. inl (seen (kept g i) (blind g i) (word_of (t.words g) i) y (rw q e) k)
    entry t p g i (Some rows) q e =
        let (mine, fit) = both _ _ e in
        entries_have_classes own free (λ h j. option_map class (kept h j)) t p g i (class rows)
        (has_in p own mine) apart
        (rw q) (same_class t p rows fit free)
