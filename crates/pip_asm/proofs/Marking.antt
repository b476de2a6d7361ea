-- Marks for pages: none, one more, and which pages have one.
use Rattle.std.specs.Prelude.{◌≡◌, ◌≢◌, refl, ℕ, zero, suc, ◌-◌, ◌<◌, ◌≤◌, ◌%◌, ◌⊎◌, ◌||◌, ◌==◌, Bool, true, false}
use Rattle.std.specs.Prelude.{List, [], ◌∷◌, ◌++◌, length, take, replicate, set, slice_index_or, is_some}
use Rattle.std.proofs.Common.{ap, sym, ◌∙◌, arith, inl, inr, get_or-set_same, get_or-set_other}
use Rattle.std.proofs.lemmas.Bool.Decides.{eqb_tells}
use Rattle.std.proofs.lemmas.List.{length-replicate, length-set}
use Rattle.std.proofs.lemmas.List.Folds.{list_any-append}
use Rattle.pip_model.specs.Boot.{tables_of_root}
use Rattle.pip_model.specs.Images.{has_row, is_seen}
use Rattle.pip_model.proofs.Trees.Boot.{root-frame_none}
use Rattle.pip_asm.specs.Marks.{AreMarks, IsNear}

blank : (n i : ℕ) → slice_index_or (replicate n false) i false ≡ false
blank zero i = refl
blank (suc n) zero = refl
blank (suc n) (suc i) = blank n i

pub none_marked : (old ms : List Bool) (n : ℕ) → old ≡ [] → n ≡ 8192
    → ms ≡ take n old ++ replicate (n - length old) false → AreMarks ms []
none_marked old ms n o e h =
    let k : ms ≡ replicate n false = h ∙ ap (λ t. take n t ++ replicate (n - length t) false) o
    ∙ ap (λ t. t ++ replicate (n - 0) false) (take-nil n) ∙ ap (λ k. replicate k false) (omega arith) in
    record {
      count = rw (k, length-replicate n false, e);
      tells = λ v near. rw (k, blank n (v % 8192));
    }
  where
    take-nil : (n : ℕ) → take {A = Bool} n [] ≡ []
    take-nil zero = refl
    take-nil (suc n) = refl

last : 0xfffff % 8192 ≡ 8191
last = refl

-- pages with one mark are one page
one_place : (u v : ℕ) → IsNear u → IsNear v → u % 8192 ≡ v % 8192 → u ≡ v
one_place u v (inl a) (inl b) e = omega arith
one_place u v (inl a) (inr b) e = omega arith
one_place u v (inr a) (inl b) e = omega arith
one_place u v (inr a) (inr b) e = cc

or_true : (b : Bool) → (b || true) ≡ true
or_true true = refl
or_true false = refl

or_false : (b : Bool) → (b || false) ≡ b
or_false true = refl
or_false false = refl

pub marked : (ms : List Bool) (p : ℕ) (seen : List ℕ) → IsNear p → AreMarks ms seen
    → AreMarks (set ms (p % 8192) true) (seen ++ p ∷ [])
marked ms p seen near h = record {
  count = length-set ms (p % 8192) true ∙ h.count;
  tells = λ v n. tells v n (eqb_tells p v);
}
  where
    more : (v : ℕ) (b : Bool) → (p == v) ≡ b → is_seen v (seen ++ p ∷ []) ≡ (is_seen v seen || b)
    more v b e = rw (list_any-append (λ x. x == v) seen (p ∷ []), e, or_false b)

    tells : (v : ℕ) → IsNear v → (((p == v) ≡ true) × (p ≡ v)) ⊎ (((p == v) ≡ false) × (p ≢ v))
        → slice_index_or (set ms (p % 8192) true) (v % 8192) false ≡ is_seen v (seen ++ p ∷ [])
    tells v n (inl e) =
        let c = h.count in
        let lt : p % 8192 < length ms = omega arith in
        cc (e.1, get_or-set_same ms (p % 8192) true false lt, or_true (is_seen v seen), more v true e.0)
    tells v n (inr e) =
        let ne : v % 8192 ≢ p % 8192 = λ q. e.1 (sym (one_place v p n near q)) in
        get_or-set_other ms (p % 8192) (v % 8192) true false ne ∙ h.tells v n
        ∙ sym (more v false e.0 ∙ or_false (is_seen v seen))

pub near : (n v : ℕ) → n ≤ 4096 → has_row n v ≡ true → IsNear v
near n v m r = go (eqb_tells v 0xfffff) (below v 8191)
  where
    below : (a b : ℕ) → (a < b) ⊎ (b ≤ a)
    below a b = grind arith

    go : (((v == 0xfffff) ≡ true) × (v ≡ 0xfffff)) ⊎ (((v == 0xfffff) ≡ false) × (v ≢ 0xfffff))
        → (v < 8191) ⊎ (8191 ≤ v) → IsNear v
    go (inl e) b = inr e.1
    go (inr e) (inl b) = inl b
    go (inr e) (inr b) =
        let f = ap is_some (root-frame_none n (tables_of_root n) v refl e.1 (inr (omega arith))) in
        absurd (grind (arith, f, r))
