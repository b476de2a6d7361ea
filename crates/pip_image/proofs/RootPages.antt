-- The rows of the root when a machine begins.
use Rattle.std.specs.Prelude.{◌≡◌, refl, ℕ, zero, suc, ◌+◌, ◌-◌, ◌^◌, ◌≤◌, ◌<◌, ◌==◌, ◌&&◌, ◌⊎◌, nat_le, nat_lt, Bool}
use Rattle.std.specs.Prelude.{true, false, cond, Option, Some, None, is_some, option_map}
use Rattle.std.proofs.Common.{eqb-true, inl, inr, arith}
use Rattle.std.proofs.lemmas.Bool.Decides.{nat_tests}
use Rattle.pip_model.specs.Boot.{tables_of_root, boot_tree, first_user, frame_of_root, rows_from, zero_words}
use Rattle.pip_model.specs.Tree.{Row, row_at}
use Rattle.pip_model.specs.Images.{has_row}
use Rattle.pip_model.proofs.Trees.Boot.{root-frame_none}

pub no_row : (n v : ℕ) → n ≤ 4096 → 2 ^ 20 ≤ v → has_row n v ≡ false
no_row n v m h = rw (← root-frame_none n (tables_of_root n) v refl (λ e. omega (arith, e, h)) (inr (omega (
  arith,
  m,
  h,
))))

-- ---- the frames of the root's pages

found_is : (b : Bool) (r : Row) (o : Option Row) (f : ℕ) → option_map (λ r. r.frame) (cond b (Some r) o) ≡ Some f
    → (r.frame ≡ f) ⊎ (option_map (λ r. r.frame) o ≡ Some f)
found_is true r o f e = inl cc
found_is false r o f e = inr e

row_frame : (k v g u f : ℕ) → option_map (λ r. r.frame) (row_at (rows_from k v g) u) ≡ Some f → (g ≤ f) × (f ≤ g + k)
row_frame zero v g u f e = last (found_is (0xfffff == u) (record { at = 0xfffff; frame = g; rights = 7 }) None f e)
  where
    last : (g ≡ f) ⊎ (None ≡ Some f) → (g ≤ f) × (f ≤ g + 0)
    last (inl h) = (omega arith, omega arith)
    last (inr h) = absurd cc
row_frame (suc k) v g u f e = more (row_frame k (v + 1) (g + 1) u f)
    (found_is (v == u) (record { at = v; frame = g; rights = 7 }) (row_at (rows_from k (v + 1) (g + 1)) u) f e)
  where
    more : (option_map (λ r. r.frame) (row_at (rows_from k (v + 1) (g + 1)) u) ≡ Some f → (g + 1 ≤ f) × (f ≤ g + 1 + k))
        → (g ≡ f) ⊎ (option_map (λ r. r.frame) (row_at (rows_from k (v + 1) (g + 1)) u) ≡ Some f)
        → (g ≤ f) × (f ≤ g + suc k)
    more ih (inl h) = (omega arith, omega arith)
    more ih (inr h) = let r = ih h in (omega arith, omega arith)

users : (n : ℕ) → 16 ≤ n → n ≤ 4096 → first_user n < n
users n h k = omega arith

pub frame_small : (n v f : ℕ) → 16 ≤ n → n ≤ 4096 → frame_of_root n v ≡ Some f → f < n
frame_small n v f h k e = let r = row_frame (n - first_user n - 1) 1024 (first_user n) v f e in omega arith

pub frame_open : (n v f : ℕ) → 16 ≤ n → n ≤ 4096 → frame_of_root n v ≡ Some f → is_some ((boot_tree n).words f) ≡ true
frame_open n v f h k e =
    let a : first_user n ≤ f = (row_frame (n - first_user n - 1) 1024 (first_user n) v f e).0 in
    let b = frame_small n v f h k e in
    on (first_user n) f n a b
  where
    on : (a f n : ℕ) → a ≤ f → f < n → is_some (cond (nat_le a f && nat_lt f n) (Some zero_words) None) ≡ true
    on a f n h k = grind (arith, nat_tests, h, k)

-- ---- a frame is that of one page

found_at : (b : Bool) (r : Row) (o : Option Row) (f : ℕ) → option_map (λ r. r.frame) (cond b (Some r) o) ≡ Some f
    → ((b ≡ true) × (r.frame ≡ f)) ⊎ (option_map (λ r. r.frame) o ≡ Some f)
found_at true r o f e = inl (refl, cc)
found_at false r o f e = inr e

frame_at : ℕ → ℕ → ℕ → ℕ → Option ℕ
frame_at k v g u = option_map (λ r. r.frame) (row_at (rows_from k v g) u)

one_row : (k v g u w f : ℕ) → frame_at k v g u ≡ Some f → frame_at k v g w ≡ Some f → u ≡ w
unfolding frame_at
one_row zero v g u w f a b = last (found_at (0xfffff == u) (record { at = 0xfffff; frame = g; rights = 7 }) None f a)
    (found_at (0xfffff == w) (record { at = 0xfffff; frame = g; rights = 7 }) None f b)
  where
    last : (((0xfffff == u) ≡ true) × (g ≡ f)) ⊎ (None ≡ Some f) → (((0xfffff == w) ≡ true) × (g ≡ f)) ⊎ (None ≡ Some f)
        → u ≡ w
    last (inl h) (inl k) = cc (eqb-true 0xfffff u h.0, eqb-true 0xfffff w k.0)
    last (inr h) k = absurd cc
    last h (inr k) = absurd cc
one_row (suc k) v g u w f a b =
    more (one_row k (v + 1) (g + 1) u w f) (row_frame k (v + 1) (g + 1) u f) (row_frame k (v + 1) (g + 1) w f)
    (found_at (v == u) (record { at = v; frame = g; rights = 7 }) (row_at (rows_from k (v + 1) (g + 1)) u) f a)
    (found_at (v == w) (record { at = v; frame = g; rights = 7 }) (row_at (rows_from k (v + 1) (g + 1)) w) f b)
  where
    more : (frame_at k (v + 1) (g + 1) u ≡ Some f → frame_at k (v + 1) (g + 1) w ≡ Some f → u ≡ w)
        → (frame_at k (v + 1) (g + 1) u ≡ Some f → (g + 1 ≤ f) × (f ≤ g + 1 + k))
        → (frame_at k (v + 1) (g + 1) w ≡ Some f → (g + 1 ≤ f) × (f ≤ g + 1 + k))
        → (((v == u) ≡ true) × (g ≡ f)) ⊎ (frame_at k (v + 1) (g + 1) u ≡ Some f)
        → (((v == w) ≡ true) × (g ≡ f)) ⊎ (frame_at k (v + 1) (g + 1) w ≡ Some f) → u ≡ w
    more ih ru rw (inl h) (inl k) = cc (eqb-true v u h.0, eqb-true v w k.0)
    more ih ru rw (inl h) (inr k) = absurd (omega (arith, (rw k).0, h.1))
    more ih ru rw (inr h) (inl k) = absurd (omega (arith, (ru h).0, k.1))
    more ih ru rw (inr h) (inr k) = ih h k

pub one_page : (n u v f : ℕ) → frame_of_root n u ≡ Some f → frame_of_root n v ≡ Some f → u ≡ v
unfolding frame_at
one_page n u v f a b = one_row (n - first_user n - 1) 1024 (first_user n) u v f a b

pub some_frame : (n v : ℕ) → has_row n v ≡ true → (f : ℕ) × (frame_of_root n v ≡ Some f)
some_frame n v h = go (frame_of_root n v) refl h
  where
    go : (o : Option ℕ) → frame_of_root n v ≡ o → is_some o ≡ true → (f : ℕ) × (frame_of_root n v ≡ Some f)
    go None e h = absurd (grind (arith, h))
    go (Some f) e h = (f, e)
