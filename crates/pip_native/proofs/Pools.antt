-- The pages of child i: where each stands.
use Rattle.std.proofs.Common.{◌≡◌, ℕ, zero, suc, ◌+◌, ◌*◌, ◌%◌, ◌≤◌, ◌<◌, ◌⊎◌, inl, inr, true, refl, arith, eq-eqb}
use Rattle.pip_model.specs.Tree.{is_place, vpage}
use Rattle.pip_parent.specs.Pool.{pool_at}
use Rattle.pip_native.specs.Watching.{page_address, pages_taken, pool_of}
use Rattle.pip_native.specs.Rooms.{IsLeftPage}

-- place k of the pool of child i has page m of the root
abbrev pub IsPlace : ℕ → ℕ → ℕ → ℕ → Type 0
IsPlace n i k m = ((k < 8) × (m ≡ n + 12 * i + k)) ⊎ ((k ≡ 8) × (m ≡ i)) ⊎ ((8 < k) × (m + 1 ≡ n + 12 * i + k))

pub pool_page : (n i k : ℕ) → k < 13 → (m : ℕ) × (pool_at (pool_of n i) k ≡ page_address m) × IsPlace n i k m
pool_page n i zero l = (n + 12 * i + 0, refl, inl (omega arith, refl))
pool_page n i (suc zero) l = (n + 12 * i + 1, refl, inl (omega arith, refl))
pool_page n i (suc (suc zero)) l = (n + 12 * i + 2, refl, inl (omega arith, refl))
pool_page n i (suc (suc (suc zero))) l = (n + 12 * i + 3, refl, inl (omega arith, refl))
pool_page n i (suc (suc (suc (suc zero)))) l = (n + 12 * i + 4, refl, inl (omega arith, refl))
pool_page n i (suc (suc (suc (suc (suc zero))))) l = (n + 12 * i + 5, refl, inl (omega arith, refl))
pool_page n i (suc (suc (suc (suc (suc (suc zero)))))) l = (n + 12 * i + 6, refl, inl (omega arith, refl))
pool_page n i (suc (suc (suc (suc (suc (suc (suc zero))))))) l = (n + 12 * i + 7, refl, inl (omega arith, refl))
pool_page n i (suc (suc (suc (suc (suc (suc (suc (suc zero)))))))) l = (i, refl, inr (inl (refl, refl)))
pool_page n i (suc (suc (suc (suc (suc (suc (suc (suc (suc zero))))))))) l =
    (n + 12 * i + 8, refl, inr (inr (omega arith, omega arith)))
pool_page n i (suc (suc (suc (suc (suc (suc (suc (suc (suc (suc zero)))))))))) l =
    (n + 12 * i + 9, refl, inr (inr (omega arith, omega arith)))
pool_page n i (suc (suc (suc (suc (suc (suc (suc (suc (suc (suc (suc zero))))))))))) l =
    (n + 12 * i + 10, refl, inr (inr (omega arith, omega arith)))
pool_page n i (suc (suc (suc (suc (suc (suc (suc (suc (suc (suc (suc (suc zero)))))))))))) l =
    (n + 12 * i + 11, refl, inr (inr (omega arith, omega arith)))
pool_page n i (suc (suc (suc (suc (suc (suc (suc (suc (suc (suc (suc (suc (suc k))))))))))))) l =
    absurd (let z : ⊥ = omega arith in z)

-- each page of the pool is left before child i
pub place_left : (n i k m : ℕ) → i < n → k < 13 → IsPlace n i k m → IsLeftPage n i m
place_left n i k m low l (inl (a, e)) = inr (omega arith, omega arith)
place_left n i k m low l (inr (inl (a, e))) = inl (omega arith, omega arith)
place_left n i k m low l (inr (inr (a, e))) = inr (omega arith, omega arith)

-- different places have different pages
pub one_place : (n i j k m : ℕ) → i < n → IsPlace n i j m → IsPlace n i k m → j ≡ k
one_place n i j k m low (inl (a, e)) (inl (b, f)) = omega arith
one_place n i j k m low (inl (a, e)) (inr (inl (b, f))) = omega arith
one_place n i j k m low (inl (a, e)) (inr (inr (b, f))) = omega arith
one_place n i j k m low (inr (inl (a, e))) (inl (b, f)) = omega arith
one_place n i j k m low (inr (inl (a, e))) (inr (inl (b, f))) = omega arith
one_place n i j k m low (inr (inl (a, e))) (inr (inr (b, f))) = omega arith
one_place n i j k m low (inr (inr (a, e))) (inl (b, f)) = omega arith
one_place n i j k m low (inr (inr (a, e))) (inr (inl (b, f))) = omega arith
one_place n i j k m low (inr (inr (a, e))) (inr (inr (b, f))) = omega arith

-- a page that is left after child i is none of its pool, and is left before it
pub left_apart : (n i k j m : ℕ) → i < n → k < 13 → IsPlace n i k m → IsLeftPage n (i + 1) j → j ≡ m → ⊥
left_apart n i k j m low l (inl (a, e)) (inl (b, c)) q = let z : ⊥ = omega arith in z
left_apart n i k j m low l (inl (a, e)) (inr (b, c)) q = let z : ⊥ = omega arith in z
left_apart n i k j m low l (inr (inl (a, e))) (inl (b, c)) q = let z : ⊥ = omega arith in z
left_apart n i k j m low l (inr (inl (a, e))) (inr (b, c)) q = let z : ⊥ = omega arith in z
left_apart n i k j m low l (inr (inr (a, e))) (inl (b, c)) q = let z : ⊥ = omega arith in z
left_apart n i k j m low l (inr (inr (a, e))) (inr (b, c)) q = let z : ⊥ = omega arith in z

pub left_before : (n i k : ℕ) → IsLeftPage n (i + 1) k → IsLeftPage n i k
left_before n i k (inl (a, b)) = inl (omega arith, b)
left_before n i k (inr (a, b)) = inr (omega arith, b)

pub left_taken : (n i k : ℕ) → i ≤ n → IsLeftPage n i k → k < pages_taken n
left_taken n i k l (inl (a, b)) = omega arith
left_taken n i k l (inr (a, b)) = b

pub page_place : (m : ℕ) → is_place (page_address m) ≡ true
page_place m = eq-eqb (page_address m % 4096) 0 (omega arith)

pub page_at : (m : ℕ) → vpage (page_address m) ≡ 1024 + m
page_at m = omega arith

pub same_page : (j m : ℕ) → page_address j ≡ page_address m → j ≡ m
same_page j m e = omega arith
