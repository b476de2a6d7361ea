-- Places that are empty.
use Rattle.std.specs.Prelude.{◌≡◌, refl, ℕ, zero, suc, ◌<◌, List, Option, None, length, replicate, slice_index_or}
use Rattle.std.proofs.Common.{◌∙◌, sym, ap, ap₂, arith}
use Rattle.std.proofs.lemmas.List.{ext_get_or, length-replicate}
use Rattle.pip_model.specs.declared.cached.Entry.{Entry}
use Rattle.pip_model.specs.Cache.{Places, without_entries, no_entries}

pub none_at : (n k : ℕ) → slice_index_or {A = Option Entry} (replicate n None) k None ≡ None
none_at zero k = refl
none_at (suc n) zero = refl
none_at (suc n) (suc k) = none_at n k

-- 64 places that are empty
all_empty : (places : List (Option Entry)) → length places ≡ 64
    → ((k : ℕ) → k < 64 → slice_index_or places k None ≡ None) → places ≡ no_entries
unfolding no_entries
all_empty places count none =
    let same : length places ≡ length (replicate {A = Option Entry} 64 None) =
    cc (length-replicate {A = Option Entry} 64 None) in
    ext_get_or None places (replicate 64 None) same
    (λ k small. cc (none k (omega (arith, small, count)), none_at 64 k))

-- and counts that stayed
pub is_emptied : (c p : Places) → length c.at ≡ 64 → ((k : ℕ) → k < 64 → slice_index_or c.at k None ≡ None)
    → c.hits ≡ p.hits → c.misses ≡ p.misses → c ≡ without_entries p
is_emptied c p count none hits misses =
    rw (all_empty c.at count none) (ap₂ (λ h m. record { at = no_entries; hits = h; misses = m }) hits misses)
