-- The lines of labels that may come again, or may come.
use Rattle.std.proofs.Common.{◌≡◌, ℕ, zero, suc, ◌≤◌, List, [], ◌∷◌, length, take, Some, slice_get, ap}
use Rattle.std.proofs.Common.{◌+◌, ◌++◌, ◌∙◌, append-nil, append_assoc, arith, subst, sym}
use Rattle.std.specs.List.{zip}
use Rattle.std.proofs.lemmas.List.{take_all}
use Rattle.std.proofs.lemmas.Slice.Zip.{length-zip}
use Rattle.pip_io.specs.Taken.{Appends, AppendsPart, Taken}
use Rattle.pip_io.proofs.Taken.{Appends-trans}
use Rattle.pip_io.proofs.Piecewise.{part_after, part_longer}
use Rattle.pip_search_commands.specs.EveryText.{counts_words, windows_words}

-- two that stand at one place stand beside each other
pub zip_at : {A B : Type 0} (xs : List A) (ys : List B) (k : ℕ) (x : A) (y : B) → slice_get xs k ≡ Some x
    → slice_get ys k ≡ Some y → slice_get (zip xs ys) k ≡ Some (x, y)
zip_at [] ys k x y at there = absurd cc
zip_at (a ∷ xs) [] k x y at there = absurd cc
zip_at (a ∷ xs) (b ∷ ys) zero x y at there = cc
zip_at (a ∷ xs) (b ∷ ys) (suc k) x y at there = zip_at xs ys k x y at there

pub all_beside : {A B : Type 0} (xs : List A) (ys : List B) (k : ℕ) → length ys ≤ k → take k (zip xs ys) ≡ zip xs ys
all_beside xs ys k most = let few = length-zip xs ys in take_all k (zip xs ys) (omega arith)

-- ---- the windows of classes

module _ (cpus : ℕ) (ls : List ℕ) where
  -- those of the classes before one, its own, and those of the others
  counts_split : (k : ℕ) (ns : List ℕ) (i n : ℕ) → slice_get ns i ≡ Some n → (more : List ℕ)
      × (counts_words cpus ls k ns
      ≡ counts_words cpus ls k (take i ns) ++ (windows_words cpus ls (k + i) n ++ more))
  counts_split k [] i n at = cc
  counts_split k (m ∷ ns) zero n at =
      let one : windows_words cpus ls k m ≡ windows_words cpus ls (k + 0) n =
      ap (windows_words cpus ls k) (let e : m ≡ n = cc in e)
      ∙ ap (λ j. windows_words cpus ls j n) (let e : k ≡ k + 0 = omega arith in e) in
      (counts_words cpus ls (suc k) ns, rw one)
  counts_split k (m ∷ ns) (suc i) n at =
      let (more, e) = counts_split (suc k) ns i n at in
      let next : suc k + i ≡ k + suc i = omega arith in (
        more,
        rw (
          e,
          next,
          ← append_assoc (windows_words cpus ls k m) (counts_words cpus ls (suc k) (take i ns))
              (windows_words cpus ls (k + suc i) n ++ more),
        ),
      )

  counts_more : (k : ℕ) (ns : List ℕ) (i n : ℕ) → slice_get ns i ≡ Some n → counts_words cpus ls k (take (suc i) ns)
      ≡ counts_words cpus ls k (take i ns) ++ windows_words cpus ls (k + i) n
  counts_more k [] i n at = cc
  counts_more k (m ∷ ns) zero n at =
      append-nil (windows_words cpus ls k m) ∙ ap (windows_words cpus ls k) (let e : m ≡ n = cc in e)
      ∙ ap (λ j. windows_words cpus ls j n) (let e : k ≡ k + 0 = omega arith in e)
  counts_more k (m ∷ ns) (suc i) n at =
      let next : suc k + i ≡ k + suc i = omega arith in
      rw (
        counts_more (suc k) ns i n at,
        next,
        ← append_assoc (windows_words cpus ls k m)
            (counts_words cpus ls (suc k) (take i ns)) (windows_words cpus ls (k + suc i) n),
      )

  module _ (a b d : Taken) (ns : List ℕ) (i n : ℕ) (at : slice_get ns i ≡ Some n)
      (before : Appends a b (counts_words cpus ls 0 (take i ns))) where
    here : windows_words cpus ls (0 + i) n ≡ windows_words cpus ls i n
    here = ap (λ j. windows_words cpus ls j n) (let e : 0 + i ≡ i = omega arith in e)

    -- one class more was written
    pub counts_next : Appends b d (windows_words cpus ls i n) → Appends a d (counts_words cpus ls 0 (take (i + 1) ns))
    counts_next h =
        let one : suc i ≡ i + 1 = omega arith in
        rw (← one) (subst (Appends a d) (sym (counts_more 0 ns i n at ∙ ap
        (λ t. counts_words cpus ls 0 (take i ns) ++ t) here))
        (Appends-trans a b d (counts_words cpus ls 0 (take i ns)) (windows_words cpus ls i n) before h))

    -- or a part of it
    pub counts_cut : AppendsPart b d (windows_words cpus ls i n) → AppendsPart a d (counts_words cpus ls 0 ns)
    counts_cut h =
        let (more, e) = counts_split 0 ns i n at in
        let whole : counts_words cpus ls 0 ns
        ≡ counts_words cpus ls 0 (take i ns) ++ (windows_words cpus ls i n ++ more) =
        rw (e, here) in
        rw whole (part_after a b d (counts_words cpus ls 0 (take i ns)) (windows_words cpus ls i n ++ more) before
        (part_longer b d (windows_words cpus ls i n) more h))
