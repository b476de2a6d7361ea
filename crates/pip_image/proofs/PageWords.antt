-- Words that are read in one go.
use Rattle.std.specs.Prelude.{◌≡◌, refl, ℕ, zero, suc, ◌+◌, ◌*◌, ◌<◌, ◌≤◌, Bool, true, false, cond, nat_lt, List}
use Rattle.std.specs.Prelude.{◌∷◌, length, take, drop, slice_index, Result, Ok, Err}
use Rattle.std.proofs.lemmas.Bool.Decides.{nat_tests}
use Rattle.pip_model.specs.declared.image.ImageError.{ImageError}
use Rattle.std.proofs.Common.{[], sym, ◌∙◌, arith, length-drop}
use Rattle.std.proofs.lemmas.List.{length-take-le, take-append-drop}
use Rattle.pip_image.proofs.Fronts.{words_front}
use Rattle.std.proofs.Math.Seq.{drop-drop}
use Rattle.byteorder.specs.Endian.{little_number, IsRead}
use Rattle.pip_model.specs.Images.{Page, words_in}

read_from : (k : ℕ) (src dst : List ℕ) → length dst ≡ k
    → ((i : ℕ) → i < length dst → slice_index dst i ≡ little_number 4 (drop (4 * i) src)) → dst ≡ words_in k src
unfolding words_in
read_from zero src [] l h = refl
read_from zero src (w ∷ dst) l h = absurd (omega arith)
read_from (suc k) src [] l h = absurd (omega arith)
read_from (suc k) src (w ∷ dst) l h =
    let rest = read_from k (drop 4 src) dst (omega arith) (λ i b. rw (
      h (suc i) (omega (arith, b)),
      next i,
      ←
          drop-drop (4 * i) 4 src,
    )) in
    (λ j. h 0 (omega arith) j ∷ rest j)
  where
    next : (i : ℕ) → 4 * suc i ≡ 4 + 4 * i
    next i = omega arith

pub words_read : (src dst : List ℕ) → length dst ≡ 1024 → IsRead little_number 4 src dst → dst ≡ words_in 1024 src
words_read src dst l h = read_from 1024 src dst l h

-- the words of the part between 4 and 4100
pub words_cut : (bs ws : List ℕ) → 4100 ≤ length bs → ws ≡ words_in 1024 (take 4096 (drop 4 bs))
    → ws ≡ words_in 1024 (drop 4 bs)
words_cut bs ws h e =
    let l = length-drop 4 bs in
    let t : length (take 4096 (drop 4 bs)) ≡ 4096 = length-take-le 4096 (drop 4 bs) (omega arith) in
    rw (
      e,
      ← words_front 1024 (take 4096 (drop 4 bs)) (drop 4096 (drop 4 bs)) (omega (arith, t)),
      take-append-drop 4096
          (drop 4 bs),
    )

abbrev pub paged : ℕ → List ℕ → List ℕ → Result (Page × List ℕ) ImageError
paged v ws rest = Ok (record { vpage = v; words = ws }, rest)

-- a page that passes its tests
pub page_is : (a b c d : ImageError) (n : ℕ) (s r : Bool) (w v : ℕ) (ws us rest : List ℕ) → 4100 ≤ n → s ≡ false
    → r ≡ true → v ≡ w → us ≡ ws
    → paged v us rest
    ≡ cond (nat_lt n 4) (Err a) (cond s (Err b) (cond r (cond (nat_lt n 4100) (Err c) (paged w ws rest)) (Err d)))
page_is a b c d n s r w v ws us rest h unseen row e f =
    (λ i. paged (e i) (f i) rest) ∙ sym (passed (nat_lt n 4) s r (nat_lt n 4100) _ _ _ _ _
    (enough n 4 (omega arith)) unseen row (enough n 4100 h))
  where
    passed : (l s r f : Bool) (a b c d : ImageError) (y : Result (Page × List ℕ) ImageError) → l ≡ false → s ≡ false
        → r ≡ true → f ≡ false → cond l (Err a) (cond s (Err b) (cond r (cond f (Err c) y) (Err d))) ≡ y
    passed l s r f a b c d y e g h k = grind (arith, e, g, h, k)

    enough : (a b : ℕ) → b ≤ a → nat_lt a b ≡ false
    enough a b h = grind (arith, nat_tests, h)
