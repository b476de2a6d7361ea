-- Parts of a buffer.
use Rattle.std.proofs.Common.{◌≡◌, ◌≢◌, ℕ, ◌+◌, ◌-◌, ◌<◌, ◌≤◌, List, [], ◌++◌, length, take, drop, sym, ap, ◌∙◌, arith}
use borrow.Rule.Slice.PartMut.{post_of, put_mid, take_put}
use Rattle.std.proofs.Math.Seq.{drop-append_seam, take-add, take-append_seam}
use Rattle.std.proofs.lemmas.List.{drop-drop, drop-take, length-drop, length-take-le, take-take}
use Rattle.pip_io.specs.Gathering.{between}

pub between_joined : (xs : List ℕ) (s p e : ℕ) → s ≤ p → p ≤ e → between xs s p ++ between xs p e ≡ between xs s e
between_joined xs s p e low high =
    let place : s + (p - s) ≡ p = omega arith in
    let size : (p - s) + (e - p) ≡ e - s = omega arith in
    cc (drop-drop (p - s) s xs, take-add (p - s) (e - p) (drop s xs))

pub between_front : (xs : List ℕ) (p e n : ℕ) → n ≤ e - p → take n (between xs p e) ≡ between xs p (p + n)
between_front xs p e n few =
    let size : n ≡ p + n - p = omega arith in
    cc (take-take n (e - p) (drop p xs) few)

pub between_size : (xs : List ℕ) (s e : ℕ) → e ≤ length xs → length (between xs s e) ≡ e - s
between_size xs s e fits = let d = length-drop s xs in length-take-le (e - s) (drop s xs) (omega arith)

-- a part whose buffer stayed as it was up to its end
pub between_same : (xs ys : List ℕ) (s e : ℕ) → s ≤ e → take e xs ≡ take e ys → between xs s e ≡ between ys s e
between_same xs ys s e order same =
    let size : s + (e - s) ≡ e = omega arith in
    cc (drop-take s (e - s) xs, drop-take s (e - s) ys)

-- a piece that was put into a buffer, of which the front stayed as it was
module _ (xs piece : List ℕ) (a n : ℕ) (fits : a ≤ length xs) (size : length piece ≡ n) where
  pub put_front : take a (put_mid a n xs piece) ≡ take a xs
  put_front = take_put a n xs piece fits

  pub put_part : between (put_mid a n xs piece) a (a + n) ≡ piece
  put_part =
      let front : length (take a xs) ≡ a = length-take-le a xs fits in
      let count : a + n - a ≡ length piece = omega arith in
      cc (drop-append_seam (take a xs) (piece ++ post_of a n xs), take-append_seam piece (post_of a n xs))

pub between_some : (xs : List ℕ) (s e : ℕ) → e ≤ length xs → s < e → between xs s e ≢ []
between_some xs s e fits few = λ none. absurd (omega (arith, between_size xs s e fits, ap length none))
