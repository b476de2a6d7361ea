-- Bytes that stand in a part of a buffer, moved to its front, and bytes that are read after them.
use Rattle.std.specs.Prelude.{◌≡◌, ℕ, ◌+◌, ◌-◌, ◌≤◌, List, ◌++◌, length, take, drop, Option, Some, None}
use Rattle.std.specs.Io.KnownBytes.{Consumes, Keeps, prepend_known}
use Rattle.std.proofs.Common.{append_assoc, le_refl, sym, ap, subst, ◌∙◌, arith}
use Rattle.std.specs.List.{copy_within}
use Rattle.std.proofs.Math.Seq.{take-append-add, take-length}
use Rattle.std.proofs.lemmas.List.{drop-drop, drop-take, length-append, length-drop, length-take, length-take-le}
use Rattle.std.proofs.lemmas.List.{take-append-le}
use borrow.Rule.Slice.PartMut.{put_mid, post_of}

-- the bytes after the first n of a part
pub part_after : (n s e : ℕ) (xs : List ℕ) → s ≤ e → n ≤ e - s
    → take (e - (s + n)) (drop (s + n) xs) ≡ drop n (take (e - s) (drop s xs))
part_after n s e xs h few =
    let same : e - (s + n) ≡ e - s - n = omega arith in
    let all : n + (e - s - n) ≡ e - s = omega arith in
    ap (λ k. take k (drop (s + n) xs)) same
    ∙ ap (take (e - s - n)) (sym (drop-drop n s xs))
    ∙ sym (drop-take n (e - s - n) (drop s xs))
    ∙ ap (λ k. drop n (take k (drop s xs))) all

-- a part, moved to the front
module _ (s e : ℕ) (xs : List ℕ) (h : s ≤ e) (fits : e ≤ length xs) where
  part_size : length (take (e - s) (drop s xs)) ≡ e - s
  part_size = let d = length-drop s xs in length-take-le (e - s) (drop s xs) (omega arith)

  moved : take (e - s) (copy_within xs s e 0) ≡ take (e - s) (drop s xs)
  moved =
      let part = take (e - s) (drop s xs) in
      take-append-le (e - s) part (drop (0 + (e - s)) xs) (subst (λ k. e - s ≤ k) (sym part_size) (le_refl (e - s)))
      ∙ ap (λ k. take k part) (sym part_size)
      ∙ take-length part

  moved_size : e - s ≤ length (copy_within xs s e 0)
  moved_size = subst (λ k. e - s ≤ k) (sym (length-append (take (e - s) (drop s xs)) (drop (0 + (e - s)) xs)))
      (let p = part_size in omega arith)

  -- the first n of the bytes that are read come after it
  pub read_ahead : (n m : ℕ) (buf new held : List ℕ) → buf ≡ copy_within xs s e 0 → n ≤ length new
      → take (e - s) (drop s xs) ≡ held
      → take (e - s + n - 0) (put_mid (e - s) (e - s + m - (e - s)) buf new) ≡ held ++ take n new
  read_ahead n m buf new held is few part =
      let after = post_of (e - s) (e - s + m - (e - s)) buf in
      let room : e - s ≤ length buf = subst (λ b. e - s ≤ length b) (sym is) moved_size in
      let size : length (take (e - s) buf) ≡ e - s = length-take-le (e - s) buf room in
      let count : e - s + n - 0 ≡ length (take (e - s) buf) + n = omega arith in
      ap (λ k. take k (take (e - s) buf ++ (new ++ after))) count
      ∙ take-append-add (take (e - s) buf) (new ++ after) n
      ∙ ap (λ r. take (e - s) buf ++ r) (take-append-le n new after few)
      ∙ ap (λ f. f ++ take n new) (ap (take (e - s)) is ∙ moved ∙ part)

-- what is held and what is left are together as before
pub kept_more : (a b : Option (List ℕ)) (held more : List ℕ) → Consumes a b more
    → Keeps (prepend_known held a) (prepend_known (held ++ more) b)
kept_more None b held more c = tt
kept_more (Some xs) None held more c = absurd c
kept_more (Some xs) (Some ys) held more c = append_assoc held more ys ∙ ap (λ zs. held ++ zs) (sym c)

pub part_few : (n s e : ℕ) (xs : List ℕ) → n ≤ length (take (e - s) (drop s xs)) → n ≤ e - s
part_few n s e xs h = let l = length-take (e - s) (drop s xs) in omega (arith, h, l)
