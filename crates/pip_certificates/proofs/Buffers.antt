-- Bytes that are read into the rest of a buffer.
use Rattle.std.specs.Prelude.{◌≡◌, ℕ, ◌+◌, ◌≤◌, List, ◌++◌, length, take}
use Rattle.std.proofs.Math.Seq.{take-append-add}
use Rattle.std.proofs.lemmas.List.{length-take-le, take-append-le}
use borrow.Rule.Slice.PartMut.{put_mid, post_of}

pub take_filled : (t n k : ℕ) (buf new : List ℕ) → t ≤ length buf → n ≤ length new
    → take (t + n) (put_mid t k buf new) ≡ take t buf ++ take n new
take_filled t n k buf new h i =
    let e = length-take-le t buf h in
    cc (take-append-add (take t buf) (new ++ post_of t k buf) n, take-append-le n new (post_of t k buf) i)
