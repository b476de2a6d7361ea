-- What was taken of a source that is read whole, piece by piece.
use Rattle.std.specs.Prelude.{◌≡◌, ◌≢◌, ℕ, ◌+◌, ◌^◌, ◌≤◌, List, ◌++◌, length, take, Option}
use Rattle.std.proofs.Common.{arith, subst, ◌∙◌, length-append}
use Rattle.std.specs.Io.KnownBytes.{Consumes}
use Rattle.std.proofs.KnownBytes.{Consumes-trans}
use Rattle.std.proofs.lemmas.List.{length-take-le}
use Rattle.pip_script.specs.Whole.{TakesMore, TakesPart}
use Rattle.pip_script.proofs.Newlines.{one_from}

module _ (bytes chunk : List ℕ) (count : ℕ) (a b c : Option (List ℕ)) (taken : TakesPart bytes a b)
    (read : Consumes b c (take count chunk)) (few : count ≤ length chunk) where
  size : length (take count chunk) ≡ count
  size = length-take-le count chunk few

  -- within the limit
  pub takes_on : length bytes + count ≤ 2 ^ 24 → TakesPart (bytes ++ take count chunk) a c
  takes_on room = record {
    read = Consumes-trans a b c bytes (take count chunk) taken.read read;
    limit = let s = size in let l = length-append bytes (take count chunk) in omega (arith, s, l, room);
  }

  -- one byte at the limit
  pub takes_over : count ≢ 0 → length chunk ≤ 1 → 2 ^ 24 ≤ length bytes → TakesMore a c
  takes_over some one full =
      let (last, is) = one_from (take count chunk) (size ∙ omega (arith, some, one, few)) in
      record {
        bytes = bytes;
        last = last;
        read = subst (λ more. Consumes a c (bytes ++ more)) is
            (Consumes-trans a b c bytes (take count chunk) taken.read read);
        limit = let l = taken.limit in omega (arith, full, l);
      }
