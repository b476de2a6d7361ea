-- A text that is written in pieces of digits.
use Rattle.std.proofs.Common.{◌≡◌, ◌≢◌, ℕ, List, [], ◌++◌, append_assoc, Result, Ok, Err}
use Rattle.std.specs.Prelude.{IsErr, MatchResult, OnErr, flat_map}
use Rattle.std.proofs.lemmas.Grind.{flat_map-append}
use Rattle.pip_io.specs.Taken.{Taken, Appends, AppendsPart, Keeps, SendsPart}
use Rattle.pip_io.proofs.Taken.{Appends-kept, Appends-trans, cut_sent, part_sent}
use Rattle.pip_io.proofs.Piecewise.{part_after, part_longer}

-- a front of a text was written
abbrev pub HasFront : (ℕ → List ℕ) → Taken → Taken → List ℕ → List ℕ → Type 0
HasFront f a b rest all = (front : List ℕ) × Appends a b front × (front ++ flat_map f rest ≡ flat_map f all)

module _ (f : ℕ → List ℕ) (a b c : Taken) (rest all piece more : List ℕ) (split : rest ≡ piece ++ more)
    (h : HasFront f a b rest all) where
  all_is : (h.0 ++ flat_map f piece) ++ flat_map f more ≡ flat_map f all
  all_is = rw (append_assoc h.0 (flat_map f piece) (flat_map f more), ← flat_map-append f piece more, ← split, h.2)

  pub piece_more : Appends b c (flat_map f piece) → HasFront f a c more all
  piece_more w = (h.0 ++ flat_map f piece, Appends-trans a b c h.0 (flat_map f piece) h.1 w, all_is)

  pub piece_cut : AppendsPart b c (flat_map f piece) → AppendsPart a c (flat_map f all)
  piece_cut w = rw (← all_is) (part_longer a c (h.0 ++ flat_map f piece) (flat_map f more)
      (part_after a b c h.0 (flat_map f piece) h.1 w))

-- a part was given
pub given_cut : {T E : Type 0} (r : Result T E) (a b : Taken) (t : List ℕ) → IsErr r → AppendsPart a b t
    → MatchResult r (λ _. Appends a b t) (λ _. SendsPart a b t)
given_cut (Ok v) a b t bad part = cc
given_cut (Err e) a b t bad part = part_sent a b t part

-- all was given, and then what is held was written, or not
pub given_settled : {T E : Type 0} (r : Result T E) (a b c : Taken) (t : List ℕ) → Appends a b t → Keeps b c
    → OnErr r (c.buffered ≢ []) → MatchResult r (λ _. Appends a c t) (λ _. SendsPart a c t)
given_settled (Ok v) a b c t all kept some = Appends-kept a b c t all kept
given_settled (Err e) a b c t all kept some = cut_sent a b c t all kept some
