-- The pieces of a text that is written one after another.
use Rattle.std.proofs.Common.{◌≡◌, ℕ, List, [], ◌++◌, refl, sym, ap, ◌∙◌, subst, append_assoc, Result, Ok, Err, IsErr}
use Rattle.std.proofs.Common.{OnOk, OnErr}
use Rattle.pip_io.proofs.Taken.{Appends-nil, Appends-trans}
use Rattle.std.specs.Prelude.{MatchResult}
use Rattle.std.proofs.lemmas.List.{append-nil}
use Rattle.pip_io.specs.Taken.{Taken, Appends, AppendsPart, Wrote}
use Rattle.pip_io.proofs.Pieces.{left_more as rest_more}
use Rattle.pip_dump.specs.Written.{IsLeft}
pub use Rattle.pip_io.proofs.Taken.{wrote_err}

pub left_start : (old : Taken) (whole : List ℕ) → IsLeft old old whole whole
left_start old whole = record { front = []; written = Appends-nil old; same = refl }

module _ (old now new : Taken) (piece rest whole : List ℕ) (h : IsLeft old now (piece ++ rest) whole) where
  -- a piece more
  pub left_more : Appends now new piece → IsLeft old new rest whole
  left_more a = record {
    front = h.front ++ piece;
    written = Appends-trans old now new h.front piece h.written a;
    same = append_assoc h.front piece rest ∙ h.same;
  }

  -- a piece of which only a prefix was written
  pub left_part : AppendsPart now new piece → AppendsPart old new whole
  left_part (front, more, a, e, some) = (
    h.front ++ front,
    more ++ rest,
    Appends-trans old now new h.front front h.written a,
    append_assoc h.front front (more ++ rest)
        ∙ (ap (λ l. h.front ++ l) (sym (append_assoc front more rest) ∙ ap (λ l. l ++ rest) e) ∙ h.same),
    rest_more more rest some,
  )

-- nothing is left
pub left_none : (old now : Taken) (whole : List ℕ) → IsLeft old now [] whole → Appends old now whole
left_none old now whole h = subst (Appends old now) (sym (append-nil h.front) ∙ h.same) h.written

-- what is left, said in other words
pub left_same : (old now : Taken) (rest other whole : List ℕ) → rest ≡ other → IsLeft old now rest whole
    → IsLeft old now other whole
left_same old now rest other whole e h = subst (λ r. IsLeft old now r whole) e h

-- what is so where a call failed
pub match_err : {T E : Type 0} (A B : Type 0) (r : Result T E) → IsErr r → B → MatchResult r (λ _. A) (λ _. B)
match_err A B (Ok u) bad h = cc
match_err A B (Err e) so h = h
