-- How texts are taken, sent and buffered, one after another.
use Rattle.std.specs.Prelude.{Result, Ok, Err, IsErr, OnErr, OnOk}
use Rattle.std.proofs.Common.{◌≡◌, ◌≢◌, ℕ, List, [], ◌∷◌, ◌++◌, Option, None, Some, sym, ap, subst, ◌∙◌, append_assoc}
use Rattle.std.proofs.Common.{append-nil}
use Rattle.pip_io.specs.Taken.{Taken, Appends, AppendsPart, GrowsInPart, GrowsPast, Keeps, Sends, SendsPart, SendsPast}
use Rattle.pip_io.specs.Taken.{Wrote, over}
use Rattle.pip_io.proofs.Pieces.{left_more}

more_left : (buffered rest : List ℕ) → rest ≢ [] → buffered ++ rest ≢ []
more_left [] rest some = some
more_left (b ∷ buffered) rest some = λ none. cc

-- ---- by what went out

sends_nil : (x : Option (List ℕ)) (buffered : List ℕ) → Sends x x (buffered ++ []) buffered
sends_nil None buffered = tt
sends_nil (Some xs) buffered = ([], sym (append-nil xs), sym (append-nil buffered))

sends_trans : (x y z : Option (List ℕ)) (a b c t u : List ℕ) → Sends x y (a ++ t) b → Sends y z (b ++ u) c
    → Sends x z (a ++ (t ++ u)) c
sends_trans None y z a b c t u p q = tt
sends_trans (Some xs) None z a b c t u p q = absurd p
sends_trans (Some xs) (Some ys) None a b c t u p q = absurd q
sends_trans (Some xs) (Some ys) (Some zs) a b c t u p q = (
  p.0 ++ q.0,
  rw (q.1, p.1, append_assoc xs p.0 q.0),
  rw (append_assoc p.0 q.0 c, q.2, ← append_assoc p.0 b u, p.2, append_assoc a t u),
)

part_after : (x y z : Option (List ℕ)) (a b t u : List ℕ) → Sends x y (a ++ t) b → GrowsInPart y z (b ++ u)
    → GrowsInPart x z (a ++ (t ++ u))
part_after None y z a b t u p q = tt
part_after (Some xs) None z a b t u p q = absurd p
part_after (Some xs) (Some ys) None a b t u p q = absurd q
part_after (Some xs) (Some ys) (Some zs) a b t u p q = (
  p.0 ++ q.0,
  q.1,
  rw (q.2, p.1, append_assoc xs p.0 q.0),
  rw (append_assoc p.0 q.0 q.1, q.3, ← append_assoc p.0 b u, p.2, append_assoc a t u),
  q.4,
)

part_taken : (x y : Option (List ℕ)) (a b front rest : List ℕ) → Sends x y (a ++ front) b → rest ≢ []
    → GrowsInPart x y (a ++ (front ++ rest))
part_taken None y a b front rest p some = tt
part_taken (Some xs) None a b front rest p some = absurd p
part_taken (Some xs) (Some ys) a b front rest p some = (
  p.0,
  b ++ rest,
  p.1,
  rw (← append_assoc p.0 b rest, p.2, append_assoc a front rest),
  more_left b rest some,
)

part_held : (x y : Option (List ℕ)) (all b : List ℕ) → Sends x y all b → b ≢ [] → GrowsInPart x y all
part_held None y all b p some = tt
part_held (Some xs) None all b p some = absurd p
part_held (Some xs) (Some ys) all b p some = (p.0, b, p.1, p.2, some)

-- ---- by what was taken

pub Appends-nil : (a : Taken) → Appends a a []
Appends-nil a = record { sends = sends_nil a.out a.buffered }

pub Appends-trans : (a b c : Taken) (t u : List ℕ) → Appends a b t → Appends b c u → Appends a c (t ++ u)
Appends-trans a b c t u p q = record {
  sends = sends_trans a.out b.out c.out a.buffered b.buffered c.buffered t u
      p.sends q.sends;
}

pub Keeps-refl : (a : Taken) → Keeps a a
Keeps-refl a = Appends-nil a

pub Keeps-trans : (a b c : Taken) → Keeps a b → Keeps b c → Keeps a c
Keeps-trans a b c p q = Appends-trans a b c [] [] p q

pub Appends-kept : (a b c : Taken) (t : List ℕ) → Appends a b t → Keeps b c → Appends a c t
Appends-kept a b c t p q = rw (← append-nil t) (Appends-trans a b c t [] p q)

-- a text after one that was taken
pub SendsPart-after : (a b c : Taken) (t u : List ℕ) → Appends a b t → SendsPart b c u → SendsPart a c (t ++ u)
SendsPart-after a b c t u p q = record {
  grows = part_after a.out b.out c.out a.buffered b.buffered t u
      p.sends q.grows;
}

-- a part was taken
pub part_sent : (a b : Taken) (t : List ℕ) → AppendsPart a b t → SendsPart a b t
part_sent a b t p =
    rw (← p.3) (record { grows = part_taken a.out b.out a.buffered b.buffered p.0 p.1 p.2.sends p.4 })

-- all of it was taken, and then not all that was buffered went out
pub cut_sent : (a b c : Taken) (t : List ℕ) → Appends a b t → Keeps b c → c.buffered ≢ [] → SendsPart a c t
cut_sent a b c t p kept some =
    record { grows = part_held a.out c.out (a.buffered ++ t) c.buffered (Appends-kept a b c t p kept).sends some }

past_part : (x y z : Option (List ℕ)) (a b t u : List ℕ) → Sends x y (a ++ t) b → b ≡ [] → GrowsInPart y z (b ++ u)
    → GrowsPast x z (a ++ t)
past_part None y z a b t u p none q = tt
past_part (Some xs) None z a b t u p none q = absurd p
past_part (Some xs) (Some ys) None a b t u p none q = absurd q
past_part (Some xs) (Some ys) (Some zs) a b t u p none q = (
  q.0,
  rw (q.2, p.1, append_assoc xs p.0 q.0, ← append-nil p.0, ← none, p.2),
)

-- a part of a text went out after one that had gone out whole
pub past_sent : (a b c : Taken) (t u : List ℕ) → Appends a b t → b.buffered ≡ [] → SendsPart b c u → SendsPast a c t
past_sent a b c t u p none q = record {
  grows = past_part a.out b.out c.out a.buffered b.buffered t u p.sends
      none q.grows;
}

-- a fact serves where it is asked at an error alone
pub on_err : {T E : Type 0} (r : Result T E) (P : Type 0) → P → OnErr r P
on_err (Ok x) P p = tt
on_err (Err e) P p = p

-- what was written where a call failed
pub wrote_err : {T E : Type 0} (old new : Taken) (text : List ℕ) (r : Result T E) → IsErr r → AppendsPart old new text
    → Wrote r old new text
wrote_err old new text (Ok u) bad h = cc
wrote_err old new text (Err e) so h = h

-- a text that was taken, and then a settling
module _ {T E : Type 0} (r : Result T E) (a b c : Taken) (t : List ℕ) (p : Appends a b t) (kept : Keeps b c) where
  pub flushed_whole : OnOk r (Appends a c t)
  flushed_whole = by r
    where
      by : (r : Result T E) → OnOk r (Appends a c t)
      by (Ok x) = Appends-kept a b c t p kept
      by (Err e) = tt

  pub flushed_part : OnErr r (c.buffered ≢ []) → OnErr r (SendsPart a c t)
  flushed_part some = by r some
    where
      by : (r : Result T E) → OnErr r (c.buffered ≢ []) → OnErr r (SendsPart a c t)
      by (Ok x) some = tt
      by (Err e) some = cut_sent a b c t p kept some

-- ---- over another sink

moved : (x y : Option (List ℕ)) (a b part rest bytes : List ℕ) → Sends x y (a ++ part) b → part ++ rest ≡ bytes
    → Sends x y ((a ++ bytes) ++ []) (b ++ rest)
moved None y a b part rest bytes p same = tt
moved (Some xs) None a b part rest bytes p same = absurd p
moved (Some xs) (Some ys) a b part rest bytes p same = (
  p.0,
  p.1,
  rw (← append_assoc p.0 b rest, p.2, append_assoc a part rest, same) (sym (append-nil (a ++ bytes))),
)

-- that one took a part of the bytes
pub over_moved : (a b : Taken) (part rest bytes : List ℕ) → Appends a b part → part ++ rest ≡ bytes
    → Keeps (over a bytes) (over b rest)
over_moved a b part rest bytes p same = record {
  sends = moved a.out b.out a.buffered b.buffered part rest bytes
      p.sends same;
}

grown : (x : Option (List ℕ)) (a bytes piece : List ℕ) → Sends x x ((a ++ bytes) ++ piece) (a ++ (bytes ++ piece))
grown None a bytes piece = tt
grown (Some xs) a bytes piece = ([], sym (append-nil xs), sym (append_assoc a bytes piece))

pub over_some : (buffered bytes : List ℕ) → bytes ≢ [] → buffered ++ bytes ≢ []
over_some buffered bytes some = more_left buffered bytes some
