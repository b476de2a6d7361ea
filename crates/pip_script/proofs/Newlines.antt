-- Where newlines stand in bytes, and what a search from a place on finds.
use Rattle.std.specs.Prelude.{◌≡◌, ◌≢◌, ℕ, suc, ◌+◌, ◌-◌, ◌<◌, ◌≤◌, ◌==◌, ◌||◌, Bool, true, false, List, [], ◌∷◌, ◌++◌}
use Rattle.std.specs.Prelude.{length, take, drop, Option, Some, None, slice_index, MatchOption}
use Rattle.std.proofs.Common.{append-nil, inl, inr, length-append, refl, sym, ap, subst, ◌∙◌, arith}
use Rattle.std.proofs.lemmas.Bool.{eqb-true}
use Rattle.std.specs.List.{list_any}
use Rattle.std.proofs.Math.Seq.{take-add, take-append_seam, take-length}
use Rattle.std.proofs.lemmas.List.{take-append-drop, take_rest, get_or-drop, get_or-take, length-drop, length-take-le}
use Rattle.std.proofs.lemmas.List.{take-take}
use Rattle.std.proofs.lemmas.List.Folds.{list_any-append}
use Rattle.pip_io.specs.Newlines.{IsFirstNewline}
use Rattle.pip_script.specs.Held.{Held}
use Rattle.pip_script.specs.Lines.{BeginsLine, HasNoNewline, IsOver, ReadsOn, still}

-- bytes of which none is a newline
plain_by : (xs : List ℕ) → ((k : ℕ) → k < length xs → (slice_index xs k == 10) ≡ true → ⊥) → HasNoNewline xs
plain_by [] h = refl
plain_by (x ∷ xs) h = elim (x == 10) as (λ b. ((x == 10) ≡ b) → (b || list_any (λ c. c == 10) xs) ≡ false) [
  | true ↦ λ e. absurd (h 0 (omega arith) e)
  | false ↦ λ e. plain_by xs (λ k low. h (suc k) (omega arith))
] refl

-- what a search for the first newline answers
found_first : (xs : List ℕ) (r : Option ℕ) → IsFirstNewline xs r
    → MatchOption r (HasNoNewline xs) (λ n. BeginsLine n xs)
found_first xs None h = plain_by xs (λ k low. h k (omega arith) low)
found_first xs (Some n) h = record {
  plain = let size = length-take-le n xs (omega (arith, h.0.high)) in
      plain_by (take n xs) (λ k low e. h.0.before k (omega arith) (omega (
        arith,
        low,
        size,
      )) (subst (λ x. (x == 10) ≡ true) (get_or-take n xs k 0 (omega (arith, low, size))) e));
  inside = h.0.high;
  newline = eqb-true (slice_index xs n) 10 h.1;
}

-- bytes without a newline, after others without one
plain_both : (xs ys : List ℕ) → HasNoNewline xs → HasNoNewline ys → HasNoNewline (xs ++ ys)
plain_both xs ys h k = list_any-append (λ b. b == 10) xs ys ∙ ap (λ b. b || list_any (λ b. b == 10) ys) h ∙ k

module _ (s : ℕ) (xs : List ℕ) (front : HasNoNewline (take s xs)) where
  rest_is : take (length xs - s) (drop s xs) ≡ drop s xs
  rest_is = take_rest xs s

  -- a search from s on, before which there is none, finds the first of all
  pub found_none : IsFirstNewline (take (length xs - s) (drop s xs)) None → HasNoNewline xs
  found_none h = subst HasNoNewline (take-append-drop s xs) (plain_both (take s xs) (drop s xs) front
      (subst HasNoNewline rest_is (found_first (take (length xs - s) (drop s xs)) None h)))

  pub found_some : (n : ℕ) → IsFirstNewline (take (length xs - s) (drop s xs)) (Some n) → BeginsLine (s + n) xs
  found_some n h = let k = subst (BeginsLine n) rest_is (found_first (take (length xs - s) (drop s xs)) (Some n) h) in
      record {
        plain = subst HasNoNewline (sym (take-add s n xs)) (plain_both (take s xs) (take n (drop s xs)) front k.plain);
        inside = let l = length-drop s xs in let i = k.inside in omega (arith, l, i);
        newline = sym (get_or-drop s xs n 0) ∙ k.newline;
      }

-- the first n bytes of a line have none
pub plain_front : (m n : ℕ) (xs : List ℕ) → n ≤ m → HasNoNewline (take m xs) → HasNoNewline (take n xs)
plain_front m n xs h plain =
    let all : list_any (λ b. b == 10) (take n (take m xs) ++ drop n (take m xs)) ≡ false =
    ap (list_any (λ b. b == 10)) (take-append-drop n (take m xs)) ∙ plain in
    subst HasNoNewline (take-take n m xs h)
    (first (list_any (λ b. b == 10) (take n (take m xs))) (list_any (λ b. b == 10) (drop n (take m xs)))
    (sym (list_any-append (λ b. b == 10) (take n (take m xs)) (drop n (take m xs))) ∙ all))
  where
    first : (a b : Bool) → (a || b) ≡ false → a ≡ false
    first true b e = cc
    first false b e = refl

-- ---- what a search for a line comes to; a is what is held, `before` might be taken at first

-- a newline too far on, or none and too many bytes
pub long_newline : (n : ℕ) (xs : List ℕ) → 120 < n → BeginsLine n xs → (120 < length xs) × HasNoNewline (take 121 xs)
long_newline n xs far h = let i = h.inside in (omega (arith, i), plain_front n 121 xs far h.plain)

pub long_plain : (xs : List ℕ) → 120 < length xs → HasNoNewline xs → HasNoNewline (take 121 xs)
long_plain xs far h = plain_front (length xs) 121 xs far (subst HasNoNewline (sym (take-length xs)) h)

-- nothing more came
nil_from : (xs : List ℕ) → length xs ≡ 0 → xs ≡ []
nil_from [] h = refl
nil_from (x ∷ xs) h = absurd (omega arith)

pub same_bytes : (count : ℕ) (a b : Held) (left left' : Option (List ℕ)) → count ≡ 0 → ReadsOn count a b left left'
    → b.bytes ≡ a.bytes
same_bytes count a b left left' none r =
    r.bytes ∙ ap (λ m. a.bytes ++ m) (nil_from r.more (r.size ∙ none)) ∙ append-nil a.bytes

-- more came within the limit
pub still_same : (count : ℕ) (a b : Held) (left left' : Option (List ℕ)) → (a.room ≡ 0 → count ≡ 0)
    → ReadsOn count a b left left'
    → still a ≡ still b
still_same count a b left left' few r =
    let size = r.size in let room = r.room in
    let bytes : length b.bytes ≡ length a.bytes + length r.more = ap length r.bytes ∙ length-append a.bytes r.more in
    elim r.limit [
      | inl l ↦ omega (arith, l, size, room, bytes)
      | inr l ↦ let c = few l.0 in let one = l.1 in absurd (omega (arith, c, one))
    ]

pub one_from : (xs : List ℕ) → length xs ≡ 1 → (x : ℕ) × (xs ≡ x ∷ [])
one_from [] h = absurd (omega arith)
one_from (x ∷ []) h = (x, refl)
one_from (x ∷ y ∷ xs) h = absurd (omega arith)

-- and one byte more than the limit
pub over : (before count : ℕ) (a b : Held) (left left' : Option (List ℕ)) → before ≡ still a → a.room ≡ 0 → count ≢ 0
    → length a.bytes ≤ 120 → HasNoNewline a.bytes → ReadsOn count a b left left' → IsOver before b
over before count a b left left' is none some short plain r =
    let one : length r.more ≡ 1 = elim r.limit [
      | inl l ↦ absurd (some (omega (arith, l, none)))
      | inr l ↦ r.size ∙ l.1
    ] in
    let (x, more) = one_from r.more one in
    record {
      front = a.bytes;
      last = x;
      bytes = r.bytes ∙ ap (λ m. a.bytes ++ m) more;
      limit = omega (arith, is, none);
      room = let room = r.room in omega (arith, room, none);
      short = short;
      plain = plain;
    }
