-- How a line of any length is read, piece by piece.
use Rattle.std.proofs.Common.{◌≡◌, ◌≢◌, ℕ, ◌+◌, ◌-◌, ◌≤◌, ◌<◌, List, [], ◌∷◌, ◌++◌, length, take, drop, Option, Some}
use Rattle.std.proofs.Common.{None, refl, sym, ap, ◌∙◌, subst, append-nil, append_assoc, arith, length-append}
use Rattle.std.specs.Prelude.{true, false, ◌==◌, Result, Ok, Err, MatchResult}
use Rattle.std.specs.Result.{IsErrAnd}
use Rattle.std.specs.Io.KnownBytes.{Consumes, prepend_known}
use Rattle.std.proofs.KnownBytes.{Consumes-trans}
use Rattle.std.proofs.Math.Seq.{take-length}
use Rattle.std.proofs.lemmas.List.Folds.{list_any-append}
use Rattle.pip_script.specs.Lines.{BeginsLine, HasNoNewline}
use Rattle.pip_script.proofs.Buffers.{part_after, part_few}
use Rattle.pip_script.proofs.Newlines.{found_none, found_some}
use Rattle.pip_script.proofs.Taking.{line_split}
use Rattle.pip_io.specs.Gathering.{between}
use Rattle.pip_io.specs.Newlines.{IsFirstNewline}
use Rattle.pip_certificates.specs.LongLines.{ReadsAfter, StopsLine, TakesHeld, TakesNextLine}
use Rattle.pip_certificates.specs.declared.commands.merge.line_reader.LineKind.TheVariants.{Whole, Last, End}
use Rattle.pip_certificates.specs.declared.commands.merge.line_reader.LineStop.TheVariants.{Memory}

-- where a call stops with an error that is known
pub stopped : {T E : Type 0} (r : Result T E) {e : E} (P : T → Type 0) (Q : E → Type 0) → IsErrAnd r (λ y. y ≡ e) → Q e
    → MatchResult r P Q
stopped (Ok v) P Q h q = absurd h
stopped (Err y) P Q h q = rw h q

-- ---- what is held

plain_both : (xs ys : List ℕ) → HasNoNewline xs → HasNoNewline ys → HasNoNewline (xs ++ ys)
plain_both xs ys h k = rw (list_any-append (λ b. b == 10) xs ys, h, k)

all_of : (held : List ℕ) → take (length held - 0) (drop 0 held) ≡ held
all_of held = ap (λ n. take n held) (let z : length held - 0 ≡ length held = omega arith in z) ∙ take-length held

-- what a search for a newline finds
begins_at : (n : ℕ) (held : List ℕ) → IsFirstNewline held (Some n) → BeginsLine n held
begins_at n held h =
    subst (λ k. BeginsLine k held) (let z : 0 + n ≡ n = omega arith in z)
    (found_some 0 held refl n (rw (all_of held) h))

has_none : (held : List ℕ) → IsFirstNewline held None → HasNoNewline held
has_none held h = found_none 0 held refl (rw (all_of held) h)

module _ (s e : ℕ) (chunk held line line' : List ℕ) (order : s ≤ e) (is : between chunk s e ≡ held) where
  -- up to a newline
  pub takes_front : (n : ℕ) → IsFirstNewline (between chunk s e) (Some n) → line' ≡ line ++ take n (between chunk s e)
      → TakesHeld held (between chunk (s + (n + 1)) e) line line' true
  takes_front n found added =
      let begins : BeginsLine n (between chunk s e) = begins_at n (between chunk s e) found in
      let inside = begins.inside in
      let few : n + 1 ≤ e - s = part_few (n + 1) s e chunk (omega arith) in (
        take n (between chunk s e),
        begins.plain,
        cc (line_split n (between chunk s e) begins, part_after (n + 1) s e chunk order few),
        added,
      )

  -- all of it
  pub takes_all : IsFirstNewline (between chunk s e) None → line' ≡ line ++ between chunk s e
      → TakesHeld held (between chunk e e) line line' false
  takes_all found added = (
    rw (← is) (has_none (between chunk s e) found),
    ap (λ n. take n (drop e chunk)) (let z : e - e ≡ 0 = omega arith in z),
    rw (added, is),
  )

-- ---- a line that is being read: what was held at first and these bytes, none of which is a newline

pub record IsReading (held : List ℕ) (left left' : Option (List ℕ)) (line : List ℕ) : Type 0 where
  pub more : List ℕ
  pub read : Consumes left left' more
  pub is : line ≡ held ++ more
  pub plain : HasNoNewline line

-- after what was held these were read
consumes_held : (held more : List ℕ) (a b : Option (List ℕ)) → Consumes a b more
    → Consumes (prepend_known held a) b (held ++ more)
consumes_held held more None b c = tt
consumes_held held more (Some xs) None c = absurd c
consumes_held held more (Some xs) (Some ys) c = rw (c, ← append_assoc held more ys)

-- of what was read a front was taken, and the rest is held
front_of : (front back : List ℕ) (a b : Option (List ℕ)) → Consumes a b (front ++ back)
    → Consumes a (prepend_known back b) front
front_of front back None b c = tt
front_of front back (Some xs) None c = absurd c
front_of front back (Some xs) (Some ys) c = c ∙ append_assoc front back ys

none_of : (held : List ℕ) → length held ≡ 0 → held ≡ []
none_of [] e = refl
none_of (b ∷ bs) e = absurd (omega arith)

module _ (held line : List ℕ) (a b c : Option (List ℕ)) (r : IsReading held a b line) where
  read_so_far : Consumes (prepend_known held a) b line
  read_so_far = rw r.is (consumes_held held r.more a b r.read)

  module _ (count : ℕ) (more : List ℕ) (reads : ReadsAfter count more b c) where
    at_end : count ≡ 0 → Consumes (prepend_known held a) c line
    at_end none =
        let empty : more ≡ [] = none_of more (cc (reads.size)) in
        rw (← append-nil line) (subst (λ m. Consumes (prepend_known held a) c (line ++ m)) empty
        (Consumes-trans (prepend_known held a) b c line more read_so_far reads.read))

    -- the input ended
    pub last_line : count ≡ 0 → line ≢ [] → TakesNextLine held more line a c Last
    last_line none some = (r.plain, at_end none, reads.ended none, some)

    pub no_line : count ≡ 0 → line ≡ [] → TakesNextLine held more line a c End
    no_line none empty = (rw (← empty) (at_end none), reads.ended none)

    -- there is no memory for what was read
    pub reading_lacks : (before now : ℕ) → now ≡ before → StopsLine held a c before now Memory
    reading_lacks before now no_faults = (
      (
        r.more ++ more,
        Consumes-trans a b c r.more more r.read
            reads.read,
      ),
      no_faults,
    )

    module _ (held' line' : List ℕ) where
      pub whole_line : TakesHeld more held' line line' true → TakesNextLine held held' line' a c Whole
      whole_line (front, plain, split, is) =
          rw is (
            plain_both line front r.plain plain,
            subst (Consumes (prepend_known held a) (prepend_known held' c))
                (sym (append_assoc line front (10 ∷ [])))
                (Consumes-trans (prepend_known held a) b (prepend_known held' c) line (front ++ 10 ∷ []) read_so_far
                (front_of (front ++ 10 ∷ []) held' b c (subst (Consumes b c) split reads.read))),
          )

      -- it is longer now
      pub longer : count ≢ 0 → TakesHeld more held' line line' false → length line < length line'
      longer some (plain, none, is) =
          let size = reads.size in
          let both : length line' ≡ length line + length more = rw (is, length-append line more) in
          omega arith
