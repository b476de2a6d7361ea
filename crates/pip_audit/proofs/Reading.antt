-- How a text is read on, line by line.
use Rattle.std.proofs.Common.{◌≡◌, ℕ, ◌+◌, ◌-◌, ◌*◌, ◌^◌, ◌≤◌, ◌<◌, Bool, true, false, cond, List, [], ◌∷◌, ◌++◌}
use Rattle.std.proofs.Common.{length, take, drop, Option, Some, None, inl, inr, refl, sym, ap, ◌∙◌, subst, append_assoc}
use Rattle.std.proofs.Common.{length-append, arith, nat_le}
use Rattle.std.specs.Io.KnownBytes.{Consumes, IsAtEnd, Keeps, prepend_known}
use Rattle.std.proofs.lemmas.Bool.{leb-true}
use Rattle.std.proofs.lemmas.List.{take-append-drop, length-take-le, length-drop}
use Rattle.pip_base.specs.Memory.{Memory}
use Rattle.pip_script.specs.Held.{Held}
use Rattle.pip_script.specs.Lines.{BeginsLine, HasNoNewline, HoldsLine, still}
use Rattle.pip_script.specs.declared.input.LineEnd.{LineEnd}
use Rattle.pip_script.specs.declared.input.LineEnd.TheVariants as E
use Rattle.pip_audit.specs.Lines.{core_line, line_told}
use Rattle.pip_audit.specs.Core.{Bad, BadAt, CoreState, CoreStep, Ends, Goes, Whole, after_step, at_first}
use Rattle.pip_audit.specs.Core.{core_after, core_from, core_step, core_text, is_nothing}
use Rattle.pip_audit.specs.CoreRead.{AreWholeLines, IsBadText, IsText}
use Rattle.pip_audit.proofs.Splitting.{Begins, has_part, line_and_rest, some_parts, split, split_begins, split_line}
use Rattle.pip_audit.proofs.Splitting.{split_plain}

-- ---- the first of some lines

from_line : (n k : ℕ) (s : CoreState) (line : List ℕ) (lines : List (List ℕ)) → 0 < length lines
    → core_from n k s (line ∷ lines)
    ≡ after_step (core_step n s (core_line line)) k (is_nothing lines) (λ u. core_from n (k + 1) u lines)
unfolding core_from
from_line n k s line [] h = absurd (omega (arith, h))
from_line n k s line (next ∷ lines) h = refl

pub line_follows : (n k : ℕ) (s : CoreState) (line rest : List ℕ) → HasNoNewline line
    → core_after n k s ((line ++ 10 ∷ []) ++ rest)
    ≡ after_step (core_step n s (core_line line)) k (is_nothing (split rest)) (λ u. core_after n (k + 1) u rest)
line_follows n k s line rest plain =
    ap (core_after n k s) (append_assoc line (10 ∷ []) rest)
    ∙ ap (core_from n k s) (split_line line rest plain)
    ∙ from_line n k s line (split rest) (has_part rest)

-- no newline comes
after_plain : (n k : ℕ) (s : CoreState) (bytes : List ℕ) → HasNoNewline bytes → core_after n k s bytes ≡ BadAt k
unfolding core_from
after_plain n k s bytes plain = ap (core_from n k s) (split_plain bytes plain)

-- a line of more than 77 bytes
no_long_line : (line : List ℕ) → 77 < length line → core_line line ≡ None
no_long_line line h = go (nat_le (length line) 77) refl
  where
    go : (b : Bool) → nat_le (length line) 77 ≡ b → cond b (line_told line) None ≡ None
    go true e = let l = leb-true (length line) 77 e in absurd (omega (arith, h, l))
    go false e = refl

long_first : (n k : ℕ) (s : CoreState) (line : List ℕ) (lines : List (List ℕ)) → 77 < length line
    → core_from n k s (line ∷ lines) ≡ BadAt k
unfolding core_from
long_first n k s line [] h = refl
long_first n k s line (next ∷ lines) h =
    ap (λ o. after_step (core_step n s o) k
    (is_nothing (next ∷ lines)) (λ u. core_from n (k + 1) u (next ∷ lines))) (no_long_line line h)

after_long : (n k : ℕ) (s : CoreState) (bytes rest : List ℕ) → 120 < length bytes → HasNoNewline (take 121 bytes)
    → core_after n k s (bytes ++ rest) ≡ BadAt k
after_long n k s bytes rest long plain =
    let b : Begins (take 121 bytes) (split (take 121 bytes ++ (drop 121 bytes ++ rest))) =
    split_begins (take 121 bytes) (drop 121 bytes ++ rest) plain in
    let size = length-take-le 121 bytes (omega (arith, long)) in
    let more = length-append (take 121 bytes) b.back in
    ap (core_after n k s)
    (ap (λ bs. bs ++ rest) (sym (take-append-drop 121 bytes)) ∙ append_assoc (take 121 bytes) (drop 121 bytes) rest)
    ∙ ap (core_from n k s) b.is
    ∙ long_first n k s (take 121 bytes ++ b.back) b.more (omega (arith, size, more))

-- ---- what is held and what is left

consumes_none : (a : Option (List ℕ)) → Consumes a a ([] ++ [])
consumes_none None = tt
consumes_none (Some xs) = refl

consumes_kept : (a b c : Option (List ℕ)) (taken held held' : List ℕ) → Consumes a b (taken ++ held)
    → Keeps (prepend_known held b) (prepend_known held' c) → Consumes a c (taken ++ held')
consumes_kept None b c taken held held' read keeps = tt
consumes_kept (Some xs) None c taken held held' read keeps = absurd read
consumes_kept (Some xs) (Some ys) None taken held held' read keeps = absurd keeps
consumes_kept (Some xs) (Some ys) (Some zs) taken held held' read keeps =
    read ∙ append_assoc taken held ys ∙ ap (λ bs. taken ++ bs) (sym keeps) ∙ sym (append_assoc taken held' zs)

-- ---- where reading stands

-- before line k
pub record IsAt (n k : ℕ) (s : CoreState) (held : List ℕ) (left left' : Option (List ℕ)) : Type 0 where
  pub taken : List ℕ
  pub read : Consumes left left' (taken ++ held)
  pub whole : AreWholeLines taken
  pub is : (rest : List ℕ) → core_text n (taken ++ rest) ≡ core_after n k s rest

-- after line k, which does a step
pub record IsAfter (n k : ℕ) (step : CoreStep) (held : List ℕ) (left left' : Option (List ℕ)) : Type 0 where
  pub taken : List ℕ
  pub read : Consumes left left' (taken ++ held)
  pub whole : AreWholeLines taken
  pub is : (rest : List ℕ)
      → core_text n (taken ++ rest) ≡ after_step step k (is_nothing (split rest)) (λ u. core_after n (k + 1) u rest)

pub at_kept : (n k : ℕ) (s : CoreState) (held held' : List ℕ) (left a b : Option (List ℕ))
    → Keeps (prepend_known held a) (prepend_known held' b) → IsAt n k s held left a → IsAt n k s held' left b
at_kept n k s held held' left a b keeps at = record {
  taken = at.taken;
  read = consumes_kept left a b at.taken held held' at.read keeps;
  whole = at.whole;
  is = at.is;
}

pub after_kept : (n k : ℕ) (step : CoreStep) (held held' : List ℕ) (left a b : Option (List ℕ))
    → Keeps (prepend_known held a) (prepend_known held' b) → IsAfter n k step held left a
    → IsAfter n k step held' left b
after_kept n k step held held' left a b keeps at = record {
  taken = at.taken;
  read = consumes_kept left a b at.taken held held' at.read keeps;
  whole = at.whole;
  is = at.is;
}

-- a line is taken
pub take_one : (n k c : ℕ) (s : CoreState) (held : List ℕ) (left a : Option (List ℕ)) → BeginsLine c held
    → IsAt n k s held left a
    → IsAfter n k (core_step n s (core_line (take c held))) (drop (c + 1) held) left a
take_one n k c s held left a h at =
    let line : List ℕ = take c held ++ 10 ∷ [] in
    record {
      taken = at.taken ++ line;
      read = subst (Consumes left a) (ap (λ bs. at.taken ++ bs) (line_and_rest c held h)
          ∙ sym (append_assoc at.taken line (drop (c + 1) held))) at.read;
      whole = inr (at.taken ++ take c held, sym (append_assoc at.taken (take c held) (10 ∷ [])));
      is = λ rest. ap (core_text n) (append_assoc at.taken line rest) ∙ at.is (line ++ rest)
          ∙ line_follows n k s (take c held) rest h.plain;
    }

pub goes_on : (n k : ℕ) (step : CoreStep) (u : CoreState) (held : List ℕ) (left a : Option (List ℕ)) → step ≡ Goes u
    → IsAfter n k step held left a → IsAt n (k + 1) u held left a
goes_on n k step u held left a e at = record {
  taken = at.taken;
  read = at.read;
  whole = at.whole;
  is = λ rest. at.is rest ∙ ap (λ t. after_step t k (is_nothing (split rest)) (λ u. core_after n (k + 1) u rest)) e;
}

-- the line is bad
pub bad_step : (n k : ℕ) (step : CoreStep) (held : List ℕ) (left a : Option (List ℕ)) → step ≡ Bad
    → IsAfter n k step held left a → IsBadText n left a k
bad_step n k step held left a e at = record {
  bytes = at.taken ++ held;
  taken = at.read;
  fault = inl (λ rest. ap (core_text n) (append_assoc at.taken held rest) ∙ at.is (held ++ rest)
      ∙ ap (λ t. after_step t k (is_nothing (split (held ++ rest))) (λ u. core_after n (k + 1) u (held ++ rest))) e);
}

-- what stands at the head is no line and its newline
module _ (n k : ℕ) (s : CoreState) (left a : Option (List ℕ)) (i : Held) (at : IsAt n k s i.bytes left a) where
  bad_plain : HasNoNewline i.bytes → IsAtEnd a → IsBadText n left a k
  bad_plain plain ended = record {
    bytes = at.taken ++ i.bytes;
    taken = at.read;
    fault = inr (at.is i.bytes ∙ after_plain n k s i.bytes plain, ended);
  }

  pub bad_end : (before : ℕ) (end : LineEnd) → 120 < before → HoldsLine before i a end
      → ((c : ℕ) → end ≡ E.Newline c → ⊥) → IsBadText n left a k
  bad_end before (E.Newline c) room h not = absurd (not c refl)
  bad_end before (E.Last c) room h not = bad_plain h.4 h.5
  bad_end before E.End room h not = bad_plain (subst HasNoNewline (sym h.1) refl) h.2
  bad_end before E.TooLong room h not = record {
    bytes = at.taken ++ i.bytes;
    taken = at.read;
    fault = inl (λ rest. ap (core_text n) (append_assoc at.taken i.bytes rest) ∙ at.is (i.bytes ++ rest)
        ∙ after_long n k s i.bytes rest h.1 h.2);
  }
  bad_end before E.Over room h not = let l = h.limit in let s = h.short in absurd (omega (arith, room, l, s))

-- after the last line
module _ (n k : ℕ) (m : Memory) (left a : Option (List ℕ)) (i : Held) (at : IsAfter n k (Ends m) i.bytes left a) where
  pub whole_text : (before : ℕ) → HoldsLine before i a E.End → IsText n left a m
  whole_text before h = record {
    bytes = at.taken ++ i.bytes;
    taken = at.read;
    ended = h.2;
    text = at.is i.bytes ∙ ap (λ bs. cond (is_nothing (split bs)) (Whole m) (BadAt (k + 1))) h.1;
  }

  bad_more : 0 < length i.bytes → IsBadText n left a (k + 1)
  bad_more some = record {
    bytes = at.taken ++ i.bytes;
    taken = at.read;
    fault = inl (λ rest. ap (core_text n) (append_assoc at.taken i.bytes rest) ∙ at.is (i.bytes ++ rest)
        ∙ ap (λ t. cond t (Whole m) (BadAt (k + 1))) (some_parts i.bytes rest some));
  }

  pub more_text : (before : ℕ) (end : LineEnd) → HoldsLine before i a end → (end ≡ E.End → ⊥)
      → IsBadText n left a (k + 1)
  more_text before (E.Newline c) h not = let l = h.2.inside in bad_more (omega (arith, l))
  more_text before (E.Last c) h not = let is = h.1 in let some = h.2 in bad_more (omega (arith, is, some))
  more_text before E.End h not = absurd (not refl)
  more_text before E.TooLong h not = let l = h.1 in bad_more (omega (arith, l))
  more_text before E.Over h not = let l = ap length h.bytes ∙ length-append h.front (h.last ∷ []) in
      bad_more (omega (arith, l))

-- a line was read, and does this
pub after_line : (n n' k c before : ℕ) (s : CoreState) (st : CoreStep) (i : Held) (held line more : List ℕ)
    (left a b : Option (List ℕ)) (end : LineEnd)
    → IsAt n k s held left a → Keeps (prepend_known held a) (prepend_known i.bytes b)
    → end ≡ E.Newline c → HoldsLine before i b end → n' ≡ n
    → line ≡ take c i.bytes → more ≡ drop (c + 1) i.bytes → st ≡ core_step n' s (core_line line)
    → IsAfter n k st more left b
after_line n n' k c before s st i held line more left a b end at keeps end_is h n_is line_is more_is st_is =
    let begins = (subst (HoldsLine before i b) end_is h).2 in
    let one = take_one n k c s i.bytes left b begins (at_kept n k s held i.bytes left a b keeps at) in
    let is : core_step n s (core_line (take c i.bytes)) ≡ st =
    sym (st_is ∙ ap (λ m. core_step m s (core_line line)) n_is ∙ ap (λ l. core_step n s (core_line l)) line_is) in
    record {
      taken = one.taken;
      read = subst (λ r. Consumes left b (one.taken ++ r)) (sym more_is) one.read;
      whole = one.whole;
      is = λ rest. one.is rest
          ∙ ap (λ t. after_step t k (is_nothing (split rest)) (λ u. core_after n (k + 1) u rest)) is;
    }

-- how many bytes may still be taken
pub room_after : (k c before : ℕ) (i j : Held) (b : Option (List ℕ)) (end : LineEnd)
    → end ≡ E.Newline c → HoldsLine before i b end → j.bytes ≡ drop (c + 1) i.bytes → j.room ≡ i.room
    → 1 ≤ k → 2 ^ 26 ≤ before + 121 * (k - 1) → 2 ^ 26 ≤ still j + 121 * (k + 1 - 1)
room_after k c before i j b end end_is ends bytes room one most =
    let h = subst (HoldsLine before i b) end_is ends in
    let size : length j.bytes ≡ length i.bytes - (c + 1) = ap length bytes ∙ length-drop (c + 1) i.bytes in
    let same = h.0 in let short = h.1 in let inside = h.2.inside in
    omega (arith, size, same, short, inside, room, one, most)
