-- What is taken of what is held.
use Rattle.std.specs.Prelude.{◌≡◌, ℕ, ◌+◌, List, [], ◌∷◌, ◌++◌, length, take, drop, Option, Some, None}
use Rattle.std.proofs.Common.{sym, ap, subst, ◌∙◌, append_assoc, arith, length-append}
use Rattle.std.specs.Io.KnownBytes.{Consumes, Keeps, prepend_known}
use Rattle.std.proofs.lemmas.List.{length-drop, length-take-le, take-append-drop, take_more}
use Rattle.pip_script.specs.Held.{Held}
use Rattle.pip_script.specs.Lines.{BeginsLine, HasNoNewline, HoldsLine, still}
use Rattle.pip_script.specs.declared.input.LineEnd.TheVariants.{Newline}

-- a front of what is held is taken, and the rest is held; or all of it was read
pub front_taken : (a b : Option (List ℕ)) (held front back : List ℕ) → Keeps a (prepend_known held b)
    → held ≡ front ++ back → Consumes a (prepend_known back b) front
front_taken None b held front back k e = tt
front_taken (Some xs) None held front back k e = absurd k
front_taken (Some xs) (Some ys) held front back k e = sym k ∙ ap (λ h. h ++ ys) e ∙ append_assoc front back ys

pub all_read : (a b : Option (List ℕ)) (held : List ℕ) → Keeps a (prepend_known held b) → Consumes a b held
all_read None b held k = tt
all_read (Some xs) None held k = absurd k
all_read (Some xs) (Some ys) held k = sym k

-- a line, its newline, and what follows
pub line_split : (n : ℕ) (xs : List ℕ) → BeginsLine n xs → xs ≡ (take n xs ++ 10 ∷ []) ++ drop (n + 1) xs
line_split n xs h =
    sym (take-append-drop (n + 1) xs)
    ∙ ap (λ front. front ++ drop (n + 1) xs) (take_more xs n 0 h.inside ∙ ap (λ b. take n xs ++ b ∷ []) h.newline)

-- a line was taken with its newline: i was held at first, and k is held now
pub record TookLine (i k : Held) (left left' : Option (List ℕ)) (line : List ℕ) : Type 0 where
  pub taken : Consumes (prepend_known i.bytes left) (prepend_known k.bytes left') (line ++ 10 ∷ [])
  pub count : still i ≡ still k + length (line ++ 10 ∷ [])
  pub plain : HasNoNewline line

pub took_line : (n : ℕ) (i j k : Held) (left left' : Option (List ℕ))
    → Keeps (prepend_known i.bytes left) (prepend_known j.bytes left') → HoldsLine (still i) j left' (Newline n)
    → k.bytes ≡ drop (n + 1) j.bytes → k.room ≡ j.room → TookLine i k left left' (take n j.bytes)
took_line n i j k left left' kept holds bytes room =
    let split = line_split n j.bytes holds.2 in
    record {
      taken = subst (λ b. Consumes (prepend_known i.bytes left) (prepend_known b left')
          (take n j.bytes ++ 10 ∷ [])) (sym bytes) (front_taken (prepend_known i.bytes left) left' j.bytes
          (take n j.bytes ++ 10 ∷ []) (drop (n + 1) j.bytes) kept split);
      count =
          let same = holds.0 in
          let inside = holds.2.inside in
          let front : length (take n j.bytes ++ 10 ∷ []) ≡ n + 1 = length-append (take n j.bytes) (10 ∷ [])
          ∙ ap (λ m. m + 1) (length-take-le n j.bytes (omega (arith, inside))) in
          let back : length k.bytes ≡ length (drop (n + 1) j.bytes) = ap length bytes in
          let rest = length-drop (n + 1) j.bytes in
          omega (arith, same, inside, front, back, rest, room);
      plain = holds.2.plain;
    }
