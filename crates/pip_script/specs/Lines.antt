-- What reading ahead finds at the head of what is held.
use Rattle.std.specs.Prelude.{◌≡◌, ℕ, ◌+◌, ◌-◌, ◌<◌, ◌≤◌, ◌⊎◌, ◌==◌, false, List, [], ◌∷◌, ◌++◌, Option, length, take}
use Rattle.std.specs.Prelude.{slice_index}
use Rattle.std.specs.List.{list_any}
use Rattle.std.specs.Io.KnownBytes.{Consumes, IsAtEnd}
use Rattle.pip_script.specs.Held.{Held}
use Rattle.pip_script.specs.declared.input.LineEnd.{LineEnd}
use Rattle.pip_script.specs.declared.input.LineEnd.TheVariants.{Newline, Last, End, TooLong, Over}

-- how many bytes may still be taken
abbrev pub still : Held → ℕ
still i = length i.bytes + i.room

-- no byte is a newline
abbrev pub HasNoNewline : List ℕ → Type 0
HasNoNewline bytes = list_any (λ b. b == 10) bytes ≡ false

-- a newline comes after the first n bytes, and none among them
pub record BeginsLine (n : ℕ) (bytes : List ℕ) : Type 0 where
  pub plain : HasNoNewline (take n bytes)
  pub inside : n < length bytes
  pub newline : slice_index bytes n ≡ 10

-- that many bytes came after what was held; none came only at the end of the input. At the limit one more may come
pub record ReadsOn (count : ℕ) (old new : Held) (left left' : Option (List ℕ)) : Type 0 where
  pub more : List ℕ
  pub read : Consumes left left' more
  pub bytes : new.bytes ≡ old.bytes ++ more
  pub size : length more ≡ count
  pub room : new.room ≡ old.room - count
  pub limit : (count ≤ old.room) ⊎ ((old.room ≡ 0) × (count ≡ 1))
  pub ended : count ≡ 0 → IsAtEnd left'

-- the limit comes after the bytes before the last
pub record IsOver (before : ℕ) (i : Held) : Type 0 where
  pub front : List ℕ
  pub last : ℕ
  pub bytes : i.bytes ≡ front ++ last ∷ []
  pub limit : length front ≡ before
  pub room : i.room ≡ 0
  pub short : length front ≤ 120
  pub plain : HasNoNewline front

-- what stands at the head of the bytes that are held, of which `before` might be taken: a line and its newline, the
-- last line of the input, nothing, more bytes than a line has, or those up to the limit and one more
abbrev pub HoldsLine : ℕ → Held → Option (List ℕ) → LineEnd → Type 0
HoldsLine before i left (Newline n) = (before ≡ still i) × (n ≤ 120) × BeginsLine n i.bytes
HoldsLine before i left (Last n) =
    (before ≡ still i) × (n ≡ length i.bytes) × (0 < n) × (n ≤ 120) × HasNoNewline i.bytes × IsAtEnd left
HoldsLine before i left End = (before ≡ still i) × (i.bytes ≡ []) × IsAtEnd left
HoldsLine before i left TooLong = (before ≡ still i) × (120 < length i.bytes) × HasNoNewline (take 121 i.bytes)
HoldsLine before i left Over = IsOver before i

-- where reading fails, what is held is no whole line
pub record HoldsPart (before : ℕ) (i : Held) : Type 0 where
  pub count : before ≡ still i
  pub short : length i.bytes ≤ 120
  pub plain : HasNoNewline i.bytes

-- what is held and these bytes, of which no more may be read, are no line yet
pub record IsLineless (i : Held) (bytes : List ℕ) : Type 0 where
  pub short : length (i.bytes ++ bytes) ≤ 120
  pub plain : HasNoNewline (i.bytes ++ bytes)
  pub room : length bytes ≤ i.room
