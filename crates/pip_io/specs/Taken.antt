-- What a sink took: what of it went out, and what is buffered after that.
use Rattle.std.specs.Prelude.{◌≡◌, ◌≢◌, ℕ, List, [], ◌++◌, take, Option, Some, None, Result, MatchResult}

-- the bytes that went out, where the sink's history has them, and those that are buffered
pub record Taken : Type 0 where
  pub out : Option (List ℕ)
  pub buffered : List ℕ

-- a sink that buffers nothing
abbrev pub plain : Option (List ℕ) → Taken
plain out = record { out = out; buffered = [] }

-- known bytes grow by the front of `all`, and what is after that is buffered
abbrev pub Sends : Option (List ℕ) → Option (List ℕ) → List ℕ → List ℕ → Type 0
Sends None after all buffered = Unit {0}
Sends (Some xs) None all buffered = ⊥
Sends (Some xs) (Some ys) all buffered = (front : List ℕ) × (ys ≡ xs ++ front) × (front ++ buffered ≡ all)

-- a text was taken. Of what was buffered before and of the text some front went out, and the rest is buffered
pub record Appends (a b : Taken) (text : List ℕ) : Type 0 where
  pub sends : Sends a.out b.out (a.buffered ++ text) b.buffered

-- nothing was taken
abbrev pub Keeps : Taken → Taken → Type 0
Keeps a b = Appends a b []

-- a write took the n bytes that it says at Ok(n), and nothing at Err
abbrev pub WriteTakes : {E : Type 0} → Taken → Taken → Result ℕ E → List ℕ → Type 0
WriteTakes old new r piece = MatchResult r (λ n. Appends old new (take n piece)) (λ _. Keeps old new)

-- a part of a text was taken, and not the whole
abbrev pub AppendsPart : Taken → Taken → List ℕ → Type 0
AppendsPart old new text =
    (front : List ℕ) × (rest : List ℕ) × Appends old new front × (front ++ rest ≡ text) × (rest ≢ [])

-- what a call wrote of a text: all of it at Ok, and a part of it at Err
abbrev pub Wrote : {T E : Type 0} → Result T E → Taken → Taken → List ℕ → Type 0
Wrote result old new text = MatchResult result (λ v. Appends old new text) (λ e. AppendsPart old new text)

-- known bytes grow by a part of `all`, and not by the whole
abbrev pub GrowsInPart : Option (List ℕ) → Option (List ℕ) → List ℕ → Type 0
GrowsInPart None after all = Unit {0}
GrowsInPart (Some xs) None all = ⊥
GrowsInPart (Some xs) (Some ys) all =
    (front : List ℕ) × (rest : List ℕ) × (ys ≡ xs ++ front) × (front ++ rest ≡ all) × (rest ≢ [])

-- of what was buffered before and a text a part went out, and not the whole
pub record SendsPart (a b : Taken) (text : List ℕ) : Type 0 where
  pub grows : GrowsInPart a.out b.out (a.buffered ++ text)

-- known bytes grow by all of these, and it may be by more
abbrev pub GrowsPast : Option (List ℕ) → Option (List ℕ) → List ℕ → Type 0
GrowsPast None after all = Unit {0}
GrowsPast (Some xs) None all = ⊥
GrowsPast (Some xs) (Some ys) all = (more : List ℕ) × (ys ≡ xs ++ (all ++ more))

-- all that was buffered before and a text went out, and it may be more
pub record SendsPast (a b : Taken) (text : List ℕ) : Type 0 where
  pub grows : GrowsPast a.out b.out (a.buffered ++ text)

-- what a sink over another took: after what that one buffers come bytes that it was not given yet
abbrev pub over : Taken → List ℕ → Taken
over inner bytes = record { out = inner.out; buffered = inner.buffered ++ bytes }
