-- What is due of bytes that a transducer is fed.
use Rattle.std.specs.Prelude.{ℕ, List, [], ◌++◌}

-- what is due of the bytes that follow; V is what a transducer ends with
pub record DueOf (V : Type 0) : Type 1 where
  -- it ends with this value; the front is out before the last of the bytes is read, and the last is written then
  pub answer : (bytes front last : List ℕ) → V → Type 0
  -- these bytes are enough for this answer, whatever follows them
  pub enough : (bytes : List ℕ) → V → Type 0
  -- these have no answer yet; this text of theirs is out before more is read
  pub so_far : (bytes text : List ℕ) → Type 0
  -- of these the last text is being written, and the front was out before the last of them was read
  pub midway : (bytes front last : List ℕ) → Type 0

-- what d asks for follows from what e asks for after these bytes, for which this text was written
pub record LeadsAfter {V : Type 0} (d e : DueOf V) (bytes text : List ℕ) : Type 0 where
  pub answer : (more front last : List ℕ) (v : V) → e.answer more front last v
      → d.answer (bytes ++ more) (text ++ front) last v
  pub enough : (more : List ℕ) (v : V) → e.enough more v → d.enough (bytes ++ more) v
  pub so_far : (more said : List ℕ) → e.so_far more said → d.so_far (bytes ++ more) (text ++ said)
  pub midway : (more front last : List ℕ) → e.midway more front last → d.midway (bytes ++ more) (text ++ front) last

-- what is due says nothing of which text is out before more is read
pub record Loose {V : Type 0} (d : DueOf V) : Type 0 where
  pub answer : (bytes front last : List ℕ) (v : V) → d.answer bytes front last v → d.answer bytes [] (front ++ last) v
  pub midway : (bytes front last : List ℕ) → d.midway bytes front last → d.midway bytes [] (front ++ last)
