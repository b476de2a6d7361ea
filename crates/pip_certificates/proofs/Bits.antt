-- The marks of a byte, and a way with a run more.
use Rattle.std.proofs.Common.{◌≡◌, ℕ, zero, suc, ◌+◌, ◌-◌, ◌*◌, ◌/◌, ◌%◌, ◌<◌, ◌≤◌, true, List, [], ◌∷◌, ◌++◌}
use Rattle.std.proofs.Common.{length, take, replicate, refl, sym, ap, ap₂, ◌∙◌, arith, append_assoc}
use Rattle.std.proofs.Common.{inr, nat_le, nat_lt, ◌^◌, Option}
use Rattle.std.specs.Io.KnownBytes.{Consumes}
use Rattle.std.proofs.lemmas.Bool.Decides.{nat_tests}
use Rattle.std.proofs.lemmas.List.{take_all}
use Rattle.pip_certificates.specs.PartReading.{HasNoFault, StopsFront, StopsText, TakesText}
use Rattle.pip_certificates.proofs.TextSteps.{of_taken}
use Rattle.pip_certificates.specs.PartText.{marks_counted, marks_said, number_in}
use Rattle.pip_certificates.specs.declared.faults.PartStop.{PartStop}
use Rattle.pip_certificates.specs.declared.faults.PartStop.TheVariants as T
use Rattle.pip_certificates.specs.PartText.{PartSaid, after_bits, are_spent, fault_at, low_bits, marks_from}
use Rattle.pip_certificates.specs.PartText.{with_marks}
use Rattle.pip_certificates.specs.declared.faults.PartKind.TheVariants as K

-- a bit more
module _ (end counter b : ℕ) (less : counter < end) where
  next : end - counter ≡ suc (end - (counter + 1))
  next = omega arith

  pub bit_more : (before now : List ℕ) → now ≡ before ++ (b % 2) ∷ []
      → now ++ low_bits (end - (counter + 1)) (b / 2) ≡ before ++ low_bits (end - counter) b
  bit_more before now is =
      ap (λ t. t ++ low_bits (end - (counter + 1)) (b / 2)) is
      ∙ append_assoc before ((b % 2) ∷ []) (low_bits (end - (counter + 1)) (b / 2))
      ∙ ap (λ n. before ++ low_bits n b) (sym next)

  pub bit_less : after_bits (end - (counter + 1)) (b / 2) ≡ after_bits (end - counter) b
  bit_less = ap (λ n. after_bits n b) (sym next)

-- a byte more
spent_byte : (p : PartSaid) (n at b : ℕ) (bs : List ℕ) → are_spent (suc n) b ≡ true
    → marks_from p (suc n) at (b ∷ bs) ≡ marks_from (with_marks p (suc n) b) (suc n - 8) (at + 1) bs
spent_byte p n at b bs is =
    rw is

pub byte_more : (p q : PartSaid) (left at b : ℕ) (bs : List ℕ) → 0 < left → are_spent left b ≡ true
    → q ≡ with_marks p left b → marks_from p left at (b ∷ bs) ≡ marks_from q (left - 8) (at + 1) bs
byte_more p q zero at b bs some is same = absurd (omega arith)
byte_more p q (suc n) at b bs some is same =
    rw (spent_byte p n at b bs is, ← same)

pub none_of : (bs : List ℕ) → length bs < 1 → bs ≡ []
none_of [] few = refl
none_of (b ∷ bs) few = absurd (omega arith)

-- a run more
pub run_more : (old new : List ℕ) (n m k x : ℕ) → n ≡ length old → m ≡ length old
    → new ≡ take (n + k) old ++ replicate (n + k - m) x → new ≡ old ++ replicate k x
run_more old new n m k x size same is =
    let d : n + k - m ≡ k = omega arith in
    is ∙ ap₂ (λ a b. a ++ replicate b x) (take_all (n + k) old (omega arith)) d

-- bytes that end before the marks do
pub marks_short : (bs : List ℕ) (p : PartSaid) (left at : ℕ) → 8 * length bs < left
    → marks_from p left at bs ≡ fault_at K.Short (at + length bs)
marks_short [] p zero at few = absurd (omega arith)
marks_short [] p (suc n) at few = ap (λ k. fault_at K.Short k) (let e : at ≡ at + 0 = omega arith in e)
marks_short (b ∷ bs) p left at few =
    let some : 0 < left = omega arith in
    let spent : are_spent left b ≡ true = spends left b (omega arith) in
    byte_more p (with_marks p left b) left at b bs some spent refl
    ∙ (marks_short bs (with_marks p left b) (left - 8) (at + 1) (omega arith)
    ∙ ap (λ k. fault_at K.Short k) (let e : at + 1 + length bs ≡ at + suc (length bs) = omega arith in e))
  where
    spends : (n b : ℕ) → 8 ≤ n → are_spent n b ≡ true
    spends n b low =
        let e : nat_le 8 n ≡ true = grind (arith, nat_tests, low) in rw e

module _ (p : PartSaid) (left at n : ℕ) (room : 8 * n < left + 8) where
  short_chunk : (bs : List ℕ) → length bs < n → marks_from p left at bs ≡ fault_at K.Short (at + length bs)
  short_chunk bs few = marks_short bs p left at (omega arith)

  pub chunk_open : (bs : List ℕ) → length bs < n → HasNoFault (marks_from p left at) bs
  chunk_open bs few = rw (short_chunk bs few) refl

  -- what stops a chunk
  pub chunk_stops : (a b : Option (List ℕ)) (j k : ℕ) (stop : PartStop) → StopsFront n at a b j k stop
      → StopsText (marks_from p left at) a b j k stop
  chunk_stops a b j k (T.Bad fault) (t, is, over, no_faults) = (
    record {
      bytes = t.bytes;
      taken = t.taken;
      is = inr (rw (short_chunk t.bytes t.few, ← is), over);
    },
    no_faults,
  )
  chunk_stops a b j k T.Unread (t, rose) =
      (record { bytes = t.bytes; taken = t.taken; is = chunk_open t.bytes t.few }, rose)
  chunk_stops a b j k T.Memory none = absurd none

-- the number of the marks
pub marks_front : (p : PartSaid) (at n : ℕ) (x : List ℕ) (a b : Option (List ℕ)) → length x ≡ 4 → Consumes a b x
    → n ≡ number_in x 0 → n < 2 ^ 32 - 1 → TakesText (marks_said p at) (marks_from p n (at + 4)) a b
marks_front p at n x a b size taken is few =
    let e : number_in x 0 < 2 ^ 32 - 1 = rw (← is) few in
    let low : nat_lt (number_in x 0) (2 ^ 32 - 1) ≡ true = grind (arith, nat_tests, e) in
    of_taken (marks_said p at) 4 at (λ y rest. marks_counted p (number_in y 0) at rest) refl x _ a b size taken
    (rw (low, ← is))
