-- Texts of parts that are taken or refused, one front after another.
use Rattle.std.proofs.Common.{◌≡◌, ℕ, ◌+◌, ◌<◌, true, false, List, [], ◌∷◌, ◌++◌, length, take, drop}
use Rattle.std.proofs.Common.{refl, sym, ap, ap₂, ◌∙◌, subst, arith, inl, inr, Option, Result, Ok, Err}
use Rattle.std.proofs.Common.{append_assoc, append-nil, length-append}
use Rattle.std.specs.Prelude.{MatchResult, nat_lt}
use Rattle.std.specs.Io.KnownBytes.{Consumes}
use Rattle.std.proofs.KnownBytes.{Consumes-trans}
use Rattle.std.proofs.lemmas.Bool.Decides.{nat_tests}
use Rattle.pip_certificates.specs.PartReading.{EndsText, HasNoFault, IsTextFault, StopsFront}
use Rattle.pip_certificates.specs.PartReading.{StopsText}
use Rattle.pip_certificates.specs.PartReading.{TakesText}
use Rattle.pip_certificates.specs.PartText.{PartSaid, fault_at, front_then}
use Rattle.pip_certificates.specs.declared.faults.PartFault.{PartFault}
use Rattle.pip_certificates.specs.declared.faults.PartKind.TheVariants as K
use Rattle.pip_certificates.specs.declared.faults.PartStop.{PartStop}
use Rattle.pip_certificates.specs.declared.faults.PartStop.TheVariants as T

abbrev pub Telling : Type 0
Telling = List ℕ → Result PartSaid PartFault

-- ---- a front

drop_front : (a b : List ℕ) → drop (length a) (a ++ b) ≡ b
drop_front [] b = refl
drop_front (x ∷ a) b = drop_front a b

take_front : (a b : List ℕ) → take (length a) (a ++ b) ≡ a
take_front [] b = refl
take_front (x ∷ a) b = rw (take_front a b)

module _ (n at : ℕ) (next : List ℕ → Telling) where
  abbrev tell : Telling
  tell bs = front_then n at bs next

  pub front_is : (front rest : List ℕ) → length front ≡ n → tell (front ++ rest) ≡ next front rest
  front_is front rest size =
      let l = length-append front rest in
      let e : nat_lt (length (front ++ rest)) n ≡ false = grind (arith, nat_tests, l, size) in
      rw (
        e,
        ap₂ next (ap (λ k. take k (front ++ rest)) (sym size) ∙ take_front front rest)
            (ap (λ k. drop k (front ++ rest)) (sym size) ∙ drop_front front rest),
      )

  pub front_short : (bs : List ℕ) → length bs < n → tell bs ≡ fault_at K.Short (at + length bs)
  front_short bs few =
      let e : nat_lt (length bs) n ≡ true = grind (arith, nat_tests, few) in
      rw e

  pub front_open : (bs : List ℕ) → length bs < n → HasNoFault tell bs
  front_open bs few = rw (front_short bs few) refl

  pub front_taken : (front : List ℕ) (a b : Option (List ℕ)) → length front ≡ n → Consumes a b front
      → TakesText tell (next front) a b
  front_taken front a b size taken =
      record { bytes = front; taken = taken; is = λ rest. front_is front rest size }

  pub front_stops : (a b : Option (List ℕ)) (j k : ℕ) (stop : PartStop) → StopsFront n at a b j k stop
      → StopsText tell a b j k stop
  front_stops a b j k (T.Bad fault) (t, is, over, no_faults) = (
    record {
      bytes = t.bytes;
      taken = t.taken;
      is = inr (rw (front_short t.bytes t.few, ← is), over);
    },
    no_faults,
  )
  front_stops a b j k T.Unread (t, rose) =
      (record { bytes = t.bytes; taken = t.taken; is = front_open t.bytes t.few }, rose)
  front_stops a b j k T.Memory none = absurd none

  -- a fault of the front, whatever follows it
  pub front_fault : (front : List ℕ) (a b : Option (List ℕ)) (j k : ℕ) (fault : PartFault) → length front ≡ n
      → Consumes a b front → k ≡ j → ((rest : List ℕ) → next front rest ≡ Err fault)
      → StopsText tell a b j k (T.Bad fault)
  front_fault front a b j k fault size taken no_faults all = (
    record { bytes = front; taken = taken; is = inl (λ rest. front_is front rest size ∙ all rest) },
    no_faults,
  )

-- memory is asked for after bytes that were taken
pub stops_memory : (t : Telling) (front : List ℕ) (a b : Option (List ℕ)) (j k : ℕ) → Consumes a b front → k ≡ j
    → StopsText t a b j k T.Memory
stops_memory t front a b j k taken no_faults = ((front, taken), no_faults)

-- ---- one after another

pub open_after : (t u : Telling) (a b : Option (List ℕ)) (x : TakesText t u a b) (bytes : List ℕ) → HasNoFault u bytes
    → HasNoFault t (x.bytes ++ bytes)
open_after t u a b x bytes is = rw (x.is bytes) is

pub takes_then : (t u v : Telling) (a b c : Option (List ℕ)) → TakesText t u a b → TakesText u v b c
    → TakesText t v a c
takes_then t u v a b c x y = record {
  bytes = x.bytes ++ y.bytes;
  taken = Consumes-trans a b c x.bytes y.bytes x.taken y.taken;
  is = λ rest. rw (append_assoc x.bytes y.bytes rest, x.is (y.bytes ++ rest), y.is rest);
}

pub ends_after : (t u : Telling) (a b c : Option (List ℕ)) (p : PartSaid) → TakesText t u a b → EndsText u b c p
    → EndsText t a c p
ends_after t u a b c p x y = record {
  bytes = x.bytes ++ y.bytes;
  taken = Consumes-trans a b c x.bytes y.bytes x.taken y.taken;
  ended = y.ended;
  is = x.is y.bytes ∙ y.is;
}

fault_after : (t u : Telling) (xs ys : List ℕ) (c : Option (List ℕ)) (fault : PartFault)
    → ((rest : List ℕ) → t (xs ++ rest) ≡ u rest) → IsTextFault u ys c fault → IsTextFault t (xs ++ ys) c fault
fault_after t u xs ys c fault is (inl all) =
    inl (λ rest. rw (append_assoc xs ys rest, is (ys ++ rest), all rest))
fault_after t u xs ys c fault is (inr here) = inr (is ys ∙ here.0, here.1)

pub stops_after : (t u : Telling) (a b c : Option (List ℕ)) (i j k : ℕ) (stop : PartStop) → j ≡ i → TakesText t u a b
    → StopsText u b c j k stop → StopsText t a c i k stop
stops_after t u a b c i j k (T.Bad fault) same x (y, no_faults) = (
  record {
    bytes = x.bytes ++ y.bytes;
    taken = Consumes-trans a b c x.bytes y.bytes x.taken y.taken;
    is = fault_after t u x.bytes y.bytes c fault x.is y.is;
  },
  cc,
)
stops_after t u a b c i j k T.Unread same x (y, rose) = (
  record {
    bytes = x.bytes ++ y.bytes;
    taken = Consumes-trans a b c x.bytes y.bytes x.taken y.taken;
    is = open_after t u a b x y.bytes y.is;
  },
  rw (← same) rose,
)
stops_after t u a b c i j k T.Memory same x ((ys, taken), no_faults) =
    ((x.bytes ++ ys, Consumes-trans a b c x.bytes ys x.taken taken), cc)

-- ---- what begins with a front

module _ (t : Telling) (n at : ℕ) (next : List ℕ → Telling) (same : t ≡ (λ bs. front_then n at bs next)) where
  pub of_open : (bs : List ℕ) → length bs < n → HasNoFault t bs
  of_open bs few = rw same (front_open n at next bs few)

  pub of_stops : (a b : Option (List ℕ)) (j k : ℕ) (stop : PartStop) → StopsFront n at a b j k stop
      → StopsText t a b j k stop
  of_stops a b j k stop h = rw same (front_stops n at next a b j k stop h)

  pub of_fault : (front : List ℕ) (a b : Option (List ℕ)) (j k : ℕ) (fault : PartFault) → length front ≡ n
      → Consumes a b front → k ≡ j → ((rest : List ℕ) → next front rest ≡ Err fault)
      → StopsText t a b j k (T.Bad fault)
  of_fault front a b j k fault size taken no_faults all =
      rw same (front_fault n at next front a b j k fault size taken no_faults all)

  pub of_taken : (front : List ℕ) (u : Telling) (a b : Option (List ℕ)) → length front ≡ n → Consumes a b front
      → next front ≡ u → TakesText t u a b
  of_taken front u a b size taken is =
      rw (← is) (subst (λ f. TakesText f (next front) a b) (sym same) (front_taken n at next front a b size taken))

-- with numbers that are the same
pub takes_as : (t u : Telling) (v : ℕ → ℕ → Telling) (i j m n : ℕ) (a b c : Option (List ℕ)) → TakesText t u a b
    → TakesText u (v i j) b c → i ≡ m → j ≡ n → TakesText t (v m n) a c
takes_as t u v i j m n a b c x y e d =
    rw (← e) (subst (λ k. TakesText t (v i k) a c) d (takes_then t u (v i j) a b c x y))

-- where nothing more has to come, it may still be asked whether something does
pub ends_stop : (t u : Telling) (a b : Option (List ℕ)) (x : TakesText t u a b) → HasNoFault u [] → HasNoFault t x.bytes
ends_stop t u a b x is = rw (← append-nil x.bytes) (open_after t u a b x [] is)

-- how a call ends after bytes that were taken
pub both_after : (t u : Telling) (a b c : Option (List ℕ)) (i j k : ℕ) (p : PartSaid) (r : Result (Unit {0}) PartStop)
    → j ≡ i → TakesText t u a b → MatchResult r (λ _. EndsText u b c p × (k ≡ j)) (StopsText u b c j k)
    → MatchResult r (λ _. EndsText t a c p × (k ≡ i)) (StopsText t a c i k)
both_after t u a b c i j k p (Ok v) same x (y, no_faults) = (ends_after t u a b c p x y, cc)
both_after t u a b c i j k p (Err stop) same x y = stops_after t u a b c i j k stop same x y
