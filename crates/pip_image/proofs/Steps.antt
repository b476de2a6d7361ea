-- Parts that are taken or refused, one after another.
use Rattle.std.specs.Prelude.{◌≡◌, refl, ℕ, ◌+◌, ◌<◌, ◌≤◌, Bool, true, false, List, ◌∷◌, ◌++◌, length, Option, Some}
use Rattle.std.specs.Prelude.{None, Result, Ok, Err}
use Rattle.std.specs.Io.KnownBytes.{Consumes, IsAtEnd}
use Rattle.std.proofs.Common.{[], ap, sym, subst, ◌∙◌, arith, append_assoc, inl, inr}
use Rattle.std.proofs.KnownBytes.{Consumes-trans}
use Rattle.std.proofs.lemmas.Bool.{false≢true}
use Rattle.pip_io.specs.Causes.{RoseByOne}
use Rattle.pip_model.specs.declared.image.ImageError.{ImageError}
use Rattle.pip_model.specs.declared.image.ImageError.TheVariants as F
use Rattle.pip_model.specs.Images.{Part, PartsRead, part_before, goes_on}
use Rattle.pip_image.specs.Pacing.{IsFaultless, IsPartless}
use Rattle.pip_image.specs.Reading.{TakesParts, EndsInput, Refuses, IsCut, IsFault, EndsAtMost, parts_then}
use Rattle.pip_image.specs.Reading.{no_more_parts, only_fault, by_read, fault_of}
use Rattle.pip_image.specs.Sought.{is_fault}
use Rattle.pip_image.proofs.Parsing.{Goes, Parses}

-- ---- one part

-- a part, and what is told of the bytes after it
abbrev pub one_part : {A : Type 0} → (List ℕ → Result (A × List ℕ) ImageError) → (A → Part) → (A → List ℕ → PartsRead)
    → List ℕ → PartsRead
one_part p part next bs = goes_on (p bs) (λ x rest. part_before (part x) (next x rest))

pub no_rest : (k n : ℕ) (r : List ℕ) → n ≤ k → n ≡ k + length r → r ≡ []
no_rest k n [] h e = refl
no_rest k n (x ∷ r) h e = absurd (omega arith)

pub part_taken : {A : Type 0} (k : ℕ) (p : List ℕ → Result (A × List ℕ) ImageError)
    (part : A → Part) (next : A → List ℕ → PartsRead) (x : A) (r bytes : List ℕ) (left left' : Option (List ℕ))
    → Parses k p → length bytes ≤ k → p bytes ≡ Ok (x, r) → Consumes left left' bytes
    → TakesParts (one_part p part next) (next x) (part x ∷ []) left left'
part_taken k p part next x r bytes left left' parses few e taken = record {
  bytes = bytes;
  taken = taken;
  is = λ rest. let g = subst (λ s. Goes k (length bytes) rest s (p (bytes ++ rest))) e (parses bytes rest) in
      rw (g.0, no_rest k (length bytes) r few g.1);
}

pub part_refused : {A : Type 0} (k : ℕ) (p : List ℕ → Result (A × List ℕ) ImageError)
    (part : A → Part) (next : A → List ℕ → PartsRead) (e : ImageError) (failed : Bool) (bytes : List ℕ)
    (left left' : Option (List ℕ)) (before now : ℕ)
    → Parses k p → p bytes ≡ Err e → Consumes left left' bytes → (failed ≡ false → length bytes < k
    → is_fault {X = A × List ℕ} (Err e) ≡ false → IsAtEnd left') → (failed ≡ true → RoseByOne before now)
    → (failed ≡ true → is_fault {X = A × List ℕ} (Err e) ≡ false) → (failed ≡ false → now ≡ before)
    → Refuses (one_part p part next) [] left left' before now (fault_of e failed)
part_refused {A} k p part next e failed bytes left left' before now parses h taken over rose right no_faults =
    let go = ap (λ s. goes_on s (λ x rest. part_before (part x) (next x rest))) h in
    record {
      bytes = bytes;
      taken = taken;
      why = why e failed (λ rest. rw h at (parses bytes rest))
          go over rose right no_faults;
    }
  where
    judged : {A : Type 0} (p : List ℕ → Result (A × List ℕ) ImageError)
        (part : A → Part) (next : A → List ℕ → PartsRead) (bytes : List ℕ) (left' : Option (List ℕ)) (e : ImageError)
        → ((rest : List ℕ) → p (bytes ++ rest) ≡ Err e) → IsFault (one_part p part next) [] bytes left' e
    judged p part next bytes left' e g =
        inl (λ rest. rw (g rest))

    spared : (failed : Bool) → (failed ≡ true → ◌≡◌ {A = Bool} true false) → (failed ≡ false → now ≡ before)
        → now ≡ before
    spared true right no_faults = absurd (false≢true (sym (right refl)))
    spared false right no_faults = no_faults refl

    why : (e : ImageError) (failed : Bool) → ((rest : List ℕ) → Goes k (length bytes) rest (Err e) (p (bytes ++ rest)))
        → one_part p part next bytes ≡ only_fault e → (failed ≡ false → length bytes < k
        → is_fault {X = A × List ℕ} (Err e) ≡ false → IsAtEnd left') → (failed ≡ true → RoseByOne before now)
        → (failed ≡ true → is_fault {X = A × List ℕ} (Err e) ≡ false) → (failed ≡ false → now ≡ before)
        → by_read (fault_of e failed) (IsCut (one_part p part next) [] bytes before now)
        (IsFault (one_part p part next) [] bytes left' (fault_of e failed) × (now ≡ before))
    why (F.Short at) true g go over rose right no_faults =
        record { rose = rose refl; whole = rw go; fault = rw go tt }
    why (F.Short at) false g go over rose right no_faults = (inr (go, over refl (g []) refl), no_faults refl)
    why F.Read failed g go over rose right no_faults = absurd (g [])
    why (F.Magic at) failed g go over rose right no_faults =
        (judged p part next bytes left' (F.Magic at) g, spared failed right no_faults)
    why (F.OldVersion at) failed g go over rose right no_faults =
        (judged p part next bytes left' (F.OldVersion at) g, spared failed right no_faults)
    why (F.Frames at) failed g go over rose right no_faults =
        (judged p part next bytes left' (F.Frames at) g, spared failed right no_faults)
    why (F.Cpus at) failed g go over rose right no_faults =
        (judged p part next bytes left' (F.Cpus at) g, spared failed right no_faults)
    why (F.Plan at) failed g go over rose right no_faults =
        (judged p part next bytes left' (F.Plan at) g, spared failed right no_faults)
    why (F.Page at) failed g go over rose right no_faults =
        (judged p part next bytes left' (F.Page at) g, spared failed right no_faults)
    why (F.Twice at) failed g go over rose right no_faults =
        (judged p part next bytes left' (F.Twice at) g, spared failed right no_faults)
    why (F.Long at) failed g go over rose right no_faults =
        (judged p part next bytes left' (F.Long at) g, spared failed right no_faults)

-- bytes that don't fill a part and aren't wrong for it have no fault but that they end
pub part_open : {A : Type 0} (k : ℕ) (p : List ℕ → Result (A × List ℕ) ImageError)
    (part : A → Part) (next : A → List ℕ → PartsRead) (bytes : List ℕ)
    → Parses k p → length bytes < k → is_fault (p bytes) ≡ false → IsPartless (one_part p part next) bytes
part_open {A} k p part next bytes parses few right = go (p bytes) refl
  where
    at_most : (e : ImageError) → is_fault {X = A × List ℕ} (Err e) ≡ false → EndsAtMost (Some e)
    at_most (F.Short at) h = tt
    at_most F.Read h = absurd (false≢true (sym h))
    at_most (F.Magic at) h = absurd (false≢true (sym h))
    at_most (F.OldVersion at) h = absurd (false≢true (sym h))
    at_most (F.Frames at) h = absurd (false≢true (sym h))
    at_most (F.Cpus at) h = absurd (false≢true (sym h))
    at_most (F.Plan at) h = absurd (false≢true (sym h))
    at_most (F.Page at) h = absurd (false≢true (sym h))
    at_most (F.Twice at) h = absurd (false≢true (sym h))
    at_most (F.Long at) h = absurd (false≢true (sym h))

    go : (s : Result (A × List ℕ) ImageError) → p bytes ≡ s → IsPartless (one_part p part next) bytes
    go (Ok x) h =
        let g = subst (λ s. Goes k (length bytes) [] s (p (bytes ++ []))) h (parses bytes []) in
        absurd (omega arith)
    go (Err e) h =
        let part_before : one_part p part next bytes ≡ only_fault e = rw h in (
          rw part_before,
          rw part_before (at_most e (sym (ap is_fault h) ∙ right)),
        )

-- ---- one after another

pub after_append : (ps qs : List Part) (t : PartsRead) → parts_then (ps ++ qs) t ≡ parts_then ps (parts_then qs t)
after_append [] qs t = refl
after_append (p ∷ ps) qs t = rw (after_append ps qs t)

pub after_parts : (ps : List Part) (t : PartsRead) → (parts_then ps t).parts ≡ ps ++ t.parts
after_parts [] t = refl
after_parts (p ∷ ps) t = rw (after_parts ps t)

pub after_fault : (ps : List Part) (t : PartsRead) → (parts_then ps t).fault ≡ t.fault
after_fault [] t = refl
after_fault (p ∷ ps) t = after_fault ps t

-- after parts that were taken nothing is wrong where nothing is wrong with what comes
pub faultless_after : (t u : List ℕ → PartsRead) (ps : List Part) (a b : Option (List ℕ)) (x : TakesParts t u ps a b)
    (bytes : List ℕ) → IsFaultless u bytes → IsFaultless t (x.bytes ++ bytes)
faultless_after t u ps a b x bytes is = rw (x.is bytes, after_fault ps (u bytes)) is

pub takes_then : (t u v : List ℕ → PartsRead) (ps qs : List Part) (a b c : Option (List ℕ)) → TakesParts t u ps a b
    → TakesParts u v qs b c → TakesParts t v (ps ++ qs) a c
takes_then t u v ps qs a b c x y = record {
  bytes = x.bytes ++ y.bytes;
  taken = Consumes-trans _ _ _ _ _ x.taken y.taken;
  is = λ rest. rw (append_assoc x.bytes y.bytes rest, x.is (y.bytes ++ rest), y.is rest, ← after_append ps qs (v rest));
}

by_read_map : (e : ImageError) (A B C D : Type 0) → (A → C) → (B → D) → by_read e A B → by_read e C D
by_read_map F.Read A B C D f g x = f x
by_read_map (F.Magic at) A B C D f g x = g x
by_read_map (F.OldVersion at) A B C D f g x = g x
by_read_map (F.Frames at) A B C D f g x = g x
by_read_map (F.Cpus at) A B C D f g x = g x
by_read_map (F.Plan at) A B C D f g x = g x
by_read_map (F.Page at) A B C D f g x = g x
by_read_map (F.Twice at) A B C D f g x = g x
by_read_map (F.Short at) A B C D f g x = g x
by_read_map (F.Long at) A B C D f g x = g x

pub takes_refused : (t u : List ℕ → PartsRead) (ps qs : List Part) (a b c : Option (List ℕ))
    (m n k : ℕ) (e : ImageError) → n ≡ m → TakesParts t u ps a b → Refuses u qs b c n k e → Refuses t (ps ++ qs) a c m
    k e
takes_refused t u ps qs a b c m n k e same x y =
    let joined : t (x.bytes ++ y.bytes) ≡ parts_then ps (u y.bytes) = x.is y.bytes in
    record {
      bytes = x.bytes ++ y.bytes;
      taken = Consumes-trans _ _ _ _ _ x.taken y.taken;
      why = by_read_map e _ _ _ _ (λ (z : IsCut u qs y.bytes n k). cut z joined)
          (λ z. (fault t u ps qs x.bytes y.bytes c e x.is joined z.0, cc (z.1))) y.why;
    }
  where
    cut : IsCut u qs y.bytes n k → t (x.bytes ++ y.bytes) ≡ parts_then ps (u y.bytes)
        → IsCut t (ps ++ qs) (x.bytes ++ y.bytes) m k
    cut z joined = record {
      rose = rw (← same) z.rose;
      whole = rw (joined, after_parts ps (u y.bytes), z.whole);
      fault = rw (joined, after_fault ps (u y.bytes)) z.fault;
    }

    fault : (t u : List ℕ → PartsRead) (ps qs : List Part) (bs cs : List ℕ) (c : Option (List ℕ)) (e : ImageError)
        → ((rest : List ℕ) → t (bs ++ rest) ≡ parts_then ps (u rest)) → t (bs ++ cs) ≡ parts_then ps (u cs)
        → IsFault u qs cs c e → IsFault t (ps ++ qs) (bs ++ cs) c e
    fault t u ps qs bs cs c e is joined (inl g) = inl (λ rest. rw (
      append_assoc bs cs rest,
      is (cs ++ rest),
      g rest,
      ←
          after_append ps qs (only_fault e),
    ))
    fault t u ps qs bs cs c e is joined (inr g) =
        inr (rw (joined, g.0, ← after_append ps qs (only_fault e)), g.1)

-- an image that was taken whole
pub takes_whole : (t u : List ℕ → PartsRead) (ps : List Part) (a b c : Option (List ℕ)) → TakesParts t u ps a b →
    EndsInput u b c
    → (bytes : List ℕ) × Consumes a c bytes × IsAtEnd c × (t bytes ≡ parts_then ps no_more_parts)
takes_whole t u ps a b c x y =
    (x.bytes ++ [], Consumes-trans _ _ _ _ _ x.taken y.taken, y.over, rw (x.is [], y.is))

pub takes_none : (t : List ℕ → PartsRead) (a : Option (List ℕ)) → TakesParts t t [] a a
takes_none t None = record { bytes = []; taken = tt; is = λ rest. refl }
takes_none t (Some x) = record { bytes = []; taken = refl; is = λ rest. refl }
