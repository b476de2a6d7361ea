-- How `part` ends. The streams go from a to b in the image, and to c in what comes after it.
use Rattle.std.proofs.Common.{◌≡◌, ◌≢◌, ℕ, ◌+◌, ◌*◌, inl, inr, Option, None}
use Rattle.std.proofs.Common.{Some, List, [], ◌++◌, refl, sym, ap, ◌∙◌, subst}
use Rattle.std.proofs.Common.{arith, append-nil, length}
use Rattle.std.specs.Prelude.{MatchOption, Ok}
use Rattle.std.specs.Io.KnownBytes.{Consumes}
use Rattle.std.proofs.KnownBytes.{Consumes-trans}
use Rattle.pip_base.specs.Memory.{Memory}
use Rattle.pip_image.specs.Reading.{IsFault, IsFaultWithin, RefusesAfter}
use Rattle.pip_image.specs.declared.header.Header.{Header}
use Rattle.pip_image.proofs.Steps.{after_fault}
use Rattle.pip_io.specs.Pacing.{MayRead}
use Rattle.pip_io.specs.Moments.{beside}
use Rattle.pip_io.specs.Taken.{Keeps}
use Rattle.pip_io.specs.Histories.{Writing, writing}
use Rattle.pip_model.specs.Images.{Image, Part, image_parts}
use Rattle.pip_model.specs.declared.image.ImageError.{ImageError}
use Rattle.pip_switch.specs.Standing.{State}
use Rattle.pip_command_contracts.specs.ImageDues.{BeginsImage}
use Rattle.pip_command_contracts.specs.EndsBy.{Due, EndsBy, IsAnswered, plainly}
use Rattle.pip_command_contracts.specs.Faults.{image_line}
use Rattle.pip_command_contracts.specs.Loading.{BeginsFrames, IsStopInside, LoadsFront, StoppedLoading}
use Rattle.pip_command_contracts.specs.Pacing.{Waits}
use Rattle.pip_command_contracts.specs.Streams.{EndsLine, IsCalm, Streams}
use Rattle.pip_command_contracts.specs.declared.loading.LoadError.{LoadError}
use Rattle.pip_command_contracts.specs.declared.loading.LoadError.TheVariants as T
use Rattle.pip_command_contracts.proofs.Endings.{apart, by_memory, by_plain, by_read_fault}
use Rattle.pip_command_contracts.proofs.ImageFaults.{faulty, no_image}
use Rattle.pip_command_contracts.proofs.Refused.{by_refusal}
use Rattle.pip_command_contracts.proofs.Waiting.{no_fault, waits_first}
use Rattle.pip_certificates.specs.PartDues.{BeginsPart, IsPartAnswer, after_said, part_due}
use Rattle.pip_certificates.specs.PartReading.{EndsText, HasNoFault, StopsText, TakesFault}
use Rattle.pip_certificates.specs.PartShown.{EndsWithPart, header_said}
use Rattle.pip_certificates.specs.PartText.{PartSaid, bad_part_line, part_said}
use Rattle.pip_certificates.specs.declared.faults.PartFault.{PartFault}
use Rattle.pip_certificates.specs.declared.faults.PartStop.{PartStop}
use Rattle.pip_certificates.specs.declared.faults.PartStop.TheVariants as P

-- ---- an image, and bytes after it

-- a header says what its image says
pub said_same : {i : Image} {h : Header} {m : Memory} → BeginsFrames i h m → header_said h ≡ after_said i
said_same b = λ k bytes. part_said (record { frames = b.frames k; choices = b.cpus k + length (b.plans k) })
    (24 + 12 * length (b.plans k) + 4100 * b.pages k) bytes

module _ (h : Header) (m : Memory) (a b c : Option (List ℕ)) (l : LoadsFront a b h m) (bytes : List ℕ)
    (read : Consumes b c bytes) where
  pub both_read : Consumes a c (l.front ++ bytes)
  both_read = Consumes-trans a b c l.front bytes l.read read

abbrev pub begins : {h : Header} {m : Memory} {a b : Option (List ℕ)} (l : LoadsFront a b h m) (bytes : List ℕ)
    → BeginsImage (l.front ++ bytes)
begins l bytes = record { front = l.front; after = bytes; all = refl; parsed = l.parsed; good = l.good }

-- where an image with a part may be read, the part may be once the image was, if the sink is the same
pub after_front : {K : Type 0} (allows : Streams → Type 0) (told : K → Writing) {sink mid : K} {h : Header} {m : Memory}
    {a b : Option (List ℕ)} {j k : ℕ} → mid ≡ sink → k ≡ j → (l : LoadsFront a b h m)
    → ((bytes : List ℕ) (left : Option (List ℕ)) → Consumes a left bytes → BeginsPart bytes
    → allows (beside left j (told sink)))
    → MayRead allows (HasNoFault (header_said h)) (beside b k (told mid))
after_front allows told {sink} {mid} {h} {m} {a} {b} {j} {k} kept same l paced = λ bytes left taken is.
    rw kept (subst (λ n. allows (beside left n (told sink))) (sym same)
    (paced (l.front ++ bytes) left (both_read h m a b left l bytes taken)
    (begins l bytes, subst (λ f. HasNoFault f bytes) (said_same l.begins) is)))

-- ---- where it waits at first

pub part_waits : (a : Streams) → a.written.buffered ≡ [] → (from : ℕ) → Waits (part_due from) a a
part_waits a none from = waits_first a none (part_due from) (inl no_fault, refl) tt

-- ---- the ends

module _ (from code : ℕ) (p : Option State) (a c : Streams)
    (flushed : code ≢ 4 → c.written.buffered ≡ []) (none : p ≡ None) (start : a.written.buffered ≡ []) where
  abbrev due : Due
  due = part_due from

  -- ---- in the image

  is_refused : (parts : List Part) (bytes : List ℕ) (e : ImageError) → IsFaultWithin e → (line : List ℕ)
      → image_line e ≡ Some line → IsFault image_parts parts bytes c.left e
      → IsAnswered due bytes (plainly 2 line None) c.left
  is_refused parts bytes e inside line named is = record {
    is = inl (record {
      fault = e;
      first = no_image parts bytes c.left e is;
      inside = inside;
      named = rw named;
    });
    decided = elim is [
      | inl all ↦ inl (inl (
        record {
          fault = e;
          first = rw (faulty parts bytes c.left e (inl all), after_fault parts _);
          fixed = λ rest. cc (all rest, faulty parts bytes c.left e (inl all));
        },
        inside,
      ))
      | inr here ↦ inr (here.1, tt)
    ];
  }

  -- there was no memory after the header
  pub part_lacks : code ≡ 5 → {stop : LoadError} → stop ≡ T.Memory
      → StoppedLoading stop a.left c.left a.reads c.reads → Keeps a.written c.written → c.writes ≡ a.writes
      → EndsBy due code p a c
  part_lacks is {stop} why stopped kept quiet =
      let h : StoppedLoading T.Memory a.left c.left a.reads c.reads =
      rw why at stopped in
      by_memory due code p a c (record { reads = λ not. h.1; writes = λ not. quiet }) flushed apart h.0.bytes h.0.read
      none is (inl h.0.header) kept

  -- the image has a fault, or its reading failed
  pub part_faulted : {stop : LoadError} {e f : ImageError} → stop ≡ T.Image e → IsStopInside stop
      → StoppedLoading stop a.left c.left a.reads c.reads → (code ≢ 4 → c.writes ≡ a.writes) → f ≡ e
      → MatchOption (image_line f) ((code ≡ 3) × Keeps a.written c.written)
      (λ line. EndsLine 2 line code (writing a.written a.writes) (writing c.written c.writes)) → EndsBy due code p a c
  part_faulted {stop} {e} {f} why within stopped quiet same ends =
      let h : RefusesAfter image_parts a.left c.left a.reads c.reads e =
      rw why at stopped in
      let inside : IsFaultWithin e = rw why at within in
      by_refusal due code p a c start flushed apart none quiet e h.0 h.1 tt (λ good. (inl good, refl))
      (is_refused h.0 h.1.bytes e inside) same ends

  -- ---- after it

  module _ {h : Header} {m : Memory} {b : Option (List ℕ)} (l : LoadsFront a.left b h m) where
    abbrev Stops : PartStop → ℕ → Type 0
    Stops stop before = StopsText (header_said h) b c.left before c.reads stop

    stops : {stop to : PartStop} → stop ≡ to → {before : ℕ} → before ≡ a.reads → Stops stop before
        → StopsText (after_said l.parsed) b c.left a.reads c.reads to
    stops {stop} {to} why {before} same stopped =
        rw (← said_same l.begins) (subst (λ n. StopsText (header_said h) b c.left n c.reads to) same
        (subst (λ s. StopsText (header_said h) b c.left before c.reads s) why stopped))

    -- a read failed
    pub part_unread : code ≡ 3 → {stop : PartStop} → stop ≡ P.Unread → {before : ℕ} → before ≡ a.reads
        → Stops stop before → Keeps a.written c.written → c.writes ≡ a.writes → EndsBy due code p a c
    part_unread is why same stopped kept quiet =
        let t : StopsText (after_said l.parsed) b c.left a.reads c.reads P.Unread = stops why same stopped in
        by_read_fault due code p a c (record { reads = λ not. absurd (not is); writes = λ not. quiet }) flushed apart
        (l.front ++ t.0.bytes) (both_read h m a.left b c.left l t.0.bytes t.0.taken) none is (record {
          text = [];
          due = (inr (begins l t.0.bytes, t.0.is), refl);
          limit = tt;
          wrote = kept;
        }) t.1

    -- there was no memory for what it says
    pub part_unheld : code ≡ 5 → {stop : PartStop} → stop ≡ P.Memory → {before : ℕ} → before ≡ a.reads
        → Stops stop before → Keeps a.written c.written → c.writes ≡ a.writes → EndsBy due code p a c
    part_unheld is why same stopped kept quiet =
        let t : StopsText (after_said l.parsed) b c.left a.reads c.reads P.Memory = stops why same stopped in
        by_memory due code p a c (record { reads = λ not. t.1; writes = λ not. quiet }) flushed apart
        (l.front ++ t.0.0) (both_read h m a.left b c.left l t.0.0 t.0.1) none is (inr (begins l t.0.0)) kept

    bad_answered : (fault : PartFault) (t : TakesFault (after_said l.parsed) b c.left fault)
        → IsAnswered due (l.front ++ t.bytes) (plainly 2 (bad_part_line fault) None) c.left
    bad_answered fault t = elim t.is [
      | inl all ↦ record {
        is = inr (
          begins l t.bytes,
          rw (← append-nil t.bytes, all []) refl,
        );
        decided = inl (inr (record { begins = begins l t.bytes; fault = fault; fixed = all }));
      }
      | inr last ↦ record {
        is = inr (
          begins l t.bytes,
          rw last.0 refl,
        );
        decided = inr (last.1, tt);
      }
    ]

    -- the part has a fault
    pub part_bad : {stop : PartStop} (fault : PartFault) → stop ≡ P.Bad fault → {before : ℕ} → before ≡ a.reads
        → Stops stop before → (code ≢ 4 → c.writes ≡ a.writes) → {line : List ℕ}
        → line ≡ bad_part_line fault → EndsLine 2 line code (writing a.written a.writes) (writing c.written c.writes)
        → EndsBy due code p a c
    part_bad {stop} fault why {before} same stopped quiet {line} is ends =
        let t : StopsText (after_said l.parsed) b c.left a.reads c.reads (P.Bad fault) = stops why same stopped in
        by_plain due code p a c (record { reads = λ not. t.1; writes = quiet }) flushed apart
        (l.front ++ t.0.bytes) (both_read h m a.left b c.left l t.0.bytes t.0.taken) none start 2
        (bad_part_line fault) (inl (omega arith)) (bad_answered fault t.0)
        (rw (← is) ends)

    -- the part was checked, and its text was written or not; or there was no memory for it
    pub part_checked : (said : PartSaid) → EndsText (header_said h) b c.left said → IsCalm code a c
        → EndsWithPart (IsPartAnswer from l.parsed (Ok said)) code (writing a.written a.writes)
        (writing c.written c.writes)
        → EndsBy due code p a c
    part_checked said t no_faults (inl (n, (text, (answers, (found, ends))))) =
        by_plain due code p a c no_faults flushed apart (l.front ++ t.bytes)
        (both_read h m a.left b c.left l t.bytes t.taken) none start n text answers (record {
          is = inr (
            begins l t.bytes,
            subst (λ r. IsPartAnswer from l.parsed r (plainly n text None))
                (sym (ap (λ f. f t.bytes) (sym (said_same l.begins)) ∙ t.is)) found,
          );
          decided = inr (t.ended, tt);
        }) ends
    part_checked said t no_faults (inr (is, kept)) =
        by_memory due code p a c no_faults flushed apart (l.front ++ t.bytes)
        (both_read h m a.left b c.left l t.bytes t.taken) none is (inr (begins l t.bytes)) kept
