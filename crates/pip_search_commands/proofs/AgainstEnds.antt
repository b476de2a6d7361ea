-- How `against` ends. The streams go from a to b in the image, and to c in what comes after it.
use Rattle.std.proofs.Common.{◌≡◌, ◌≢◌, ℕ, inl, inr, Option, None, Some, List, [], ◌++◌, refl, sym, subst}
use Rattle.std.proofs.Common.{arith}
use Rattle.std.proofs.Common.{append-nil}
use Rattle.std.specs.Prelude.{MatchOption}
use Rattle.std.specs.Io.KnownBytes.{Consumes}
use Rattle.std.proofs.KnownBytes.{Consumes-trans}
use Rattle.pip_base.specs.Memory.{Memory}
use Rattle.pip_image.specs.Reading.{IsFault, IsFaultWithin, RefusesAfter}
use Rattle.pip_image.specs.declared.header.Header.{Header}
use Rattle.pip_image.proofs.Steps.{after_fault}
use Rattle.pip_io.specs.Pacing.{MayRead}
use Rattle.pip_io.specs.Taken.{Keeps}
use Rattle.pip_io.specs.Histories.{Writing, writing}
use Rattle.pip_io.specs.Moments.{beside}
use Rattle.pip_model.specs.Images.{Part, image_parts}
use Rattle.pip_model.specs.declared.image.ImageError.{ImageError}
use Rattle.pip_switch.specs.Standing.{State}
use Rattle.pip_command_contracts.specs.ImageDues.{BeginsImage}
use Rattle.pip_search_commands.specs.SearchDues.{IsSearchedAgainst, against_due}
use Rattle.pip_command_contracts.specs.EndsBy.{Due, EndsBy, IsAnswered, plainly}
use Rattle.pip_command_contracts.specs.Faults.{image_line}
use Rattle.pip_command_contracts.specs.Loading.{IsStopInside, LoadsFront, StoppedLoading}
use Rattle.pip_search_commands.specs.MenuReading.{BeginsMenu, StopsMenu, TakesBadLine, TakesMenu}
use Rattle.pip_search_commands.specs.MenuText.{MenuSaid, bad_menu_line}
use Rattle.pip_search_commands.specs.Searches.{EndsWithFound}
use Rattle.pip_command_contracts.specs.Pacing.{Waits}
use Rattle.pip_command_contracts.specs.Streams.{EndsLine, IsCalm, Streams}
use Rattle.pip_search_commands.specs.declared.commands.against.menu.MenuFault.{MenuFault}
use Rattle.pip_search_commands.specs.declared.commands.against.menu.MenuStop.{MenuStop}
use Rattle.pip_search_commands.specs.declared.commands.against.menu.MenuStop.TheVariants.{Bad, Unread}
use Rattle.pip_search_commands.specs.declared.start.Start.{Start}
use Rattle.pip_command_contracts.specs.declared.loading.LoadError.{LoadError}
use Rattle.pip_command_contracts.specs.declared.loading.LoadError.TheVariants as T
use Rattle.pip_command_contracts.proofs.Endings.{apart, by_memory, by_plain, by_read_fault}
use Rattle.pip_command_contracts.proofs.ImageFaults.{faulty, no_image}
use Rattle.pip_command_contracts.proofs.Refused.{by_refusal}
use Rattle.pip_command_contracts.proofs.Waiting.{no_fault, waits_first}

-- ---- an image, and bytes after it

module _ (h : Header) (m : Memory) (a b c : Option (List ℕ)) (l : LoadsFront a b h m) (bytes : List ℕ)
    (read : Consumes b c bytes) where
  pub both_read : Consumes a c (l.front ++ bytes)
  both_read = Consumes-trans a b c l.front bytes l.read read

abbrev pub begins : {h : Header} {m : Memory} {a b : Option (List ℕ)} (l : LoadsFront a b h m) (bytes : List ℕ)
    → BeginsImage (l.front ++ bytes)
begins l bytes = record { front = l.front; after = bytes; all = refl; parsed = l.parsed; good = l.good }

-- where an image with a menu may be read, the menu may be once the image was, if the sink is the same
pub after_front : {K : Type 0} (allows : Streams → Type 0) (told : K → Writing) {sink mid : K} {h : Header} {m : Memory}
    {a b : Option (List ℕ)} {j k : ℕ} → mid ≡ sink → k ≡ j → (l : LoadsFront a b h m)
    → ((bytes : List ℕ) (left : Option (List ℕ)) → Consumes a left bytes
    → (x : BeginsImage bytes) × BeginsMenu x.after → allows (beside left j (told sink)))
    → MayRead allows BeginsMenu (beside b k (told mid))
after_front allows told {sink} {mid} {h} {m} {a} {b} {j} {k} kept same l paced = λ bytes left taken is.
    rw kept (subst (λ n. allows (beside left n (told sink))) (sym same)
    (paced (l.front ++ bytes) left (both_read h m a b left l bytes taken) (begins l bytes, is)))

-- ---- where it waits at first

pub against_waits : (a : Streams) → a.written.buffered ≡ [] → (states from : ℕ) (depth : Option ℕ) (origin : Start)
    → Waits (against_due states from depth origin) a a
against_waits a none states from depth origin =
    waits_first a none (against_due states from depth origin) (inl no_fault, refl) tt

-- ---- the ends

module _ (states from : ℕ) (depth : Option ℕ) (origin : Start) (code : ℕ) (p : Option State) (a c : Streams)
    (flushed : code ≢ 4 → c.written.buffered ≡ []) (none : p ≡ None) (start : a.written.buffered ≡ []) where
  abbrev due : Due
  due = against_due states from depth origin

  -- ---- in the image

  is_refused : (parts : List Part) (bytes : List ℕ) (e : ImageError) → IsFaultWithin e → (line : List ℕ)
      → image_line e ≡ Some line → IsFault image_parts parts bytes c.left e
      → IsAnswered due bytes (plainly 2 line None) c.left
  is_refused parts bytes e inside line named is = record {
    is = inl (record {
      fault = e;
      first = no_image parts bytes c.left e is;
      inside = inside;
      named = rw named;
    });
    decided = elim is [
      | inl all ↦ inl (inl (
        record {
          fault = e;
          first = rw (faulty parts bytes c.left e (inl all), after_fault parts _);
          fixed = λ rest. cc (all rest, faulty parts bytes c.left e (inl all));
        },
        inside,
      ))
      | inr here ↦ inr (here.1, tt)
    ];
  }

  -- there was no memory after the header
  pub against_lacks : code ≡ 5 → {stop : LoadError} → stop ≡ T.Memory
      → StoppedLoading stop a.left c.left a.reads c.reads → Keeps a.written c.written → c.writes ≡ a.writes
      → EndsBy due code p a c
  against_lacks is {stop} why stopped kept quiet =
      let h : StoppedLoading T.Memory a.left c.left a.reads c.reads =
      rw why at stopped in
      by_memory due code p a c (record { reads = λ not. h.1; writes = λ not. quiet }) flushed apart h.0.bytes h.0.read
      none is (inl h.0.header) kept

  -- the image has a fault, or its reading failed
  pub against_faulted : {stop : LoadError} {e f : ImageError} → stop ≡ T.Image e → IsStopInside stop
      → StoppedLoading stop a.left c.left a.reads c.reads → (code ≢ 4 → c.writes ≡ a.writes) → f ≡ e
      → MatchOption (image_line f) ((code ≡ 3) × Keeps a.written c.written)
      (λ line. EndsLine 2 line code (writing a.written a.writes) (writing c.written c.writes)) → EndsBy due code p a c
  against_faulted {stop} {e} {f} why within stopped quiet same ends =
      let h : RefusesAfter image_parts a.left c.left a.reads c.reads e =
      rw why at stopped in
      let inside : IsFaultWithin e = rw why at within in
      by_refusal due code p a c start flushed apart none quiet e h.0 h.1 tt (λ good. (inl good, refl))
      (is_refused h.0 h.1.bytes e inside) same ends

  -- ---- after it

  module _ {h : Header} {m : Memory} {b : Option (List ℕ)} (l : LoadsFront a.left b h m) where
    -- a read failed
    pub against_unread : code ≡ 3 → {stop : MenuStop} → stop ≡ Unread → {before : ℕ} → before ≡ a.reads
        → StopsMenu b c.left before c.reads stop → Keeps a.written c.written → c.writes ≡ a.writes
        → EndsBy due code p a c
    against_unread is {stop} why {before} same stopped kept quiet =
        let t : StopsMenu b c.left before c.reads Unread = rw why at stopped in
        by_read_fault due code p a c (record { reads = λ not. absurd (not is); writes = λ not. quiet }) flushed apart
        (l.front ++ t.0.bytes) (both_read h m a.left b c.left l t.0.bytes t.0.taken) none is (record {
          text = [];
          due = (inr (begins l t.0.bytes, t.0.begins), refl);
          limit = tt;
          wrote = kept;
        }) (rw (← same) t.1)

    bad_answered : (fault : MenuFault) (t : TakesBadLine b c.left fault)
        → IsAnswered due (l.front ++ t.bytes) (plainly 2 (bad_menu_line fault) None) c.left
    bad_answered fault t = elim t.is [
      | inl all ↦ record {
        is = inr (
          begins l t.bytes,
          rw (← append-nil t.bytes, all []) refl,
        );
        decided = inl (inr (record { begins = begins l t.bytes; fault = fault; fixed = all }));
      }
      | inr last ↦ record {
        is = inr (
          begins l t.bytes,
          rw last.0 refl,
        );
        decided = inr (last.1, tt);
      }
    ]

    -- a line is bad
    pub against_bad : {stop : MenuStop} (fault : MenuFault) → stop ≡ Bad fault → {before : ℕ} → before ≡ a.reads
        → StopsMenu b c.left before c.reads stop → (code ≢ 4 → c.writes ≡ a.writes) → {line : List ℕ}
        → line ≡ bad_menu_line fault → EndsLine 2 line code (writing a.written a.writes) (writing c.written c.writes)
        → EndsBy due code p a c
    against_bad {stop} fault why {before} same stopped quiet {line} is ends =
        let t : StopsMenu b c.left before c.reads (Bad fault) =
        rw why at stopped in
        by_plain due code p a c (record { reads = λ not. cc (t.1); writes = quiet }) flushed apart
        (l.front ++ t.0.bytes) (both_read h m a.left b c.left l t.0.bytes t.0.taken) none start 2 (bad_menu_line fault)
        (inl (omega arith)) (bad_answered fault t.0)
        (rw (← is) ends)

    -- the search ended, and its text was written or not; or there was no memory for it
    pub against_searched : (menu : MenuSaid) → TakesMenu b c.left menu → IsCalm code a c
        → EndsWithFound (IsSearchedAgainst menu states from depth origin) l.parsed code (writing a.written a.writes)
        (writing c.written c.writes)
        → EndsBy due code p a c
    against_searched menu t no_faults (inl (text, (found, ends))) =
        by_plain due code p a c no_faults flushed apart (l.front ++ t.bytes)
        (both_read h m a.left b c.left l t.bytes t.taken) none start 0 text (inl (omega arith)) (record {
          is = inr (
            begins l t.bytes,
            rw t.is found,
          );
          decided = inr (t.ended, tt);
        }) ends
    against_searched menu t no_faults (inr (is, kept)) =
        by_memory due code p a c no_faults flushed apart (l.front ++ t.bytes)
        (both_read h m a.left b c.left l t.bytes t.taken) none is
        (inr (t.ended, (begins l t.bytes, (menu, t.is)))) kept
