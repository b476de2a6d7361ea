-- How a command ends that searches an image. The streams go from a to c.
use Rattle.std.proofs.Common.{◌≡◌, ◌≢◌, ℕ, inl, inr, Option, None, List, [], refl, ap, arith}
use Rattle.std.specs.Prelude.{MatchOption, Some, option_map}
use Rattle.pip_base.specs.Memory.{Memory}
use Rattle.pip_image.specs.Reading.{IsFault, RefusesAfter}
use Rattle.pip_image.specs.declared.header.Header.{Header}
use Rattle.pip_io.specs.Taken.{Keeps}
use Rattle.pip_io.specs.Histories.{writing}
use Rattle.pip_model.specs.Images.{Image, Part, image_parts}
use Rattle.pip_model.specs.declared.image.ImageError.{ImageError}
use Rattle.pip_switch.specs.Standing.{State}
use Rattle.pip_search_commands.specs.Searches.{EndsWithFound}
use Rattle.pip_command_contracts.specs.EndsBy.{Due, EndsBy, IsAnswered, Response, plainly}
use Rattle.pip_command_contracts.specs.Faults.{image_line}
use Rattle.pip_command_contracts.specs.ImageDues.{searching_due}
use Rattle.pip_command_contracts.specs.Loading.{LoadsFrames, StoppedLoading}
use Rattle.pip_command_contracts.specs.Streams.{EndsLine, IsCalm, Streams}
use Rattle.pip_command_contracts.specs.declared.loading.LoadError.{LoadError}
use Rattle.pip_command_contracts.specs.declared.loading.LoadError.TheVariants as T
use Rattle.pip_command_contracts.proofs.Endings.{apart, by_memory, by_plain}
use Rattle.pip_command_contracts.proofs.ImageFaults.{is_faulty, no_image}
use Rattle.pip_command_contracts.proofs.Refused.{by_refusal}

module _ (P : Image → Response → Type 0) (code : ℕ) (p : Option State) (a c : Streams)
    (flushed : code ≢ 4 → c.written.buffered ≡ []) (none : p ≡ None) (start : a.written.buffered ≡ []) where
  abbrev due : Due
  due = searching_due P

  is_found : (h : Header) (m : Memory) (l : LoadsFrames a.left c.left h m) (text : List ℕ)
      → P l.parsed (plainly 0 text None) → IsAnswered due l.input (plainly 0 text None) c.left
  is_found h m l text found = record {
    is = rw l.good found;
    decided = inr (l.whole, tt);
  }

  is_refused : (parts : List Part) (bytes : List ℕ) (e : ImageError) (line : List ℕ) → image_line e ≡ Some line
      → IsFault image_parts parts bytes c.left e → IsAnswered due bytes (plainly 2 line None) c.left
  is_refused parts bytes e line named is = record {
    is = rw (no_image parts bytes c.left e is) (ap (option_map (λ line. plainly 2 line None)) named);
    decided = elim (is_faulty parts bytes c.left e is) [
      | inl all ↦ inl all
      | inr end ↦ inr (end, tt)
    ];
  }

  -- the search ended, and its text was written or not; or there was no memory for it
  pub found_ends : {h : Header} {m : Memory} (l : LoadsFrames a.left c.left h m) → IsCalm code a c
      → EndsWithFound P l.parsed code (writing a.written a.writes) (writing c.written c.writes) → EndsBy due code p a c
  found_ends {h} {m} l no_faults (inl (text, (found, ends))) =
      by_plain due code p a c no_faults flushed apart l.input l.read none start 0 text (inl (omega arith))
      (is_found h m l text found) ends
  found_ends {h} {m} l no_faults (inr (is, kept)) =
      by_memory due code p a c no_faults flushed apart l.input l.read none is (inr (l.whole, (l.parsed, l.good))) kept

  -- there was no memory after the header
  pub found_lacks : code ≡ 5 → {stop : LoadError} → stop ≡ T.Memory → StoppedLoading stop a.left c.left a.reads c.reads
      → Keeps a.written c.written → c.writes ≡ a.writes → EndsBy due code p a c
  found_lacks is {stop} why stopped kept quiet =
      let h : StoppedLoading T.Memory a.left c.left a.reads c.reads =
      rw why at stopped in
      by_memory due code p a c (record { reads = λ not. h.1; writes = λ not. quiet }) flushed apart h.0.bytes h.0.read
      none is (inl h.0.header) kept

  -- the image has a fault, or its reading failed
  pub found_faulted : {stop : LoadError} {e f : ImageError} → stop ≡ T.Image e
      → StoppedLoading stop a.left c.left a.reads c.reads → (code ≢ 4 → c.writes ≡ a.writes) → f ≡ e
      → MatchOption (image_line f) ((code ≡ 3) × Keeps a.written c.written)
      (λ line. EndsLine 2 line code (writing a.written a.writes) (writing c.written c.writes)) → EndsBy due code p a c
  found_faulted {stop} {e} {f} why stopped quiet same ends =
      let h : RefusesAfter image_parts a.left c.left a.reads c.reads e =
      rw why at stopped in
      by_refusal due code p a c start flushed apart none quiet e h.0 h.1 tt (λ good. (good, refl))
      (is_refused h.0 h.1.bytes e) same ends
