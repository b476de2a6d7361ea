-- How a command on children ends. The streams go from a to c.
use Rattle.std.proofs.Common.{◌≡◌, ◌≢◌, ℕ, inl, inr, Option, None, Some, List, [], refl, sym, ap, ◌∙◌, subst}
use Rattle.std.proofs.Common.{arith}
use Rattle.std.specs.Prelude.{MatchOption, Result, option_map}
use Rattle.pip_base.specs.declared.types.Plan.{Plan}
use Rattle.pip_image.specs.Reading.{IsFault}
use Rattle.pip_io.specs.Causes.{RoseByOne}
use Rattle.pip_io.specs.Taken.{Appends, Keeps, SendsPart}
use Rattle.pip_io.specs.Histories.{writing}
use Rattle.pip_model.specs.Images.{Image, Part, image_parts}
use Rattle.pip_model.specs.declared.image.ImageError.{ImageError}
use Rattle.pip_switch.specs.Standing.{StandsAs, State}
use Rattle.pip_native.specs.Watching.{short_line}
use Rattle.pip_children.specs.Children.{Schedule, children_text, children_world}
use Rattle.pip_command_contracts.specs.EndsBy.{Response, Due, EndsBy, IsAnswered, plainly}
use Rattle.pip_command_contracts.specs.Faults.{image_line}
use Rattle.pip_children.specs.Dues.{IsChildrenAnswer, IsRoomy, IsShort, IsUnshort, schedule_due}
use Rattle.pip_command_contracts.specs.Machines.{StandsIfAny}
use Rattle.pip_children.specs.Loading.{LoadsNative, RefusesUnshort, StoppedNative}
use Rattle.pip_command_contracts.specs.Streams.{EndsLine, IsCalm, Streams}
use Rattle.pip_children.specs.declared.loading.ChildrenLoadError.{ChildrenLoadError}
use Rattle.pip_children.specs.declared.loading.ChildrenLoadError.TheVariants as T
use Rattle.pip_command_contracts.proofs.Endings.{apart, by_answer, by_memory, by_plain, by_write_fault, part_plain}
use Rattle.pip_command_contracts.proofs.ImageFaults.{is_faulty, no_image}
use Rattle.pip_command_contracts.proofs.Refused.{by_refusal}

module _ (s : Schedule) (n code : ℕ) (p : Option State) (a c : Streams)
    (flushed : code ≢ 4 → c.written.buffered ≡ []) where
  abbrev due : Due
  due = schedule_due s n

  abbrev IsScheduled : List ℕ → Result Image ImageError → Response → Type 0
  IsScheduled = IsChildrenAnswer (λ i. children_text s i n) (λ i. children_world s i n) n

  -- the answer to an image with room
  module _ {frames pages : ℕ} {plans : List Plan} {m : State} (l : LoadsNative n a.left c.left frames pages plans m)
    where
      abbrev text : List ℕ
      text = children_text s l.loads.parsed n

      abbrev good : Response
      good = plainly 0 text (Some (children_world s l.loads.parsed n))

      is_good : IsAnswered due l.loads.input good c.left
      is_good = record {
        is = inr (subst (λ t. IsScheduled l.loads.input t good) (sym l.loads.good)
            (subst (IsRoomy n) l.loads.begins.frames l.roomy, refl));
        decided = inr (l.loads.whole, tt);
      }

      -- the text was written
      pub children_shown : (q : State) → code ≡ 0 → p ≡ Some q
          → Appends a.written c.written text × StandsAs q (children_world s l.loads.parsed n) → IsCalm code a c
          → EndsBy due code p a c
      children_shown q is some did no_faults =
          by_answer due code p a c no_faults flushed apart l.loads.input l.loads.read
          (inl (omega (arith, is))) (record {
            answer = good;
            due = is_good;
            status = is;
            wrote = did.0;
            machine = subst (λ o. StandsIfAny o (Some (children_world s l.loads.parsed n))) (sym some) did.1;
          })

      -- a write of it failed
      pub children_cut : p ≡ None → a.written.buffered ≡ [] → code ≡ 4 → SendsPart a.written c.written text
          → RoseByOne a.writes c.writes → c.reads ≡ a.reads → EndsBy due code p a c
      children_cut none start is part rose reads =
          by_write_fault due code p a c (record { reads = λ not. reads; writes = λ not. absurd (not is) }) flushed apart
          l.loads.input l.loads.read none is (part_plain due a c l.loads.input text good is_good refl refl start part)
          rose

  module _ (none : p ≡ None) where
    -- there was no memory after the header
    pub children_lacks : code ≡ 5 → {stop : ChildrenLoadError} → stop ≡ T.Memory
        → StoppedNative n stop a.left c.left a.reads c.reads
        → Keeps a.written c.written → c.writes ≡ a.writes → EndsBy due code p a c
    children_lacks is {stop} why stopped kept quiet =
        let h : StoppedNative n T.Memory a.left c.left a.reads c.reads =
        subst (λ x. StoppedNative n x a.left c.left a.reads c.reads) why stopped in
        let head = h.0.read in
        by_memory due code p a c (record { reads = λ not. h.1; writes = λ not. quiet }) flushed apart head.bytes
        head.read none is (head.header, subst (IsRoomy n) (sym head.same) h.0.roomy) kept

    -- the header has too few frames
    pub children_short : a.written.buffered ≡ [] → {stop : ChildrenLoadError} {frames : ℕ} → stop ≡ T.Short frames
        → StoppedNative n stop a.left c.left a.reads c.reads → (code ≢ 4 → c.writes ≡ a.writes) → {line : List ℕ}
        → line ≡ short_line frames n → EndsLine 8 line code (writing a.written a.writes) (writing c.written c.writes)
        → EndsBy due code p a c
    children_short start {stop} {frames} why stopped quiet {line} named told =
        let h : StoppedNative n (T.Short frames) a.left c.left a.reads c.reads =
        subst (λ x. StoppedNative n x a.left c.left a.reads c.reads) why stopped in
        let head = h.0.read in
        let short : IsShort n head.bytes =
        record { header = head.header; few = let e = head.same in let l = h.0.few in omega (arith, e, l) } in
        by_plain due code p a c (record { reads = λ not. h.1; writes = quiet }) flushed apart head.bytes head.read none
        start 8 line (inr (omega arith)) (record {
          is = inl (short, ap (λ t. plainly 8 t None) (named ∙ ap (λ f. short_line f n) (sym head.same)));
          decided = inl (inl short);
        }) told

    is_refused : (parts : List Part) (bytes : List ℕ) (e : ImageError) → IsUnshort n bytes → (line : List ℕ)
        → image_line e ≡ Some line → IsFault image_parts parts bytes c.left e
        → IsAnswered due bytes (plainly 2 line None) c.left
    is_refused parts bytes e unshort line named is = record {
      is = inr (subst (λ t. IsScheduled bytes t (plainly 2 line None))
          (sym (no_image parts bytes c.left e is))
          (unshort, ap (option_map (λ line. plainly 2 line None)) named));
      decided = elim (is_faulty parts bytes c.left e is) [
        | inl all ↦ inl (inr all)
        | inr end ↦ inr (end, tt)
      ];
    }

    -- the image has a fault, or its reading failed
    pub children_faulted : a.written.buffered ≡ [] → {stop : ChildrenLoadError} {e f : ImageError} → stop ≡ T.Image e
        → StoppedNative n stop a.left c.left a.reads c.reads → (code ≢ 4 → c.writes ≡ a.writes) → f ≡ e
        → MatchOption (image_line f) ((code ≡ 3) × Keeps a.written c.written)
        (λ line. EndsLine 2 line code (writing a.written a.writes) (writing c.written c.writes)) → EndsBy due code p a c
    children_faulted start {stop} {e} {f} why stopped quiet same ends =
        let h : RefusesUnshort n a.left c.left a.reads c.reads e =
        subst (λ x. StoppedNative n x a.left c.left a.reads c.reads) why stopped in
        by_refusal due code p a c start flushed apart none quiet e h.parts h.refused tt
        (λ good. (good, h.unshort, refl))
        (is_refused h.parts h.refused.bytes e h.unshort) same ends
