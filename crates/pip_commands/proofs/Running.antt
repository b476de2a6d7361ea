-- How `run`, `tree` and `core` end. The streams go from a to c.
use Rattle.std.proofs.Common.{◌≡◌, ◌≢◌, ℕ, inl, inr, Option, None, Some}
use Rattle.std.proofs.Common.{List, [], refl, sym, ap, ◌∙◌, subst, arith}
use Rattle.std.specs.Prelude.{MatchOption, option_map}
use Rattle.pip_base.specs.declared.types.Plan.{Plan}
use Rattle.pip_image.specs.Reading.{IsFault, RefusesAfter}
use Rattle.pip_io.specs.Causes.{RoseByOne}
use Rattle.pip_io.specs.Taken.{Appends, Keeps, SendsPart}
use Rattle.pip_io.specs.Histories.{writing}
use Rattle.pip_model.specs.Images.{Part, image_parts}
use Rattle.pip_model.specs.declared.image.ImageError.{ImageError}
use Rattle.pip_switch.specs.Standing.{StandsAs, State}
use Rattle.pip_command_contracts.specs.EndsBy.{Response, Due, EndsBy, IsAnswered, plainly}
use Rattle.pip_command_contracts.specs.Faults.{image_line}
use Rattle.pip_commands.specs.Dues.{last_world, run_answer, run_due, shown}
use Rattle.pip_command_contracts.specs.Loading.{LoadsImage, StoppedLoading}
use Rattle.pip_command_contracts.specs.Machines.{StandsIfAny}
use Rattle.pip_command_contracts.specs.Streams.{EndsLine, IsCalm, Streams}
use Rattle.pip_command_contracts.specs.declared.loading.LoadError.{LoadError}
use Rattle.pip_command_contracts.specs.declared.loading.LoadError.TheVariants as T
use Rattle.pip_commands.specs.declared.commands.run.report.Report.{Report}
use Rattle.pip_command_contracts.proofs.Endings.{apart, by_answer, by_memory, by_write_fault, part_plain}
use Rattle.pip_command_contracts.proofs.ImageFaults.{is_faulty, no_image}
use Rattle.pip_command_contracts.proofs.Refused.{by_refusal}

module _ (r : Report) (count seed code : ℕ) (p : Option State) (a c : Streams)
    (flushed : code ≢ 4 → c.written.buffered ≡ []) where
  abbrev due : Due
  due = run_due r count seed

  -- the answer to an image, and to a fault
  abbrev good : (frames pages : ℕ) (plans : List Plan) (s : State) → LoadsImage a.left c.left frames pages plans s →
      Response
  good frames pages plans s l = plainly 0 (shown r l.parsed count seed) (Some (last_world r l.parsed count seed))

  is_good : (frames pages : ℕ) (plans : List Plan) (s : State) (l : LoadsImage a.left c.left frames pages plans s)
      → IsAnswered due l.input (good frames pages plans s l) c.left
  is_good frames pages plans s l = record { is = ap (run_answer r count seed) l.good; decided = inr (l.whole, tt) }

  is_refused : (parts : List Part) (bytes : List ℕ) (e : ImageError) (line : List ℕ) → image_line e ≡ Some line
      → IsFault image_parts parts bytes c.left e → IsAnswered due bytes (plainly 2 line None) c.left
  is_refused parts bytes e line named is = record {
    is = ap (run_answer r count seed) (no_image parts bytes c.left e is) ∙ ap
        (option_map (λ line. plainly 2 line None)) named;
    decided = elim (is_faulty parts bytes c.left e is) [
      | inl all ↦ inl all
      | inr end ↦ inr (end, tt)
    ];
  }

  -- the text was written
  pub run_shown : {frames pages : ℕ} {plans : List Plan} {s : State} (q : State) → code ≡ 0 → p ≡ Some q
      → (l : LoadsImage a.left c.left frames pages plans s)
      → Appends a.written c.written (shown r l.parsed count seed) × StandsAs q (last_world r l.parsed count seed)
      → IsCalm code a c → EndsBy due code p a c
  run_shown {frames} {pages} {plans} {s} q is some l did no_faults =
      by_answer due code p a c no_faults flushed apart l.input l.read (inl (omega (arith, is))) (record {
        answer = good frames pages plans s l;
        due = is_good frames pages plans s l;
        status = is;
        wrote = did.0;
        machine = subst (λ o. StandsIfAny o (Some (last_world r l.parsed count seed))) (sym some) did.1;
      })

  module _ (none : p ≡ None) where
    -- there was no memory after the header
    pub run_lacks : code ≡ 5 → {stop : LoadError} → stop ≡ T.Memory → StoppedLoading stop a.left c.left a.reads c.reads
        → Keeps a.written c.written → c.writes ≡ a.writes → EndsBy due code p a c
    run_lacks is {stop} why stopped kept quiet =
        let h : StoppedLoading T.Memory a.left c.left a.reads c.reads =
        subst (λ s. StoppedLoading s a.left c.left a.reads c.reads) why stopped in
        by_memory due code p a c (record { reads = λ not. h.1; writes = λ not. quiet }) flushed apart h.0.bytes h.0.read
        none is h.0.header kept

    -- a write of the text failed
    pub run_cut : a.written.buffered ≡ [] → {frames pages : ℕ} {plans : List Plan} {s : State} → code ≡ 4
        → (l : LoadsImage a.left c.left frames pages plans s) → SendsPart a.written c.written
        (shown r l.parsed count seed)
        → RoseByOne a.writes c.writes → c.reads ≡ a.reads → EndsBy due code p a c
    run_cut start {frames} {pages} {plans} {s} is l part rose reads =
        by_write_fault due code p a c (record { reads = λ not. reads; writes = λ not. absurd (not is) }) flushed apart
        l.input l.read
        none is (part_plain due a c l.input (shown r l.parsed count seed) (good frames pages plans s l)
        (is_good frames pages plans s l) refl refl start part) rose

    -- the image has a fault, or its reading failed
    pub run_faulted : a.written.buffered ≡ [] → {stop : LoadError} {e f : ImageError} → stop ≡ T.Image e
        → StoppedLoading stop a.left c.left a.reads c.reads → (code ≢ 4 → c.writes ≡ a.writes) → f ≡ e
        → MatchOption (image_line f) ((code ≡ 3) × Keeps a.written c.written)
        (λ line. EndsLine 2 line code (writing a.written a.writes) (writing c.written c.writes)) → EndsBy due code p a c
    run_faulted start {stop} {e} {f} why stopped quiet same ends =
        let h : RefusesAfter image_parts a.left c.left a.reads c.reads e =
        subst (λ s. StoppedLoading s a.left c.left a.reads c.reads) why stopped in
        by_refusal due code p a c start flushed apart none quiet e h.0 h.1 tt (λ good. (good, refl))
        (is_refused h.0 h.1.bytes e) same ends
