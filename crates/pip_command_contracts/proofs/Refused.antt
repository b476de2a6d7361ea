-- How a command ends at a fault of its image, where nothing was written before. The streams go from a to c.
use Rattle.std.proofs.Common.{◌≡◌, ◌≢◌, ℕ, inl, inr, true, Option, None, Some, List, [], subst, arith}
use Rattle.std.specs.Prelude.{MatchOption}
use Rattle.pip_image.specs.Reading.{EndsAtMost, IsCut, IsFault, Refuses}
use Rattle.pip_io.specs.Taken.{Keeps}
use Rattle.pip_io.specs.Histories.{writing}
use Rattle.pip_model.specs.Images.{Part, image_parts}
use Rattle.pip_model.specs.declared.image.ImageError.{ImageError}
use Rattle.pip_switch.specs.Standing.{State}
use Rattle.pip_command_contracts.specs.EndsBy.{Due, EndsBy, IsAnswered, IsWithin, plainly}
use Rattle.pip_command_contracts.specs.Faults.{image_line}
use Rattle.pip_command_contracts.specs.Streams.{EndsLine, Streams}
use Rattle.pip_command_contracts.proofs.Endings.{by_plain, by_read_fault}
use Rattle.pip_command_contracts.proofs.ImageFaults.{by_line}

module _ (d : Due) (code : ℕ) (p : Option State) (a c : Streams) (start : a.written.buffered ≡ [])
    (flushed : code ≢ 4 → c.written.buffered ≡ [])
    (unread : d.unread code ≡ true → (c.left ≡ a.left) × (c.reads ≡ a.reads))
    (none : p ≡ None) (quiet : code ≢ 4 → c.writes ≡ a.writes) (e : ImageError) (parts : List Part)
    (x : Refuses image_parts parts a.left c.left a.reads c.reads e) where
  abbrev Ends : Option (List ℕ) → Type 0
  Ends o = MatchOption o ((code ≡ 3) × Keeps a.written c.written)
      (λ line. EndsLine 2 line code (writing a.written a.writes) (writing c.written c.writes))

  -- by what is due of a failed read, and of a fault
  pub by_refusal : IsWithin d.limit x.bytes → (EndsAtMost (image_parts x.bytes).fault → d.so_far x.bytes [])
      → ((line : List ℕ) → image_line e ≡ Some line → IsFault image_parts parts x.bytes c.left e
      → IsAnswered d x.bytes (plainly 2 line None) c.left) → {f : ImageError} → f ≡ e
      → MatchOption (image_line f) ((code ≡ 3) × Keeps a.written c.written)
      (λ line. EndsLine 2 line code (writing a.written a.writes) (writing c.written c.writes)) → EndsBy d code p a c
  by_refusal limit so_far refused {f} same wrote =
      let ends : Ends (image_line e) = subst (λ e. Ends (image_line e)) same wrote in
      let A = IsCut image_parts parts x.bytes a.reads c.reads in
      let B = IsFault image_parts parts x.bytes c.left e × (c.reads ≡ a.reads) in
      elim (by_line e A B x.why) [
        | inl cut ↦
            let at3 : (code ≡ 3) × Keeps a.written c.written = subst Ends cut.1 ends in
            by_read_fault d code p a c (record { reads = λ not. absurd (not at3.0); writes = quiet }) flushed unread
            x.bytes x.taken
            none at3.0 (record { text = []; due = so_far cut.0.fault; limit = limit; wrote = at3.1 }) cut.0.rose
        | inr fault ↦
            by_plain d code p a c (record { reads = λ not. fault.0.1; writes = quiet }) flushed unread x.bytes x.taken
            none start 2
            fault.1.0 (inl (omega arith)) (refused fault.1.0 fault.1.1 fault.0.0) (subst Ends fault.1.1 ends)
      ]
