-- How `soak` ends, from how its text was written.
use Rattle.std.proofs.Common.{◌≡◌, ◌≢◌, ℕ, inl, Option, None, Some, List, [], refl, sym, subst, arith}
use Rattle.std.proofs.KnownBytes.{Consumes-nil}
use Rattle.pip_base.specs.Memory.{Memory}
use Rattle.pip_dump.specs.Totals.{TotalsOf}
use Rattle.pip_dump.specs.declared.numbers.Totals.{Totals}
use Rattle.pip_io.specs.Causes.{RoseByOne}
use Rattle.pip_io.specs.Taken.{Taken, Appends, Keeps, SendsPart}
use Rattle.pip_io.specs.Histories.{writing}
use Rattle.pip_model.specs.Happens.{outcomes}
use Rattle.pip_model.specs.Layout.{LaysOut}
use Rattle.pip_model.specs.Partitions.{IsHeld}
use Rattle.pip_model.specs.Soak.{soak_events, soak_start, soak_text, soak_world}
use Rattle.pip_model.specs.Tree.{Tree}
use Rattle.pip_soak.specs.Counts.{CountsOf}
use Rattle.pip_soak.specs.LoadText.{load_text}
use Rattle.pip_soak.specs.declared.counts.Counts.{Counts}
use Rattle.pip_soak.proofs.LoadText.{soak_text_is}
use Rattle.pip_switch.specs.Standing.{StandsAs, State}
use Rattle.pip_commands.specs.Dues.{soak_due}
use Rattle.pip_command_contracts.specs.EndsBy.{Due, EndsBy, IsAnswered, plainly}
use Rattle.pip_command_contracts.specs.Machines.{StandsIfAny}
use Rattle.pip_command_contracts.specs.Streams.{IsCalm, Streams, beside}
use Rattle.pip_command_contracts.proofs.Endings.{by_answer, by_memory, by_write_fault, part_plain}

-- ---- the machine of a load

module _ (p : State) where
  -- the text of its counts and of the totals of its memory is the model's
  pub text_of : (count seed : ℕ) → StandsAs p (soak_world count seed) → (c : Counts)
      → CountsOf c (outcomes soak_start (soak_events count seed))
      → (mem : Memory) → mem ≡ p.memory → (n : Totals) → ((t : Tree) → IsHeld t mem → TotalsOf n t)
      → load_text c n count ≡ soak_text count seed
  text_of count seed s c counts mem same n sums =
      let laid = subst (LaysOut (soak_world count seed).tree) (sym same) s.bare.shows.laid in
      soak_text_is c n count seed counts (sums (soak_world count seed).tree (s.bare.sound.tree, laid))

-- ---- how a load ends

-- what is told of the sink goes from `before` and `writes` on; what is told of the source stays
module _ (count seed code : ℕ) (p : Option State) (before after : Taken) (writes writes' : ℕ)
    (start : before.buffered ≡ [])
    (flushed : code ≢ 4 → after.buffered ≡ []) (left : Option (List ℕ)) (reads : ℕ) where
  abbrev due : Due
  due = soak_due count seed

  abbrev a : Streams
  a = beside left reads (writing before writes)

  abbrev b : Streams
  b = beside left reads (writing after writes')

  loaded : IsAnswered due [] (plainly 0 (soak_text count seed) (Some (soak_world count seed))) left
  loaded = record { is = refl; decided = inl tt }

  quiet : (code ≢ 4 → writes' ≡ writes) → IsCalm code a b
  quiet no_faults = record { reads = λ not. refl; writes = no_faults }

  pub load_done : code ≡ 0 → Appends before after (soak_text count seed) → StandsIfAny p (Some (soak_world count seed))
      → writes' ≡ writes → EndsBy due code p a b
  load_done is wrote machine same =
      by_answer due code p a b (quiet (λ not. same)) flushed (λ e. (refl, refl)) [] (Consumes-nil left)
      (inl (omega (arith, is)))
      (record {
        answer = plainly 0 (soak_text count seed) (Some (soak_world count seed));
        due = loaded;
        status = is;
        wrote = wrote;
        machine = machine;
      })

  module _ (none : p ≡ None) where
    pub load_cut : code ≡ 4 → SendsPart before after (soak_text count seed) → RoseByOne writes writes'
        → EndsBy due code p a b
    load_cut is part rose =
        by_write_fault due code p a b (quiet (λ not. absurd (not is))) flushed (λ e. (refl, refl)) []
        (Consumes-nil left) none is
        (part_plain due a b [] (soak_text count seed) _ loaded refl refl start part) rose

    pub load_lacks : code ≡ 5 → Keeps before after → writes' ≡ writes → EndsBy due code p a b
    load_lacks is kept same =
        by_memory due code p a b (quiet (λ not. same)) flushed (λ e. (refl, refl)) [] (Consumes-nil left) none is tt
        kept
