-- How `asm` ends. The streams go from a to b.
use Rattle.std.proofs.Common.{◌≡◌, ◌≢◌, ℕ, ◌⊎◌, inl, inr, Option, None, Some, List, [], ◌∷◌, ◌++◌, Result, Ok, Err}
use Rattle.std.proofs.Common.{refl, sym, ap, subst, arith}
use Rattle.pip_script.specs.Whole.{TakesMore, TakesPart, TakesWhole}
use Rattle.pip_io.specs.Causes.{RoseByOne}
use Rattle.pip_io.specs.Taken.{Keeps}
use Rattle.pip_io.specs.Histories.{writing}
use Rattle.pip_model.specs.Assembly.{LineFault, assembly}
use Rattle.pip_switch.specs.Standing.{State}
use Rattle.pip_commands.specs.Dues.{asm_answer, asm_due}
use Rattle.pip_command_contracts.specs.EndsBy.{EndsBy, IsAnswered, EndsWithResponse}
use Rattle.pip_commands.specs.Faults.{asm_line}
use Rattle.pip_command_contracts.specs.Streams.{IsCalm, Streams}
use Rattle.pip_command_contracts.proofs.Endings.{apart, by_limit, by_memory, by_plain, by_read_fault}

module _ (code : ℕ) (p : Option State) (a b : Streams) (none : p ≡ None) (no_faults : IsCalm code a b)
    (flushed : code ≢ 4 → b.written.buffered ≡ []) where
  pub asm_lacks : code ≡ 5 → (bytes : List ℕ) → TakesPart bytes a.left b.left → Keeps a.written b.written
      → EndsBy asm_due code p a b
  asm_lacks is bytes read kept = by_memory asm_due code p a b no_faults flushed apart bytes read.read none is
      read.limit kept

  -- the whole input was read
  module _ (start : a.written.buffered ≡ []) (input : List ℕ) (read : TakesWhole input a.left b.left) where
    assembled : (t : Result (List ℕ) LineFault) → assembly input ≡ t → IsAnswered asm_due input (asm_answer t) b.left
    assembled t is = record { is = ap asm_answer (sym is); decided = inr (read.whole, read.limit) }

    tells : (t : Result (List ℕ) LineFault) → assembly input ≡ t
        → EndsWithResponse (asm_answer t) code (writing a.written a.writes) (writing b.written b.writes) → EndsBy
        asm_due code p a b
    tells (Ok image) is told = by_plain asm_due code p a b no_faults flushed apart input read.read none start 0 image
        (inl (omega arith)) (assembled (Ok image) is) told
    tells (Err fault) is told = by_plain asm_due code p a b no_faults flushed apart input read.read none start 2
        (asm_line fault)
        (inl (omega arith)) (assembled (Err fault) is) told

    pub asm_written : (text : List ℕ) → text ≡ input
        → EndsWithResponse (asm_answer (assembly text)) code (writing a.written a.writes) (writing b.written b.writes) ⊎
        ((code ≡ 5) × Keeps a.written b.written)
        → EndsBy asm_due code p a b
    asm_written text same (inl told) = tells (assembly input) refl
        (subst (λ t. EndsWithResponse (asm_answer (assembly t)) code (writing a.written a.writes)
        (writing b.written b.writes)) same told)
    asm_written text same (inr want) = asm_lacks want.0 input (record { read = read.read; limit = read.limit }) want.1
