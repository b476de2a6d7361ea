-- How `merge` ends. The streams go from a to b.
use Rattle.std.proofs.Common.{◌≡◌, ◌≢◌, ℕ, inl, inr, Option, None, List, [], refl, append-nil}
use Rattle.std.proofs.Common.{arith, cond}
use Rattle.std.specs.Prelude.{Bool, true, false, codes, not}
use Rattle.pip_command_contracts.specs.EndsBy.{EndsBy, EndsWithResponse, IsAnswered, IsOfAnswer, Response, plainly}
use Rattle.pip_command_contracts.specs.Pacing.{Waits}
use Rattle.pip_command_contracts.specs.Streams.{EndsLine, IsCalm, Streams}
use Rattle.pip_command_contracts.proofs.Endings.{apart, by_memory, by_plain}
use Rattle.pip_command_contracts.proofs.Waiting.{waits_first}
use Rattle.pip_io.specs.Taken.{Keeps}
use Rattle.pip_io.specs.Histories.{writing}
use Rattle.pip_model.specs.Text.{line_text}
use Rattle.pip_certificates.specs.Merges.{Merging, is_whole, no_merging, uneven_of}
use Rattle.pip_certificates.specs.declared.parts.faults.MergeFault.{MergeFault}
use Rattle.pip_certificates.specs.declared.parts.faults.MergeFault.TheVariants as F
use Rattle.pip_switch.specs.Standing.{State}
use Rattle.pip_certificates.specs.MergeDues.{fault_status, fault_text, merge_due, merge_response}
use Rattle.pip_certificates.specs.MergeDues.{merged_text, uneven_text}
use Rattle.pip_certificates.specs.MergeReading.{StopsMerge, TakesBreak, TakesMerge}
use Rattle.pip_certificates.specs.declared.commands.merge.MergeStop.{MergeStop}
use Rattle.pip_certificates.specs.declared.commands.merge.MergeStop.TheVariants.{Bad, Memory}

-- ---- where it waits at first

pub merge_waits : (a : Streams) → a.written.buffered ≡ [] → Waits merge_due a a
merge_waits a none = waits_first a none merge_due (
  record {
    lines = [];
    rest = [];
    all = refl;
    whole = inl refl;
    plain = refl;
    merging = no_merging;
    good = record { merged = refl; few = omega arith };
  },
  refl,
) tt

-- ---- statuses

is_answer : (fault : MergeFault) → IsOfAnswer (fault_status fault)
is_answer F.Form = inl (omega arith)
is_answer F.Order = inl (omega arith)
is_answer F.Many = inl (omega arith)
is_answer F.Open = inr (omega arith)
is_answer F.Twice = inr (omega arith)
is_answer F.Apart = inr (omega arith)

-- one of three
of_three : (P : Response → Type 0) (b w : Bool) (x y z : Response) → P x → P y → P z → P (cond b x (cond w y z))
of_three P true w x y z p q r = p
of_three P false true x y z p q r = q
of_three P false false x y z p q r = r

-- ---- the ends

module _ (code : ℕ) (p : Option State) (a b : Streams) (flushed : code ≢ 4 → b.written.buffered ≡ []) (none : p ≡ None)
    (start : a.written.buffered ≡ []) where
  -- there was no memory
  pub merge_lacks : code ≡ 5 → (line : List ℕ) {stop : MergeStop} → stop ≡ Memory
      → StopsMerge a.left b.left a.reads b.reads line stop → Keeps a.written b.written → b.writes ≡ a.writes
      → EndsBy merge_due code p a b
  merge_lacks is line {stop} why stopped kept quiet =
      let t : StopsMerge a.left b.left a.reads b.reads line Memory =
      rw why at stopped in
      by_memory merge_due code p a b (record { reads = λ not. t.1; writes = λ not. quiet }) flushed apart
      t.0.0 t.0.1 none is tt kept

  broken_answered : (n : ℕ) (line : List ℕ) (fault : MergeFault) (t : TakesBreak a.left b.left n line fault)
      → IsAnswered merge_due t.bytes (plainly (fault_status fault) (fault_text n line fault) None) b.left
  broken_answered n line fault t = elim t.is [
    | inl all ↦ record {
      is = inr (
        n,
        (line, (fault, rw (← append-nil t.bytes) (all []), refl)),
      );
      decided = inl (record { number = n; line = line; fault = fault; fixed = all });
    }
    | inr last ↦ record { is = inr (n, (line, (fault, last.0, refl))); decided = inr (last.1, tt) }
  ]

  -- a line can't be merged
  pub merge_broken : (n : ℕ) (fault : MergeFault) {line said : List ℕ} {stop : MergeStop} → stop ≡ Bad n fault
      → StopsMerge a.left b.left a.reads b.reads line stop → (code ≢ 4 → b.writes ≡ a.writes) → said ≡ line
      → EndsLine (fault_status fault) (fault_text n said fault) code (writing a.written a.writes)
      (writing b.written b.writes)
      → EndsBy merge_due code p a b
  merge_broken n fault {line} {said} {stop} why stopped quiet same ends =
      let t : StopsMerge a.left b.left a.reads b.reads line (Bad n fault) =
      rw why at stopped in
      by_plain merge_due code p a b (record { reads = λ not. t.1; writes = quiet }) flushed apart t.0.bytes t.0.taken
      none start (fault_status fault) (fault_text n line fault) (is_answer fault) (broken_answered n line fault t.0)
      (rw (← same) ends)

  -- all lines were merged
  pub merge_merged : (g : Merging) → TakesMerge a.left b.left g → IsCalm code a b
      → EndsWithResponse (merge_response g) code (writing a.written a.writes) (writing b.written b.writes) → EndsBy
      merge_due code p a b
  merge_merged g t no_faults ends =
      of_three (λ v. IsAnswered merge_due t.bytes v b.left
      → EndsWithResponse v code (writing a.written a.writes) (writing b.written b.writes) → EndsBy merge_due code p a b)
      (not g.parts.begins)
      (is_whole g) _ _ _
      (λ due said. plain 9 (line_text (codes "no start")) (inr (omega arith)) due said)
      (λ due said. plain 0 (merged_text g) (inl (omega arith)) due said)
      (λ due said. plain 9 (line_text (uneven_text (uneven_of g))) (inr (omega arith)) due said)
      (record { is = inl (g, t.good, refl); decided = inr (t.ended, tt) }) ends
    where
      plain : (status : ℕ) (text : List ℕ) → IsOfAnswer status
          → IsAnswered merge_due t.bytes (plainly status text None) b.left
          → EndsLine status text code (writing a.written a.writes) (writing b.written b.writes) → EndsBy merge_due code
          p a b
      plain status text o due said =
          by_plain merge_due code p a b no_faults flushed apart t.bytes t.taken none start status text o due said
