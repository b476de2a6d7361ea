use Rattle.std.proofs.Common.{refl}
use Rattle.pip_io.proofs.Taken.{Keeps-refl}
use Rattle.pip_certificates.specs.Seen.{merging_of}
use Rattle.pip_command_contracts.proofs.Endings.{ends_same}
use Rattle.pip_command_contracts.proofs.Waiting.{waits_after}
use Rattle.pip_certificates.proofs.MergeEnds.{merge_broken, merge_lacks, merge_merged, merge_waits}
use Rattle.pip_certificates.proofs.commands.merge.merge_input.Goals as goal

pub merge_lines-requires-clause-is_open : goal.merge_lines-requires-clause-is_open
merge_lines-requires-clause-is_open g c = c.requires.paced.is_open (merge_waits _ c.requires.paced.none)

pub merge_lines-requires-clause-paced : goal.merge_lines-requires-clause-paced
merge_lines-requires-clause-paced g c = λ bytes left taken is.
    c.requires.paced.allows _ (waits_after _ c.requires.paced.none _ bytes left taken (is, refl) tt)

pub returns-in-Ok-clause-ends : goal.returns-in-Ok-clause-ends
returns-in-Ok-clause-ends g c =
    let merges = c.in-Ok.ensures.merges in
    let end = c.end_merged.ensures in
    ends_same g.K.Sink.history (rw c.in-Ok.ensures.sink) c.requires.paced.none (λ none.
    merge_merged _ _ _ _ end.flushed end.none none (merging_of c.merge_lines.new.merger) merges.0 (record {
      reads = λ not. merges.1;
      writes = end.no_faults;
    }) end.wrote)

pub returns-in-Err-Bad-clause-ends : goal.returns-in-Err-Bad-clause-ends
returns-in-Err-Bad-clause-ends g c =
    let end = c.end_broken.ensures in
    ends_same g.K.Sink.history (rw c.in-Err-Bad.ensures.sink) c.requires.paced.none (λ none.
    merge_broken _ _ _ _ end.flushed end.none none c.in-Err-Bad.number c.in-Err-Bad.fault c.in-Err-Bad.field-0-is
    c.in-Err-Bad.ensures.merges end.no_faults c.as_slice.ensures.value end.wrote)

pub returns-clause-ends : goal.returns-clause-ends
returns-clause-ends g c =
    let end = c.with_status-in-Err-Memory.ensures in
    ends_same g.K.Sink.history (rw c.in-Err-Memory.ensures.sink) c.requires.paced.none (λ none.
    merge_lacks _ _ _ _ (λ not. none) (rw end) none (rw end) _
    c.in-Err-Memory.field-0-is c.in-Err-Memory.ensures.merges (Keeps-refl _) refl)
