use Rattle.std.proofs.Common.{ap₂, refl, ◌≡◌}
use Rattle.pip_io.proofs.Taken.{Keeps-refl}
use Rattle.pip_command_contracts.proofs.Endings.{ends_same}
use Rattle.pip_certificates.specs.PartReading.{part_seen}
use Rattle.pip_certificates.specs.PartShown.{header_said}
use Rattle.pip_certificates.specs.PartText.{part_said}
use Rattle.pip_certificates.proofs.PartEnds.{part_bad, part_checked, part_unheld, part_unread}
use Rattle.pip_certificates.proofs.commands.part.after_image.Goals as goal

pub returns-in-Ok-clause-ends : goal.returns-in-Ok-clause-ends
returns-in-Ok-clause-ends g c = λ left l.
    let reads = c.in-Ok.ensures.reads in
    let end = c.end_checked.ensures in
    let said : part_said c.limits_of-limits.result c.size_of-size.result ≡ header_said c.args.begun.head =
    ap₂ part_said c.limits_of-limits.ensures c.size_of-size.ensures.size in
    ends_same g.K.Sink.history (rw c.in-Ok.ensures.sink) c.requires.none (λ none.
    part_checked c.args.from _ _ _ _ end.flushed end.none none l (part_seen c.in-Ok.read)
    (rw said at reads.0) (record {
      reads = λ not. reads.1;
      writes = end.no_faults;
    })
    (end.ends l.parsed l.begins))

pub returns-in-Err-Bad-clause-ends : goal.returns-in-Err-Bad-clause-ends
returns-in-Err-Bad-clause-ends g c = λ left l.
    let end = c.end_with.ensures in
    let said : part_said c.limits_of-limits.result c.size_of-size.result ≡ header_said c.args.begun.head =
    ap₂ part_said c.limits_of-limits.ensures c.size_of-size.ensures.size in
    ends_same g.K.Sink.history (rw c.in-Err-Bad.ensures.sink) c.requires.none (λ none.
    part_bad c.args.from _ _ _ _ end.flushed end.none none l c.in-Err-Bad.fault c.in-Err-Bad.field-0-is refl
    (rw (← said) c.in-Err-Bad.ensures.reads)
    end.no_faults
    (rw (c.as_bytes.ensures.value, c.as_str.ensures.value, c.bad_part.ensures, c.in-Err-Bad.fault-is)) end.wrote)

pub returns-in-Err-Unread-clause-ends : goal.returns-in-Err-Unread-clause-ends
returns-in-Err-Unread-clause-ends g c = λ left l.
    let end = c.with_status.ensures in
    let said : part_said c.limits_of-limits.result c.size_of-size.result ≡ header_said c.args.begun.head =
    ap₂ part_said c.limits_of-limits.ensures c.size_of-size.ensures.size in
    ends_same g.K.Sink.history (rw c.in-Err-Unread.ensures.sink) c.requires.none (λ none.
    part_unread c.args.from _ _ _ _ (λ not. none) (rw end) none l (rw end)
    c.in-Err-Unread.field-0-is refl
    (rw (← said) c.in-Err-Unread.ensures.reads)
    (Keeps-refl _) refl)

pub returns-clause-ends : goal.returns-clause-ends
returns-clause-ends g c = λ left l.
    let end = c.with_status-in-Err-Memory.ensures in
    let said : part_said c.limits_of-limits.result c.size_of-size.result ≡ header_said c.args.begun.head =
    ap₂ part_said c.limits_of-limits.ensures c.size_of-size.ensures.size in
    ends_same g.K.Sink.history (rw c.in-Err-Memory.ensures.sink) c.requires.none (λ none.
    part_unheld c.args.from _ _ _ _ (λ not. none) (rw end) none l (rw end)
    c.in-Err-Memory.field-0-is refl
    (rw (← said) c.in-Err-Memory.ensures.reads)
    (Keeps-refl _) refl)
