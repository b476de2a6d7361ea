use Rattle.std.proofs.Common.{ap, ◌∙◌, length, refl, subst}
use Rattle.std.proofs.lemmas.List.{length-replicate}
use Rattle.pip_base.specs.Memory.{zeros}
use Rattle.pip_audit.specs.CoreRead.{BeginsLines, IsText}
use Rattle.pip_io.proofs.Taken.{Keeps-refl}
use Rattle.pip_commands.proofs.Audited.{ends_bad, ends_judged, ends_memory, ends_unread, refused_as}
use Rattle.pip_commands.proofs.Audited.{text_shape, text_words}
use Rattle.pip_command_contracts.proofs.Endings.{ends_same}
use Rattle.pip_commands.proofs.Waiting.{audit_waits}
use Rattle.pip_command_contracts.proofs.Waiting.{waits_after}
use Rattle.pip_commands.proofs.commands.audit.audit_input.Goals as goal

pub judge-requires-clause-shape : goal.judge-requires-clause-shape
judge-requires-clause-shape g c =
    text_shape (length c.in-Ok.room.mem.block.frames) c.in-Ok-read_core_from_joint.ensures.reads.0.bytes
    c.read_core_from_joint.new.mem.block.frames c.in-Ok-read_core_from_joint.ensures.reads.0.text

pub judge-requires-clause-words : goal.judge-requires-clause-words
judge-requires-clause-words g c =
    text_words (length c.in-Ok.room.mem.block.frames) c.in-Ok-read_core_from_joint.ensures.reads.0.bytes
    c.read_core_from_joint.new.mem.block.frames c.in-Ok-read_core_from_joint.ensures.reads.0.text

pub returns-in_default-clause-ends : goal.returns-in_default-clause-ends
returns-in_default-clause-ends g c =
    let end = c.with_status.ensures in
    ends_memory c.args.frames _ _ _ _ (ap (λ e. e.machine) end) (record { reads = λ not. refl; writes = λ not. refl })
    (λ not. c.requires.paced.none) (ap (λ e. e.status) end) refl (Keeps-refl _)

pub returns-in-Ok-read_core_from_joint-clause-ends : goal.returns-in-Ok-read_core_from_joint-clause-ends
returns-in-Ok-read_core_from_joint-clause-ends g c =
    let reads = c.in-Ok-read_core_from_joint.ensures.reads in
    let m = c.read_core_from_joint.new.mem.block.frames in
    let end = c.judge.ensures in
    let count = ap length c.in-Ok.ensures.zeros ∙ length-replicate c.args.frames (zeros 1024) in
    ends_same g.K.Sink.history (ap (λ s. s.now) c.read_core_from_joint.ensures.sink) c.requires.paced.none (λ none.
    ends_judged c.args.frames _ _ _ _ end.machine
    (record { reads = λ not. reads.1; writes = end.no_faults }) end.none none m
    (subst (λ n. IsText n (g.S.Source.history c.args.joint.now.source.now).left
    (g.S.Source.history c.read_core_from_joint.new.joint.source.now).left m) count reads.0) end.wrote)

pub returns-in-Err-Line-clause-ends : goal.returns-in-Err-Line-clause-ends
returns-in-Err-Line-clause-ends g c =
    let end = c.end_with.ensures in
    let count = ap length c.in-Ok.ensures.zeros ∙ length-replicate c.args.frames (zeros 1024) in
    let refused = refused_as _ _ _ _ count c.in-Err-Line.field-0-is c.in-Err-Line.ensures.reads in
    ends_same g.K.Sink.history (ap (λ s. s.now) c.read_core_from_joint.ensures.sink) c.requires.paced.none (λ none.
    ends_bad c.args.frames _ _ _ _ end.none (record { reads = λ not. refused.1; writes = end.no_faults })
    end.flushed none
    c.in-Err-Line.number refused.0 (c.as_bytes.ensures.value ∙ c.as_str.ensures.value ∙ c.bad_line.ensures) end.wrote)

pub returns-clause-ends : goal.returns-clause-ends
returns-clause-ends g c =
    let end = c.with_status-in-Err-Read.ensures in
    let is = ap (λ e. e.status) end in
    let count = ap length c.in-Ok.ensures.zeros ∙ length-replicate c.args.frames (zeros 1024) in
    let refused = refused_as _ _ _ _ count c.in-Err-Read.field-0-is c.in-Err-Read.ensures.reads in
    ends_same g.K.Sink.history (ap (λ s. s.now) c.read_core_from_joint.ensures.sink) c.requires.paced.none (λ none.
    ends_unread c.args.frames _ _ _ _ (ap (λ e. e.machine) end)
    (record { reads = λ not. absurd (not is); writes = λ not. refl }) (λ not. none) is refused.0 (Keeps-refl _)
    refused.1)

pub read_core_from_joint-requires-clause-paced : goal.read_core_from_joint-requires-clause-paced
read_core_from_joint-requires-clause-paced g c = λ bytes left taken is.
    let count = ap length c.in-Ok.ensures.zeros ∙ length-replicate c.args.frames (zeros 1024) in
    c.requires.paced.allows _ (waits_after _ c.requires.paced.none _ bytes left taken
    (subst (λ n. BeginsLines n bytes) count is, refl) tt)

pub read_core_from_joint-requires-clause-is_open : goal.read_core_from_joint-requires-clause-is_open
read_core_from_joint-requires-clause-is_open g c = c.requires.paced.is_open (audit_waits _ c.requires.paced.none
    c.args.frames)
