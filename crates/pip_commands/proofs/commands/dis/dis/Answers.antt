use Rattle.std.proofs.Common.{arith, false, inl, None, Some, Err, ap, subst}
use Rattle.pip_asm.specs.Dues.{parts_due}
use Rattle.pip_io.specs.Ends.{Ends, EndsWith}
use Rattle.pip_image.specs.Fed.{told}
use Rattle.pip_command_contracts.specs.Streams.{streams}
use Rattle.pip_model.specs.Images.{image_parts}
use Rattle.pip_commands.proofs.Disassembly.{dis_serves, fault_due, has_line, whole_due}
use Rattle.pip_commands.proofs.Driven.{driven_end, driven_line, driven_write}
use Rattle.pip_commands.proofs.Waiting.{dis_waits}
use Rattle.pip_commands.proofs.commands.dis.dis.Goals as goal

pub drive-requires-clause-is_open : goal.drive-requires-clause-is_open
drive-requires-clause-is_open g c = c.requires.paced.is_open (dis_waits _ c.requires.paced.none)

pub returns-in-Ok-None : goal.returns-in-Ok-None
returns-in-Ok-None g c =
    let seen = streams g.S.Source.history g.K.Sink.history in
    let e : EndsWith (parts_due image_parts) (seen c.args.source.now c.args.sink.now)
    (seen c.drive.new.source c.drive.new.sink) None = rw (c.new.ensures, c.in-Ok-None.field-0-is) at
    c.in-Ok-None.ensures in
    record {
      ends = rw c.with_status.ensures (driven_end _ _ _ dis_serves _ _ None e e.answer.is.none 0 (inl (omega arith))
          (whole_due _ _ _ _ e.answer));
    }

pub returns-in-Ok-Some : goal.returns-in-Ok-Some
returns-in-Ok-Some g c =
    let seen = streams g.S.Source.history g.K.Sink.history in
    let fault = c.in-Ok-Some.fault in
    let e : EndsWith (parts_due image_parts) (seen c.args.source.now c.args.sink.now)
    (seen c.drive.new.source c.drive.new.sink) (Some fault) = rw (c.new.ensures, c.in-Ok-Some.field-0-is) at
    c.in-Ok-Some.ensures in
    let (line, named) = has_line fault (λ read. e.answer.is.own (ap Some read)) in
    let end = c.end_at_image.ensures in
    record {
      ends = driven_line _ _ _ dis_serves _ _ (Some fault) e e.answer.is.none 2 line (inl (omega arith))
          (fault_due _ _ _ _ fault line named e.answer) _ _ end.none _ _ end.flushed end.no_faults
          (rw named at end.wrote);
    }

pub returns-in-Err-Write : goal.returns-in-Err-Write
returns-in-Err-Write g c =
    let seen = streams g.S.Source.history g.K.Sink.history in
    let cut = subst (λ why. Ends (parts_due (told c.new.result.reader)) false (Err why)
    (seen c.args.source.now c.args.sink.now) (seen c.drive.new.source c.drive.new.sink)) c.in-Err-Write.field-0-is
    c.in-Err-Write.ensures in
    record {
      ends = rw c.with_status-in-Err-Write.ensures
          (driven_write _ _ _ dis_serves _ _ (rw c.new.ensures at cut));
    }
