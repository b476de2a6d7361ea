use Rattle.std.proofs.Common.{ap, inl, inr, refl}
use Rattle.pip_io.proofs.Taken.{Keeps-refl}
use Rattle.pip_command_contracts.proofs.Endings.{ends_same}
use Rattle.pip_command_contracts.proofs.Waiting.{waits_after}
use Rattle.pip_certificates.proofs.PartEnds.{after_front, part_faulted, part_lacks, part_waits}
use Rattle.pip_certificates.proofs.commands.part.part_joined.Goals as goal

pub returns-in-Ok-clause-ends : goal.returns-in-Ok-clause-ends
returns-in-Ok-clause-ends g c =
    let end = c.after_image.ensures in
    ends_same g.K.Sink.history (ap (λ s. s.now) c.in-Ok.ensures.sink) c.requires.paced.none (λ none.
    rw (← c.in-Ok.ensures.no_faults) (end.ends _ c.in-Ok.ensures.loads))

pub returns-in-Err-Image-clause-ends : goal.returns-in-Err-Image-clause-ends
returns-in-Err-Image-clause-ends g c =
    let end = c.end_at_image.ensures in
    ends_same g.K.Sink.history (rw c.in-Err-Image.ensures.sink) c.requires.paced.none (λ none.
    part_faulted c.args.from _ _ _ _ end.flushed end.none none
    c.in-Err-Image.field-0-is c.in-Err-Image.ensures.inside c.in-Err-Image.ensures.loads end.no_faults
    c.in-Err-Image.fault-is end.wrote)

pub returns-in-Err-Memory-clause-ends : goal.returns-in-Err-Memory-clause-ends
returns-in-Err-Memory-clause-ends g c =
    ends_same g.K.Sink.history (rw c.in-Err-Memory.ensures.sink) c.requires.paced.none (λ none.
    part_lacks c.args.from _ _ _ _ (λ not. none)
    (rw c.with_status.ensures) none (rw c.with_status.ensures)
    c.in-Err-Memory.field-0-is c.in-Err-Memory.ensures.loads (Keeps-refl _) refl)

pub load_front-requires-clause-paced : goal.load_front-requires-clause-paced
load_front-requires-clause-paced g c = λ bytes left taken is.
    c.requires.paced.allows _ (waits_after _ c.requires.paced.none _ bytes left taken (inl is, refl) tt)

pub load_front-requires-clause-is_open : goal.load_front-requires-clause-is_open
load_front-requires-clause-is_open g c = c.requires.paced.is_open (part_waits _ c.requires.paced.none c.args.from)

pub after_image-requires-clause-paced : goal.after_image-requires-clause-paced
after_image-requires-clause-paced g c =
    after_front g.S.Source.allows g.K.Sink.history (rw c.in-Ok.ensures.sink)
    c.in-Ok.ensures.no_faults c.in-Ok.ensures.loads (λ bytes left taken is.
    c.requires.paced.allows _ (waits_after _ c.requires.paced.none _ _ left taken (inr is, refl) tt))

pub after_image-requires-clause-none : goal.after_image-requires-clause-none
after_image-requires-clause-none g c =
    rw c.in-Ok.ensures.sink c.requires.paced.none
