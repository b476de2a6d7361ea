use Rattle.std.proofs.Common.{refl}
use Rattle.pip_io.proofs.Taken.{Keeps-refl}
use Rattle.pip_search_commands.specs.MenuReading.{menu_said}
use Rattle.pip_search_commands.proofs.AgainstEnds.{against_bad, against_searched, against_unread}
use Rattle.pip_command_contracts.proofs.Endings.{ends_same}
use Rattle.pip_search_commands.proofs.commands.against.after_image.Goals as goal

pub returns-in-Ok-clause-ends : goal.returns-in-Ok-clause-ends
returns-in-Ok-clause-ends g c = λ left l.
    let reads = c.in-Ok.ensures.reads in
    let end = c.end_search.ensures in
    ends_same g.K.Sink.history (rw c.in-Ok.ensures.sink) c.requires.none (λ none.
    against_searched c.args.states c.args.from c.args.depth c.args.start _ _ _ _ end.flushed end.none none l
    (menu_said c.in-Ok.menu) reads.0 (record { reads = λ not. reads.1; writes = end.no_faults })
    (end.ends l.parsed l.begins))

pub returns-in-Err-Bad-clause-ends : goal.returns-in-Err-Bad-clause-ends
returns-in-Err-Bad-clause-ends g c = λ left l.
    let end = c.end_with.ensures in
    ends_same g.K.Sink.history (rw c.in-Err-Bad.ensures.sink) c.requires.none (λ none.
    against_bad c.args.states c.args.from c.args.depth c.args.start _ _ _ _ end.flushed end.none none l
    c.in-Err-Bad.fault c.in-Err-Bad.field-0-is refl c.in-Err-Bad.ensures.reads end.no_faults
    (rw (c.as_bytes.ensures.value, c.as_str.ensures.value, c.bad_menu_line.ensures, c.in-Err-Bad.fault-is)) end.wrote)

pub returns-clause-ends : goal.returns-clause-ends
returns-clause-ends g c = λ left l.
    let end = c.with_status.ensures in
    ends_same g.K.Sink.history (rw c.in-Err-Unread.ensures.sink) c.requires.none (λ none.
    against_unread c.args.states c.args.from c.args.depth c.args.start _ _ _ _ (λ not. none)
    (rw end) none l (rw end) c.in-Err-Unread.field-0-is refl
    c.in-Err-Unread.ensures.reads (Keeps-refl _) refl)
