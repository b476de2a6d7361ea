use Rattle.std.proofs.Common.{refl}
use Rattle.pip_io.proofs.Taken.{Keeps-refl}
use Rattle.pip_search_commands.specs.SearchDues.{IsFoundApart}
use Rattle.pip_command_contracts.proofs.Endings.{ends_same}
use Rattle.pip_search_commands.proofs.SearchEnds.{found_ends, found_faulted, found_lacks}
use Rattle.pip_command_contracts.proofs.Waiting.{found_waits, waits_after}
use Rattle.pip_search_commands.proofs.commands.apart.apart_joined.Goals as goal

pub returns-in-Ok-clause-ends : goal.returns-in-Ok-clause-ends
returns-in-Ok-clause-ends g c =
    let load = c.in-Ok.ensures.loads in
    let end = c.end_apart.ensures in
    ends_same g.K.Sink.history (rw c.in-Ok.ensures.sink) c.requires.paced.none (λ none.
    found_ends (IsFoundApart c.args.states c.args.count c.args.seed) _ _ _ _ end.flushed end.none none load
    (record { reads = λ not. c.in-Ok.ensures.no_faults; writes = end.no_faults }) (end.ends load.parsed load.begins))

pub returns-in-Err-Image-clause-ends : goal.returns-in-Err-Image-clause-ends
returns-in-Err-Image-clause-ends g c =
    let end = c.end_at_image.ensures in
    ends_same g.K.Sink.history (rw c.in-Err-Image.ensures.sink) c.requires.paced.none (λ none.
    found_faulted (IsFoundApart c.args.states c.args.count c.args.seed) _ _ _ _ end.flushed end.none none
    c.in-Err-Image.field-0-is c.in-Err-Image.ensures.loads end.no_faults c.in-Err-Image.fault-is end.wrote)

pub returns-in-Err-Memory-clause-ends : goal.returns-in-Err-Memory-clause-ends
returns-in-Err-Memory-clause-ends g c =
    ends_same g.K.Sink.history (rw c.in-Err-Memory.ensures.sink) c.requires.paced.none (λ none.
    found_lacks (IsFoundApart c.args.states c.args.count c.args.seed) _ _ _ _ (λ not. none)
    (rw c.with_status.ensures) none (rw c.with_status.ensures)
    c.in-Err-Memory.field-0-is c.in-Err-Memory.ensures.loads (Keeps-refl _) refl)

pub load-requires-clause-paced : goal.load-requires-clause-paced
load-requires-clause-paced g c = λ bytes left taken is.
    c.requires.paced.allows _ (waits_after _ c.requires.paced.none _ bytes left taken (is, refl) tt)

pub load-requires-clause-is_open : goal.load-requires-clause-is_open
load-requires-clause-is_open g c =
    c.requires.paced.is_open (found_waits _ c.requires.paced.none (IsFoundApart c.args.states c.args.count c.args.seed))
