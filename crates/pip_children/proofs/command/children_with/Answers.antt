use Rattle.std.proofs.Common.{◌∙◌, ap, refl}
use Rattle.pip_io.proofs.Taken.{Keeps-refl}
use Rattle.pip_native.specs.Watching.{short_line}
use Rattle.pip_command_contracts.proofs.Endings.{ends_same}
use Rattle.pip_children.proofs.Monitored.{children_cut, children_faulted, children_lacks, children_short}
use Rattle.pip_children.proofs.Monitored.{children_shown}
use Rattle.pip_children.proofs.Waiting.{children_waits}
use Rattle.pip_command_contracts.proofs.Waiting.{waits_after}
use Rattle.pip_children.proofs.command.children_with.Goals as goal

pub returns-in-Ok-show-clause-ends : goal.returns-in-Ok-show-clause-ends
returns-in-Ok-show-clause-ends g c =
    let load = c.in-Ok.ensures.loads in
    let show = c.in-Ok-show.ensures in
    ends_same g.K.Sink.history (ap (λ s. s.now) c.in-Ok.ensures.sink) c.requires.paced.none (λ none.
    children_shown (g.R.Scheduling.schedule c.args.scheduling) c.args.n _ _ _ _ (λ not. show.none) load
    c.show.new.loaded.machine refl refl
    (show.shows load.loads.parsed load.loads.begins)
    (record { reads = λ not. c.in-Ok.ensures.no_faults; writes = λ not. show.cause.no_faults }))

pub returns-in-Ok-clause-ends : goal.returns-in-Ok-clause-ends
returns-in-Ok-clause-ends g c =
    let load = c.in-Ok.ensures.loads in
    let show = c.in-Err.ensures in
    let is = ap (λ e. e.status) c.with_status.ensures in
    ends_same g.K.Sink.history (ap (λ s. s.now) c.in-Ok.ensures.sink) c.requires.paced.none (λ none.
    children_cut (g.R.Scheduling.schedule c.args.scheduling) c.args.n _ _ _ _ (λ not. absurd (not is)) load
    (ap (λ e. e.machine) c.with_status.ensures)
    none is (show.shows load.loads.parsed load.loads.begins) show.cause.failed c.in-Ok.ensures.no_faults)

pub returns-in-Err-Image-clause-ends : goal.returns-in-Err-Image-clause-ends
returns-in-Err-Image-clause-ends g c =
    let end = c.end_at_image.ensures in
    ends_same g.K.Sink.history (ap (λ s. s.now) c.in-Err-Image.ensures.sink) c.requires.paced.none (λ none.
    children_faulted (g.R.Scheduling.schedule c.args.scheduling) c.args.n _ _ _ _ end.flushed end.none none
    c.in-Err-Image.field-0-is
    c.in-Err-Image.ensures.loads end.no_faults c.in-Err-Image.fault-is end.wrote)

pub returns-in-Err-Memory-clause-ends : goal.returns-in-Err-Memory-clause-ends
returns-in-Err-Memory-clause-ends g c =
    let end = c.with_status-in-Err-Memory.ensures in
    ends_same g.K.Sink.history (ap (λ s. s.now) c.in-Err-Memory.ensures.sink) c.requires.paced.none (λ none.
    children_lacks (g.R.Scheduling.schedule c.args.scheduling) c.args.n _ _ _ _ (λ not. none)
    (ap (λ e. e.machine) end) (ap (λ e. e.status) end)
    c.in-Err-Memory.field-0-is c.in-Err-Memory.ensures.loads (Keeps-refl _) refl)

pub returns-clause-ends : goal.returns-clause-ends
returns-clause-ends g c =
    let end = c.end_with.ensures in
    ends_same g.K.Sink.history (ap (λ s. s.now) c.in-Err-Short.ensures.sink) c.requires.paced.none (λ none.
    children_short (g.R.Scheduling.schedule c.args.scheduling) c.args.n _ _ _ _ end.flushed end.none none
    c.in-Err-Short.field-0-is
    c.in-Err-Short.ensures.loads end.no_faults (c.as_bytes.ensures.value ∙ c.as_str.ensures.value ∙ c.short_line.ensures
    ∙ ap (λ f. short_line f c.args.n) c.in-Err-Short.frames-is) end.wrote)

pub load-requires-clause-paced : goal.load-requires-clause-paced
load-requires-clause-paced g c = λ bytes left taken is.
    c.requires.paced.allows _ (waits_after _ c.requires.paced.none _ bytes left taken (is.0, is.1, refl) tt)

pub load-requires-clause-is_open : goal.load-requires-clause-is_open
load-requires-clause-is_open g c = c.requires.paced.is_open (children_waits _ c.requires.paced.none
    (g.R.Scheduling.schedule c.args.scheduling) c.args.n)
