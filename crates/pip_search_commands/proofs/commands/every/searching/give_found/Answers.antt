use Rattle.std.proofs.Common.{◌∙◌, ap, length}
use Rattle.std.proofs.lemmas.Result.{MatchResult-from_err}
use Rattle.pip_model.specs.Run.{trace_image_line}
use Rattle.pip_search.specs.Ways.{witnesses_of}
use Rattle.pip_io.proofs.Piecewise.{part_longer, wrote_of}
use Rattle.pip_command_contracts.specs.Planned.{lines_planned}
use Rattle.pip_search_commands.proofs.commands.every.searching.give_found.Goals as goal

pub returns-in_err-write_image-clause-wrote : goal.returns-in_err-write_image-clause-wrote
returns-in_err-write_image-clause-wrote g c =
    MatchResult-from_err c.from_residual.result _ _ c.from_residual.ensures.0 (λ _.
    let h = c.args.head.now in
    part_longer _ _ (trace_image_line h.frames h.cpus (length h.plans.items) h.pages) _
    (rw (← c.len.ensures.value) c.in_err-write_image.ensures.wrote))

pub returns-clause-wrote : goal.returns-clause-wrote
returns-clause-wrote g c =
    let h = c.args.head.now in
    let t = c.args.told.now in
    let ws = witnesses_of t.verdict t.search.visits.items t.search.found.items in
    let lines = c.as_slice-2.ensures.value ∙ (c.planned_lines-lines.ensures ∙ ap lines_planned c.as_slice.ensures.value)
    in
    wrote_of _ _ _ (trace_image_line h.frames h.cpus (length h.plans.items) h.pages) _ c.write_search.result
    (rw c.len.ensures.value at c.in_ok-write_image.ensures.wrote)
    (rw (← lines) c.write_search.ensures.wrote)
