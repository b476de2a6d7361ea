use Rattle.std.proofs.Common.{length}
use Rattle.std.proofs.lemmas.Result.{MatchResult-from_err}
use Rattle.pip_apart.specs.Searches.{known_of}
use Rattle.pip_apart.specs.Texts.{known_text}
use Rattle.pip_model.specs.Run.{trace_image_line}
use Rattle.pip_io.proofs.Piecewise.{part_longer, wrote_of}
use Rattle.pip_search_commands.proofs.commands.apart.searching.give.Goals as goal

pub returns-in_err-write_image-clause-wrote : goal.returns-in_err-write_image-clause-wrote
returns-in_err-write_image-clause-wrote g c =
    MatchResult-from_err c.from_residual.result _ _ c.from_residual.ensures.0 (λ _.
    let h = c.args.head.now in
    part_longer _ _ (trace_image_line h.frames h.cpus (length h.plans.items) h.pages)
    (known_text (known_of c.args.known.now))
    (rw (← c.len-plans.ensures.value) c.in_err-write_image.ensures.wrote))

pub returns-clause-wrote : goal.returns-clause-wrote
returns-clause-wrote g c =
    let h = c.args.head.now in
    wrote_of _ _ _ (trace_image_line h.frames h.cpus (length h.plans.items) h.pages)
    (known_text (known_of c.args.known.now)) c.write_known.result
    (rw (← c.len-plans.ensures.value) c.in_ok-write_image.ensures.wrote)
    c.write_known.ensures.wrote
