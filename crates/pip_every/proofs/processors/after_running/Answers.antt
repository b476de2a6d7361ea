-- Those of a partition are as many as they say.
use Rattle.std.proofs.Common.{◌+◌, ◌∙◌, slice_index}
use Rattle.std.proofs.lemmas.List.{take_rest}
use Rattle.pip_every.proofs.Words.{can_hold, read_some}
use Rattle.pip_every.proofs.processors.after_running.Goals as goal

pub slice_bounds-result-count-2 : goal.slice_bounds-result-count-2
slice_bounds-result-count-2 c =
    let b = c.requires.1 in (can_hold c.args.words.now c.if-words-eq0.false c.requires.0 b.0 b.1).there

pub slice_bounds-result-start-2 : goal.slice_bounds-result-start-2
slice_bounds-result-start-2 c =
    let b = c.requires.1 in (can_hold c.args.words.now c.if-words-eq0.false c.requires.0 b.0 b.1).there

pub returns : goal.returns
returns c o rest b =
    let r = read_some c.args.words.now c.if-words-eq0.false o rest b in
    take_rest c.args.words.now (3 + slice_index c.args.words.now 2) ∙ r.1
