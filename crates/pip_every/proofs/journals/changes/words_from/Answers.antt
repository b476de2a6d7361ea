-- The words from a place on are what is left without those before.
use Rattle.std.proofs.Common.{◌∙◌}
use Rattle.std.proofs.lemmas.List.{take_rest}
use Rattle.pip_every.proofs.From.{split}
use Rattle.pip_every.proofs.journals.changes.words_from.Goals as goal

pub returns : goal.returns
returns c a b k n r is at = take_rest c.args.words.now c.count_below.result
    ∙ (split a b c.args.place k n r c.count_below.result c.args.words.now is at c.count_below.ensures.count).1
