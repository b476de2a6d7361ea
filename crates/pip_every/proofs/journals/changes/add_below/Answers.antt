-- The words before the place are added, and the others are left.
use Rattle.std.proofs.Common.{◌++◌, ◌∙◌, ap}
use Rattle.std.proofs.lemmas.List.{take_rest}
use Rattle.pip_every.proofs.From.{split}
use Rattle.pip_every.proofs.journals.changes.add_below.Goals as goal

pub returns : goal.returns
returns c a b k n r is at =
    let count = c.count_below-count in
    let parts = split a b c.args.place k n r count.result c.args.words.now is at count.ensures.count in (
      c.in_ok-extend_from_slice.ensures.items ∙ ap (λ v. c.args.to.now.items ++ v) parts.0,
      take_rest c.args.words.now count.result ∙ parts.1,
    )
