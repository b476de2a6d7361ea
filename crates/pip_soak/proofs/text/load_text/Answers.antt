use Rattle.std.proofs.Common.{◌++◌}
use Rattle.std.specs.Prelude.{codes}
use Rattle.pip_io.proofs.Taken.{Appends-trans}
use Rattle.pip_io.proofs.Piecewise.{part_after, part_longer}
use Rattle.pip_dump.proofs.Pieces.{wrote_err}
use Rattle.pip_model.specs.Soak.{counted_text}
use Rattle.pip_soak.specs.LoadText.{kinds_text, replies_text, sums_text}
use Rattle.pip_soak.proofs.LoadText.{all_of_three, first_of_three, second_of_three}
use Rattle.pip_soak.proofs.text.load_text.Goals as goal

pub returns-in_err-write_outcomes-clause-text : goal.returns-in_err-write_outcomes-clause-text
returns-in_err-write_outcomes-clause-text g c =
    let n = c.args.counts.now in
    wrote_err _ _ _ c.from_residual.result c.from_residual.ensures.0
    (first_of_three (kinds_text n ++ replies_text n.replies) (sums_text c.args.totals.now)
    (counted_text (codes "end") c.args.count) _ _
    (part_longer _ _ (kinds_text n) (replies_text n.replies) c.in_err-write_outcomes.ensures.text))

pub returns-in_err-write_replies-clause-text : goal.returns-in_err-write_replies-clause-text
returns-in_err-write_replies-clause-text g c =
    let n = c.args.counts.now in
    wrote_err _ _ _ c.from_residual-in_err-write_replies.result c.from_residual-in_err-write_replies.ensures.0
    (first_of_three (kinds_text n ++ replies_text n.replies) (sums_text c.args.totals.now)
    (counted_text (codes "end") c.args.count) _ _
    (part_after _ _ _ (kinds_text n) (replies_text n.replies) c.in_ok-write_outcomes.ensures.text
    c.in_err-write_replies.ensures.text))

pub returns-in_err-write_totals-clause-text : goal.returns-in_err-write_totals-clause-text
returns-in_err-write_totals-clause-text g c =
    let n = c.args.counts.now in
    wrote_err _ _ _ c.from_residual-in_err-write_totals.result c.from_residual-in_err-write_totals.ensures.0
    (second_of_three (kinds_text n ++ replies_text n.replies) (sums_text c.args.totals.now)
    (counted_text (codes "end") c.args.count) _ _ _
    (Appends-trans _ _ _ (kinds_text n) (replies_text n.replies) c.in_ok-write_outcomes.ensures.text
    c.in_ok-write_replies.ensures.text)
    c.in_err-write_totals.ensures.text)

pub returns-clause-text : goal.returns-clause-text
returns-clause-text g c =
    let n = c.args.counts.now in
    all_of_three (kinds_text n ++ replies_text n.replies) (sums_text c.args.totals.now)
    (counted_text (codes "end") c.args.count) _ _ _ _ c.write_line.result
    (Appends-trans _ _ _ (kinds_text n) (replies_text n.replies) c.in_ok-write_outcomes.ensures.text
    c.in_ok-write_replies.ensures.text)
    c.in_ok-write_totals.ensures.text
    c.write_line.ensures.text
