use Rattle.pip_dump.proofs.Pieces.{wrote_err}
use Rattle.pip_model.specs.Soak.{counted_text}
use Rattle.pip_soak.proofs.LoadText.{all_of_three, first_of_three, second_of_three}
use Rattle.pip_soak.proofs.text.write_three.Goals as goal

pub returns-in_err-write_line-clause-text : goal.returns-in_err-write_line-clause-text
returns-in_err-write_line-clause-text g c =
    wrote_err _ _ _ c.from_residual.result c.from_residual.ensures.0
    (first_of_three (counted_text c.args.first.now.name.now c.args.first.now.count)
    (counted_text c.args.second.now.name.now c.args.second.now.count)
    (counted_text c.args.third.now.name.now c.args.third.now.count) _ _ c.in_err-write_line.ensures.text)

pub returns-in_err-write_line-2-clause-text : goal.returns-in_err-write_line-2-clause-text
returns-in_err-write_line-2-clause-text g c =
    wrote_err _ _ _ c.from_residual-in_err-write_line-2.result c.from_residual-in_err-write_line-2.ensures.0
    (second_of_three (counted_text c.args.first.now.name.now c.args.first.now.count)
    (counted_text c.args.second.now.name.now c.args.second.now.count) (counted_text c.args.third.now.name.now
    c.args.third.now.count) _ _ _ c.in_ok-write_line.ensures.text c.in_err-write_line-2.ensures.text)

pub returns-clause-text : goal.returns-clause-text
returns-clause-text g c =
    all_of_three (counted_text c.args.first.now.name.now c.args.first.now.count)
    (counted_text c.args.second.now.name.now c.args.second.now.count)
    (counted_text c.args.third.now.name.now c.args.third.now.count) _ _ _ _ c.write_line-3.result
    c.in_ok-write_line.ensures.text c.in_ok-write_line-2.ensures.text c.write_line-3.ensures.text
