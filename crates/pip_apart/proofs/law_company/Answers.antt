use Rattle.pip_apart.proofs.NoLine.{guests_hold_among_lines, lines_are_shown_alone}
use Rattle.pip_apart.proofs.Quiet.{guests_hold_in_company}
use Rattle.pip_apart.proofs.Running.{alone_is_an_order}
use Rattle.pip_apart.proofs.law_company.Goals as goal

pub returns : goal.returns
returns c = record {
  quiet = guests_hold_in_company;
  lines = guests_hold_among_lines;
  shown = lines_are_shown_alone;
  order = alone_is_an_order;
}
