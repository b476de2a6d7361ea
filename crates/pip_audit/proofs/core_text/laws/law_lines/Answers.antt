use Rattle.pip_audit.proofs.LineTexts.{end_again, frame_again, group_again}
use Rattle.pip_audit.proofs.LinesBack.{line_back}
use Rattle.pip_audit.proofs.core_text.laws.law_lines.Goals as goal

pub returns : goal.returns
returns c = record {
  told = record { frame = frame_again; group = group_again; last = end_again };
  written = λ line l h. let t = line_back line l h in record { is = t.is; proper = t.proper };
}
