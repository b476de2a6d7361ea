use Rattle.std.proofs.Common.{◌≡◌, ◌≤◌, ◌+◌, ◌^◌, length}
use Rattle.pip_certificates.specs.PartReading.{TakesText, part_seen}
use Rattle.pip_certificates.specs.PartText.{marks_from}
use Rattle.pip_certificates.proofs.reading.read_bits.Given as goal

abbrev pub invariant-loop-left : goal.invariant-loop-left
invariant-loop-left g l = record {
  name : l.joint.source.ghost_name ≡ l.fn.joint.source.ghost_name;
  sink : l.joint.sink ≡ l.fn.joint.sink;
  is_open : g.S.Source.is_open l.joint.source.now;
  no_faults : (g.S.Source.history l.joint.source.now).faults ≡ (g.S.Source.history l.fn.joint.source.now).faults;
  taken : TakesText (marks_from (part_seen l.fn.part) l.fn.count l.fn.at)
      (marks_from (part_seen l.part) l.left l.place)
      (g.S.Source.history l.fn.joint.source.now).left (g.S.Source.history l.joint.source.now).left;
  base : l.part.base ≡ l.fn.part.base;
  way : l.part.way ≡ l.fn.part.way;
  few : length l.part.marks.items + l.left ≤ l.fn.count;
  room : l.place + l.left ≤ 2 ^ 43;
}

abbrev pub decreases-loop-left : goal.decreases-loop-left
decreases-loop-left g l = l.left
