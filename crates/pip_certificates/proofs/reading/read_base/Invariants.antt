use Rattle.std.proofs.Common.{◌≡◌, ◌≤◌, ◌<◌, ◌+◌, ◌*◌, ◌^◌, length}
use Rattle.pip_certificates.specs.BaseWords.{AreBaseWords}
use Rattle.pip_certificates.specs.PartReading.{TakesText, part_seen}
use Rattle.pip_certificates.specs.PartText.{base_from, base_said}
use Rattle.pip_certificates.proofs.reading.read_base.Given as goal

abbrev pub invariant-loop-left : goal.invariant-loop-left
invariant-loop-left g l = record {
  name : l.joint.source.ghost_name ≡ l.fn.joint.source.ghost_name;
  sink : l.joint.sink ≡ l.fn.joint.sink;
  is_open : g.S.Source.is_open l.joint.source.now;
  no_faults : (g.S.Source.history l.joint.source.now).faults ≡ (g.S.Source.history l.fn.joint.source.now).faults;
  taken : TakesText (base_said l.fn.limits (part_seen l.fn.part) l.fn.at)
      (base_from l.fn.limits (part_seen l.part) l.least l.left l.place)
      (g.S.Source.history l.fn.joint.source.now).left (g.S.Source.history l.joint.source.now).left;
  base : AreBaseWords l.fn.limits.frames l.part.base.items;
  way : l.part.way ≡ l.fn.part.way;
  marks : l.part.marks ≡ l.fn.part.marks;
  few : length l.part.base.items + l.left < 2 ^ 32;
  room : l.place + 12 * l.left ≤ 2 ^ 36;
}

abbrev pub decreases-loop-left : goal.decreases-loop-left
decreases-loop-left g l = l.left
