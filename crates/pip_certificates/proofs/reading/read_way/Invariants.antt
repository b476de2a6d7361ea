use Rattle.std.proofs.Common.{◌≡◌, ◌<◌, ◌≤◌, ◌+◌, ◌*◌, ◌^◌, All, length}
use Rattle.pip_certificates.specs.PartReading.{TakesText, part_seen}
use Rattle.pip_certificates.specs.PartText.{runs_from, runs_said}
use Rattle.pip_certificates.proofs.reading.read_way.Given as goal

abbrev pub invariant-loop-left : goal.invariant-loop-left
invariant-loop-left g l = record {
  name : l.joint.source.ghost_name ≡ l.fn.joint.source.ghost_name;
  sink : l.joint.sink ≡ l.fn.joint.sink;
  is_open : g.S.Source.is_open l.joint.source.now;
  no_faults : (g.S.Source.history l.joint.source.now).faults ≡ (g.S.Source.history l.fn.joint.source.now).faults;
  taken : TakesText (runs_said l.fn.limits (part_seen l.fn.part) l.fn.at)
      (runs_from l.fn.limits (part_seen l.part) l.last l.left l.place)
      (g.S.Source.history l.fn.joint.source.now).left (g.S.Source.history l.joint.source.now).left;
  base : l.part.base ≡ l.fn.part.base;
  short : length l.part.way.items ≤ 10000000;
  can : All (λ k. k < l.fn.limits.choices) l.part.way.items;
  marks : l.part.marks ≡ l.fn.part.marks;
  room : l.place + 8 * l.left ≤ 2 ^ 40;
}

abbrev pub decreases-loop-left : goal.decreases-loop-left
decreases-loop-left g l = l.left
