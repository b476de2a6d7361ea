use Rattle.std.proofs.Common.{◌≡◌, ◌<◌, ◌≤◌, ◌+◌, ◌-◌, ◌*◌, ◌++◌, ℕ, List, length}
use Rattle.pip_certificates.specs.PartReading.{part_seen}
use Rattle.pip_certificates.specs.PartText.{marks_from}
use Rattle.pip_certificates.proofs.reading.add_chunk.Given as goal

abbrev pub invariant-loop-bytes : goal.invariant-loop-bytes
invariant-loop-bytes l = record {
  adds : (rest : List ℕ) → marks_from (part_seen l.fn.part) l.fn.left l.fn.at (l.fn.bytes ++ rest)
      ≡ marks_from (part_seen l.part) l.left l.at (l.bytes ++ rest);
  least : 8 * length l.bytes < l.left + 8;
  left : l.left - 8 * length l.bytes ≡ l.fn.left - 8 * length l.fn.bytes;
  place : l.at + length l.bytes ≡ l.fn.at + length l.fn.bytes;
  base : l.part.base ≡ l.fn.part.base;
  way : l.part.way ≡ l.fn.part.way;
  few : length l.part.marks.items + l.left ≤ length l.fn.part.marks.items + l.fn.left;
}

abbrev pub decreases-loop-bytes : goal.decreases-loop-bytes
decreases-loop-bytes l = length l.bytes
