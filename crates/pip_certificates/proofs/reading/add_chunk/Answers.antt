use Rattle.std.proofs.Common.{arith, ◌≡◌, ◌+◌, ◌-◌, ◌*◌, ◌++◌, [], ap₂, length}
use Rattle.pip_certificates.specs.PartReading.{part_seen}
use Rattle.pip_certificates.specs.PartText.{marks_from}
use Rattle.pip_certificates.proofs.Bits.{none_of}
use Rattle.pip_certificates.proofs.reading.add_chunk.Goals as goal

pub returns-clause-adds : goal.returns-clause-adds
returns-clause-adds c = λ rest.
    let was = c.loop-bytes.invariant in
    let l = was.left in
    let place = was.place in
    let bytes = c.loop-bytes.bytes.now in
    let none : bytes ≡ [] = none_of bytes c.in_default.len_below in
    let zero_long : length bytes ≡ 0 = rw none in
    rw (
      was.adds rest,
      ap₂ (λ n a. marks_from (part_seen c.loop-bytes.part) n a (bytes ++ rest))
          (let e : c.loop-bytes.left ≡ c.args.left - 8 * length c.args.bytes.now = omega (arith, l, zero_long) in e)
          (let e : c.loop-bytes.at ≡ c.args.at + length c.args.bytes.now = omega (arith, place, zero_long) in e),
      none,
    )
