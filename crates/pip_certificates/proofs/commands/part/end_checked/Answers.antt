use Rattle.std.proofs.Common.{◌≡◌, inr, Some, None}
use Rattle.pip_io.proofs.Taken.{Keeps-refl}
use Rattle.pip_certificates.specs.PartExact.{booted_from}
use Rattle.pip_certificates.specs.PartReading.{part_seen}
use Rattle.pip_certificates.proofs.PartsExact.{ends_booted, ends_checked, no_value}
use Rattle.pip_certificates.proofs.commands.part.end_checked.Goals as goal

pub returns-in-Some-clause-ends : goal.returns-in-Some-clause-ends
returns-in-Some-clause-ends g c = λ i b.
    let m = c.args.begun.mem.block.frames in
    let found : booted_from m 0 c.args.read.base.items ≡ Some c.in-Some.place =
    rw (← c.as_slice.ensures.value, ← c.booted_word.ensures.first, c.in-Some.is) in
    ends_booted b c.args.from (part_seen c.args.read) _ _ _ c.in-Some.place found
    (rw (← c.size_of.ensures.size) c.end_bad.ensures.wrote)

pub returns-in-Ok-clause-ends : goal.returns-in-Ok-clause-ends
returns-in-Ok-clause-ends g c = λ i b.
    let m = c.args.begun.mem.block.frames in
    let none : booted_from m 0 c.args.read.base.items ≡ None =
    rw (← c.as_slice.ensures.value, ← c.booted_word.ensures.first, no_value c.booted_word.result c.in_default.not-Some)
    in
    ends_checked b c.args.from (part_seen c.args.read) _ _ _ c.in-Ok.checked (c.in-Ok.ensures.found i b)
    c.in-Ok.ensures.way none c.end_told.ensures.wrote

pub returns-clause-ends : goal.returns-clause-ends
returns-clause-ends g c = λ i b. inr (rw c.with_status.ensures, Keeps-refl _)
