use Rattle.std.proofs.Common.{rules, ◌≤◌, ◌+◌, ◌^◌, length}
use Rattle.pip_script.proofs.Reading.{takes_on, takes_over}
use Rattle.pip_script.proofs.whole.read_whole.Goals as goal

pub returns-then-room-eq0-clause-read : goal.returns-then-room-eq0-clause-read
returns-then-room-eq0-clause-read g c =
    let one : length c.read.new.buf ≤ 1 = search rules in
    let full : 2 ^ 24 ≤ length c.loop-count.bytes.items = search rules in
    takes_over c.loop-count.bytes.items c.read.new.buf c.in-Ok.count _ _ _ c.loop-count.invariant.taken
    c.in-Ok.ensures.bytes.0 c.in-Ok.ensures.bound.0 c.if-count-eq0.false one full

pub returns-then-is_err-clause-read : goal.returns-then-is_err-clause-read
returns-then-is_err-clause-read g c =
    let room : length c.loop-count.bytes.items + c.in-Ok.count ≤ 2 ^ 24 = search rules in (
      _,
      takes_on c.loop-count.bytes.items c.read.new.buf c.in-Ok.count _ _ _ c.loop-count.invariant.taken
          c.in-Ok.ensures.bytes.0 c.in-Ok.ensures.bound.0 room,
    )
