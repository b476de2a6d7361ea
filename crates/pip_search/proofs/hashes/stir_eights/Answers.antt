use Rattle.std.proofs.Common.{◌≤◌, ◌<◌, arith, length}
use Rattle.pip_search.proofs.Hashing.{eight_more, eight_none}
use Rattle.pip_search.proofs.hashes.stir_eights.Goals as goal

pub loop-eight-preserved : goal.loop-eight-preserved
loop-eight-preserved c =
    let rest = c.loop-eight.rest.now in
    let sum = c.loop-eight.sum in
    let (eight, more, count) = c.in-Some.ensures.cases in
    let all : 8 ≤ length rest = omega arith in
    rw (c.stir-sum.ensures, c.from_le_bytes.ensures, eight, more, ← eight_more rest sum all, c.loop-eight.invariant)

pub returns : goal.returns
returns c =
    let few : length c.loop-eight.rest.now < 8 = c.in_default.ensures.cases in
    rw (c.stir_bytes.ensures, ← eight_none c.loop-eight.rest.now c.loop-eight.sum few, c.loop-eight.invariant)
