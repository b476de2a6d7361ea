-- A key is the bytes between two ends.
use Rattle.std.proofs.Common.{◌<◌, Some, ap₂, arith, length}
use Rattle.std.specs.Prelude.{slice_range}
use Rattle.pip_search.specs.Storing.{ends_of}
use Rattle.pip_search.proofs.Stored.{end_rises, ends_count, its_end_low, key_count, listed_at}
use Rattle.pip_search.proofs.byte_lists.ByteLists.range.Goals as goal

pub start-requires-clause-place : goal.start-requires-clause-place
start-requires-clause-place c =
    omega (arith, key_count c.args.self.now)

pub end-requires-clause-place : goal.end-requires-clause-place
end-requires-clause-place c =
    omega (arith, key_count c.args.self.now)

pub returns-clause-rises : goal.returns-clause-rises
returns-clause-rises c =
    let x = c.args.self.now in
    let ends = ends_of x in
    let all = key_count x in
    let count = ends_count 0 x.blocks.items x.ends.items in
    let low : c.args.place < length ends = omega arith in
    omega (arith, end_rises 0 ends (length x.bytes.items) c.args.place c.requires.stored.ends low)

pub returns-clause-within : goal.returns-clause-within
returns-clause-within c =
    let x = c.args.self.now in
    let all = key_count x in
    omega (arith, its_end_low x c.args.place c.requires.stored (omega (arith, all, c.requires.place)))

pub returns-clause-key : goal.returns-clause-key
returns-clause-key c =
    let x = c.args.self.now in
    let ends = ends_of x in
    let all = key_count x in
    let count = ends_count 0 x.blocks.items x.ends.items in
    let low : c.args.place < length ends = omega arith in
    cc (
      listed_at 0 x.bytes.items ends c.args.place low,
      ap₂ (λ a b. Some (slice_range x.bytes.items a b))
          c.start.ensures c.end.ensures,
    )
