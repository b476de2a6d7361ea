use Rattle.std.proofs.Common.{arith, ◌+◌, ◌*◌, ◌≡◌, ap, length}
use Rattle.pip_dump.specs.Walk.{rows_above}
use Rattle.pip_dump.proofs.TableWords.{row_less, row_more}
use Rattle.pip_dump.proofs.tables.count_words.Goals as goal
use Rattle.pip_dump.proofs.tables.count_words.Goals.{then-words-j-ne0, else-words-j-ne0}

pub loop-j-init : goal.loop-j-init
loop-j-init c = record {
  few = omega arith;
  passed = λ t x i a. let same : 1024 * i + 0 ≡ 1024 * i = omega arith in
      let long = ap (λ k. length (rows_above k x.rows)) same in omega (arith, long);
}

pub overflow_add-count : goal.overflow_add-count
overflow_add-count c = let few = c.loop-j.invariant.few in let low = c.loop-j-test.true in omega (arith, few, low)

pub loop-j-preserved : goal.loop-j-preserved
loop-j-preserved c =
    let few = c.loop-j.invariant.few in
    let inside = c.loop-j-test.true in
    elim c.if-words-j-ne0.branch [
      | then-words-j-ne0 w ↦ let count = w.count-is in record {
        few = omega (arith, few, count);
        passed = λ t x i a. let more = row_more t x i c.args.words.now a c.loop-j.j inside w.if-words-j-ne0.true in
            let old = c.loop-j.invariant.passed t x i a in omega (arith, more, old, count);
      }
      | else-words-j-ne0 w ↦ let count = w.count-is in record {
        few = omega (arith, few, count);
        passed = λ t x i a. let less = row_less t x i c.args.words.now a c.loop-j.j inside w.if-words-j-ne0.false in
            let old = c.loop-j.invariant.passed t x i a in omega (arith, less, old, count);
      }
    ]

pub returns : goal.returns
returns c =
    let end = c.loop-j.auto.j-end in
    let over = c.loop-j-test.false in
    let few = c.loop-j.invariant.few in
    let same : c.loop-j.j ≡ 1024 = omega (arith, end, over) in
    record {
      few = omega (arith, few, end);
      rows = λ t x i a. let long = ap (λ k. length (rows_above (1024 * i + k) x.rows)) same in
          let old = c.loop-j.invariant.passed t x i a in omega (arith, long, old);
    }
