use Rattle.std.proofs.Common.{rules, arith, ◌<◌, ◌∙◌}
use Rattle.pip_certificates.proofs.Bits.{bit_less, bit_more}
use Rattle.pip_certificates.proofs.reading.add_marks.Goals as goal

pub loop-preserved : goal.loop-preserved
loop-preserved c =
    let was = c.loop.invariant in
    let count = was.count in
    let less : c.loop.counter < c.min-end.result = c.loop-test.true in
    record {
      items = bit_more c.min-end.result c.loop.counter c.loop.bits less c.loop.part.marks.items c.push.new.self.items
          (search rules) ∙ was.items;
      bits = bit_less c.min-end.result c.loop.counter c.loop.bits less ∙ was.bits;
      end = was.end;
      base = was.base;
      way = was.way;
      count = search (rules, arith);
    }
