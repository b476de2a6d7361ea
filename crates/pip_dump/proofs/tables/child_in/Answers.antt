use Rattle.std.proofs.Common.{◌+◌, ◌*◌, ◌∙◌, arith, refl, Some}
use Rattle.pip_dump.proofs.Nexts.{next_same}
use Rattle.pip_dump.proofs.TableWords.{child_told, quiet_step, quiet_to}
use Rattle.pip_dump.proofs.tables.child_in.Goals as goal

pub loop-j-init : goal.loop-j-init
loop-j-init c = record { high = c.requires; passed = λ t x i a b. refl }

pub first_index-requires : goal.first_index-requires
first_index-requires c = c.loop-j.invariant.high

pub returns-then-given-j-eq1 : goal.returns-then-given-j-eq1
returns-then-given-j-eq1 c t x i a b =
    let (inside, some, zeros, above) = c.in-Some.ensures in
    let k = c.loop-j.k in
    let j = c.in-Some.j in
    let same = quiet_to t x i c.args.leaves.now a c.args.given.now b k j above (omega (arith, inside)) zeros
    ∙ c.loop-j.invariant.passed t x i a b in
    next_same t x (1024 * i + j) (1024 * i + c.args.from) (Some _) same (child_told t x i c.args.leaves.now a
    c.args.given.now b j c.new.result inside c.if-given-j-eq1.true c.new.ensures)

pub loop-j-preserved : goal.loop-j-preserved
loop-j-preserved c =
    let (inside, some, zeros, above) = c.in-Some.ensures in
    record {
      high = omega (arith, inside);
      passed = λ t x i a b.
          quiet_step t x i c.args.leaves.now a c.args.given.now b c.in-Some.j inside c.if-given-j-eq1.false
          ∙ (quiet_to t x i c.args.leaves.now a c.args.given.now b c.loop-j.k c.in-Some.j above
          (omega (arith, inside)) zeros ∙ c.loop-j.invariant.passed t x i a b);
    }

pub returns : goal.returns
returns c t x i a b = quiet_to t x i c.args.leaves.now a c.args.given.now b c.loop-j.k 1024 c.loop-j.invariant.high
    (omega arith) c.in_default.ensures ∙ c.loop-j.invariant.passed t x i a b
