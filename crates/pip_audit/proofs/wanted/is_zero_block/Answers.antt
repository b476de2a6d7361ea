use Rattle.std.proofs.Common.{◌+◌, ◌*◌, arith}
use Rattle.std.proofs.lemmas.Bool.{and_parts}
use Rattle.pip_table.proofs.Zeros.{zeros_more}
use Rattle.pip_audit.proofs.wanted.is_zero_block.Goals as goal

pub returns : goal.returns
returns c on i low =
    let ws = c.args.words.now in
    let k = 32 * c.args.b in
    let three = and_parts _ _ on in
    let two = and_parts _ _ three.0 in
    let one = and_parts _ _ two.0 in
    zeros_more ws k (k + 8) (k + 32) (c.are_zero.ensures.0 one.0)
    (zeros_more ws (k + 8) (k + 16) (k + 32) (λ j a b. c.are_zero-2.ensures.0 one.1 j a (omega (arith, b)))
    (zeros_more ws (k + 16) (k + 24) (k + 32) (λ j a b. c.are_zero-3.ensures.0 two.1 j a (omega (arith, b)))
    (λ j a b. c.are_zero-4.ensures.0 three.1 j a (omega (arith, b))))) (k + i) (omega arith) (omega (arith, low))
