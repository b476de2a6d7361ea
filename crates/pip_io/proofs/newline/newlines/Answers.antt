use Rattle.std.proofs.Common.{eqb, take, arith, w8}
use Rattle.std.proofs.lemmas.List.{length-take-le}
use Rattle.std.proofs.lemmas.Simd.{bitmask_splat}
use Rattle.pip_io.proofs.newline.newlines.Goals as goal

pub returns : goal.returns
returns c =
    bitmask_splat w8 eqb (take 32 c.args.bytes.now) 32 10 (length-take-le 32 c.args.bytes.now c.requires) (omega arith)
