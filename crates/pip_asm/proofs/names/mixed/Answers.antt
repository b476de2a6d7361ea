use Rattle.std.proofs.Common.{◌∙◌, ◌*◌, ◌%◌, ◌+◌, ◌^◌, ap, sym, refl, drop}
use Rattle.std.specs.Prelude.{bit_xor}
use Rattle.pip_asm.specs.Names.{hash_on}
use Rattle.pip_asm.proofs.Naming.{mixed-end, mixed-next}
use Rattle.pip_asm.proofs.names.mixed.Goals as goal

pub loop-byte-init : goal.loop-byte-init
loop-byte-init c = refl

pub loop-byte-preserved : goal.loop-byte-preserved
loop-byte-preserved c =
    ap (λ b. hash_on ((bit_xor c.loop-byte.hash b * 0x9e3779b97f4a7c15) % 2
    ^ 64) (drop (c.loop-byte.byte-index + 1) c.args.name.now)) c.from.ensures
    ∙ (sym (mixed-next c.loop-byte.hash c.loop-byte.byte-index c.args.name.now c.loop-byte-test.true)
    ∙ c.loop-byte.invariant)

pub returns : goal.returns
returns c = rw (← mixed-end c.loop-byte.hash c.loop-byte.byte-index c.args.name.now c.loop-byte-test.false)
    c.loop-byte.invariant
