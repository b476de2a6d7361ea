use Rattle.std.proofs.Common.{◌+◌, ◌*◌, inl, inr, sym, ap, ◌∙◌, subst, arith, w32}
use Rattle.std.specs.Int.{bit_at}
use Rattle.std.proofs.lemmas.Bool.{cases_eq}
use Rattle.std.proofs.lemmas.Nat.Bits.{bit_at_set_other, bit_at_set_same}
use Rattle.pip_base.specs.Memory.{word_at}
use Rattle.pip_audit.specs.Blocks.{IsNone}
use Rattle.pip_audit.proofs.blocks.mask_of.Goals as goal
use Rattle.pip_audit.proofs.blocks.mask_of.Goals.{else-is_of, then-is_of}

pub loop-i-preserved : goal.loop-i-preserved
loop-i-preserved g c = λ k h e.
    let m = g.M.Frames.memory c.args.mem.now in
    let i = c.loop-i.i in
    let below = c.loop-i-test.true in
    elim c.if-is_of.branch [
      | then-is_of w ↦ elim (cases_eq k i) [
        | inl q ↦
            let one = bit_at_set_same w32 c.loop-i.mask i below in
            let z = sym (ap (bit_at c.if-is_of.mask) q) ∙ e in
            let is = sym (ap (λ n. bit_at n i) w.mask-is) ∙ z in
            absurd (omega (arith, one, is))
        | inr ne ↦ c.loop-i.invariant k (omega (arith, h, ne)) (sym (bit_at_set_other w32 c.loop-i.mask i below k ne)
            ∙ sym (ap (λ n. bit_at n k) w.mask-is) ∙ e)
      ]
      | else-is_of w ↦ elim (cases_eq k i) [
        | inl q ↦
            subst (λ j. IsNone c.args.kind (word_at m c.args.f (32 * c.args.b + j))) (sym q)
            (subst (IsNone c.args.kind) c.word.ensures.word (c.is_of.ensures w.if-is_of.false))
        | inr ne ↦ c.loop-i.invariant k (omega (arith, h, ne)) (sym (ap (λ n. bit_at n k) w.mask-is) ∙ e)
      ]
    ]
