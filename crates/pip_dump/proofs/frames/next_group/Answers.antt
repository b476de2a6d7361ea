use Rattle.std.proofs.Common.{◌*◌, arith, inl, inr, true, false, sym, ◌∙◌, ◌≡◌}
use Rattle.std.proofs.lemmas.Bool.{cases_lt}
use Rattle.pip_dump.proofs.frames.next_group.Goals as goal

pub loop-k-init : goal.loop-k-init
loop-k-init c j low high = absurd (omega (arith, low, high))

pub returns-then-not-are_zero : goal.returns-then-not-are_zero
returns-then-not-are_zero c = (
  c.loop-k.auto.k,
  c.loop-k-test.true,
  c.loop-k.invariant,
  λ z. let both : true ≡ false = sym (c.are_zero.ensures.1 z) ∙ c.if-not-are_zero.true in cc,
)

pub loop-k-preserved : goal.loop-k-preserved
loop-k-preserved c j low high = elim (cases_lt j (8 * c.loop-k.k)) [
  | inl e ↦ c.loop-k.invariant j low e
  | inr e ↦ c.are_zero.ensures.0 c.if-not-are_zero.false j e (omega (arith, high))
]

pub returns : goal.returns
returns c j low high = let over = c.loop-k-test.false in c.loop-k.invariant j low (omega (arith, over, high))
