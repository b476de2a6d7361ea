use Rattle.std.proofs.Common.{◌≡◌, ◌+◌, ◌*◌, ◌-◌, arith, inl, inr, subst, None}
use Rattle.std.proofs.lemmas.Bool.{cases_lt}
use Rattle.pip_audit.specs.Comparing.{differs_at, role_of, wanted_word}
use Rattle.pip_audit.proofs.Differing.{frame_hit, frame_none}
use Rattle.pip_audit.proofs.auditor.Auditor.difference_in.Goals as goal
use Rattle.pip_audit.proofs.auditor.Auditor.difference_in.Goals.{else-not-is_blank_block}
use Rattle.pip_audit.proofs.auditor.Auditor.difference_in.Goals.{then-not-is_blank_block+in_default}

pub returns-in-Some : goal.returns-in-Some
returns-in-Some g c =
    let m = g.M.Frames.memory c.args.mem.now in
    let below = c.loop-b-test.true in
    let (i, low, high, same, before) = c.in-Some.ensures in
    frame_hit m (λ f i. wanted_word m c.args.self.now (role_of c.args.role.now) i) c.args.f i c.in-Some.difference
    (omega (arith, below, high)) same (λ k h. elim (cases_lt k (32 * c.loop-b.b)) [
      | inl e ↦ c.loop-b.invariant k e
      | inr e ↦ before k e h
    ])

pub loop-b-preserved : goal.loop-b-preserved
loop-b-preserved g c k h = elim (cases_lt k (32 * c.loop-b.b)) [
  | inl e ↦ c.loop-b.invariant k e
  | inr e ↦ elim c.if-not-is_blank_block.branch [
    | then-not-is_blank_block+in_default w ↦ w.in_default.ensures k e (omega (arith, h))
    | else-not-is_blank_block w ↦
        let back : 32 * c.loop-b.b + (k - 32 * c.loop-b.b) ≡ k = omega (arith, e) in
        subst (λ n. differs_at (g.M.Frames.memory c.args.mem.now) c.args.self.now c.args.f (role_of c.args.role.now) n
        ≡ None) back
        (c.is_blank_block.ensures w.if-not-is_blank_block.false (k - 32 * c.loop-b.b) (omega (arith, h, e)))
  ]
]

pub returns : goal.returns
returns g c =
    let m = g.M.Frames.memory c.args.mem.now in
    let past = c.loop-b-test.false in
    frame_none m (λ f i. wanted_word m c.args.self.now (role_of c.args.role.now) i) c.args.f
    (λ k h. c.loop-b.invariant k (omega (arith, past, h)))
