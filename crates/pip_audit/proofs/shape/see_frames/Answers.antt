use Rattle.std.proofs.Common.{◌≡◌, ℕ, ◌<◌, length, inl, inr, arith, sym, ◌∙◌, subst}
use Rattle.std.proofs.lemmas.Bool.{cases_eq}
use Rattle.pip_base.specs.Memory.{frame_at, word_at}
use Rattle.pip_model.specs.Sound.{IsWord}
use Rattle.pip_audit.proofs.Shapes.{all_shaped}
use Rattle.pip_audit.proofs.shape.see_frames.Goals as goal

pub loop-f-preserved : goal.loop-f-preserved
loop-f-preserved g c = λ k h.
    let m = g.M.Frames.memory c.args.mem.now in
    elim (cases_eq k c.loop-f.f) [
      | inl q ↦
          let at = c.new.ensures ∙ sym q in (
            subst (λ f. length (frame_at m f) ≡ 1024) at c.see_frame.ensures.shape,
            subst (λ f. (i : ℕ) → i < 1024 → IsWord (word_at m f i)) at c.see_frame.ensures.words,
          )
      | inr ne ↦ c.loop-f.invariant k (omega (arith, h, ne))
    ]

pub returns-clause-shape : goal.returns-clause-shape
returns-clause-shape g c =
    let m = g.M.Frames.memory c.args.mem.now in
    let past = c.loop-f-test.false in
    let end = c.count-f-end.ensures in
    all_shaped m (λ k h. (c.loop-f.invariant k (omega (arith, h, past, end))).0)

pub returns-clause-words : goal.returns-clause-words
returns-clause-words g c = λ f i f_in i_in.
    let past = c.loop-f-test.false in
    let end = c.count-f-end.ensures in
    (c.loop-f.invariant f (omega (arith, f_in, past, end))).1 i i_in
