use Rattle.std.proofs.Common.{◌≡◌, suc, ◌∷◌, ◌*◌, ◌+◌, ◌^◌, ◌<◌, ◌≤◌, drop, get_or, ap, sym, ◌∙◌, subst, arith}
use Rattle.std.proofs.Math.Seq.{drop-cons}
use Rattle.pip_audit.proofs.Digits.{below_28, room_57, room_more, small_more, told_more, told_on, value_most}
use Rattle.pip_audit.specs.Lines.{digit_value}
use Rattle.pip_audit.proofs.core_text.line.read_word.Goals as goal

pub overflow_mul-word : goal.overflow_mul-word
overflow_mul-word c = let b = room_57 c.loop-k.k c.loop-k.word c.loop-k-test.true c.loop-k.invariant.room in
    omega (arith, b)

pub overflow_add-word : goal.overflow_add-word
overflow_add-word c =
    let b = room_57 c.loop-k.k c.loop-k.word c.loop-k-test.true c.loop-k.invariant.room in
    let most = value_most (get_or c.args.digits.now c.loop-k.k 0) in
    omega (arith, b, most, c.digit_value.ensures)

pub loop-k-preserved : goal.loop-k-preserved
loop-k-preserved c =
    let n = c.loop-k.word in
    let k = c.loop-k.k in
    let ds = c.args.digits.now in
    let d = get_or ds k 0 in
    let is = c.digit_value.ensures in
    let few = c.loop-k-test.true in
    let inv = c.loop-k.invariant in
    let next : suc k ≡ k + 1 = omega arith in
    record {
      number =
          ap (λ v. told_on (16 * n + v) (drop (k + 1) ds)) is
          ∙ sym (told_more n d (drop (k + 1) ds) (λ h. below_28 k n few (inv.small h)))
          ∙ ap (told_on n) (sym (drop-cons ds k 0 (omega (arith, few, c.requires)) ∙ ap (λ i. d ∷ drop i ds) next))
          ∙ inv.number;
      small = λ h. subst (λ v. 16 * n + v < 16 ^ (k + 1)) (sym is)
          (small_more n d k inv.small (subst (λ v. 16 * n + v < 2 ^ 32) is h));
      room = subst (λ v. 16 * n + v + 2 ^ 29 ≤ 2 ^ 29 * 16 ^ (k + 1)) (sym is)
          (room_more n (digit_value d) k (value_most d) inv.room);
    }
