-- A part with other words is gone through, and of those before the next the words of `words` are added.
use Rattle.std.proofs.Common.{◌≡◌, ◌+◌, ◌*◌, ◌-◌, ◌∙◌, ◌++◌, ap, ap₂, arith, refl}
use Rattle.pip_every.specs.Changes.{changes_from}
use Rattle.pip_every.proofs.Adding.{added, grew, none_yet, parts_same}
use Rattle.pip_every.proofs.journals.changes.add_frame.Goals as goal

pub loop-part-init : goal.loop-part-init
loop-part-init c =
    let next = c.next_other-part in
    let to = c.args.to.now.items in
    record {
      most = next.ensures.end;
      adds = λ a b m r at_a at_b at_m is.
          let s = 1024 * c.args.frame in
          let q = next.result in
          added a b m s 0 (32 * q) (1024 - 32 * q + r) s (32 * q) (s + 32 * q) (1024 + r) _ to to
          c.add_below.new.to.items c.args.words.now c.in_ok-rest.rest.now (omega arith) (omega arith) refl (omega arith)
          (omega (arith, next.ensures.end))
          (parts_same a b m c.args.frame 0 q s (32 * q) c.args.base.now c.args.now.now (omega arith) (omega arith) at_b
          at_m (omega arith) next.ensures.end next.ensures.same)
          (none_yet a m s 0 to refl) is c.in_ok-rest.ensures;
    }

pub loop-part-preserved : goal.loop-part-preserved
loop-part-preserved c =
    let next = c.next_other-part-in-loop-part in
    let o = c.loop-part in
    let to = c.args.to.now.items in
    record {
      most = next.ensures.end;
      adds = λ a b m r at_a at_b at_m is.
          let s = 1024 * c.args.frame in
          let p = o.part in
          let q = next.result in
          let h = o.invariant.adds a b m r at_a at_b at_m is in
          let left = 1024 - 32 * p - 32 + r in
          let k = s + 32 * p + 32 in
          let some : 1024 - 32 * p + r ≡ 32 + left = omega (arith, c.loop-part-test.true) in
          let rest = c.words_from-rest.ensures a b (s + 32 * p) 32 left
          (h.1 ∙ ap (changes_from a b (s + 32 * p)) some) (omega arith) in
          let part = grew a m s (32 * p) 32 (32 * p + 32) (s + p * 32) to o.to.items c.add_part.new.to.items refl
          (omega arith) h.0 (c.in_ok-add_part.ensures a m at_a at_m) in
          added a b m s (32 * p + 32) (32 * q - (32 * p + 32)) (1024 - 32 * q + r) k (32 * q) (s + 32 * q) left _ to
          c.add_part.new.to.items c.add_below-in-loop-part.new.to.items c.words_from-rest.result.now
          c.in_ok-rest-2.rest.now (omega arith) (omega (arith, next.ensures.from)) (omega (arith, next.ensures.from))
          (omega (arith, next.ensures.from)) (omega (arith, next.ensures.from, next.ensures.end))
          (parts_same a b m c.args.frame (p + 1) q k (32 * q - (32 * p + 32)) c.args.base.now c.args.now.now
          (omega arith) (omega arith) at_b at_m next.ensures.from next.ensures.end next.ensures.same)
          part rest c.in_ok-rest-2.ensures;
    }

pub returns : goal.returns
returns c a b m r at_a at_b at_m is =
    let s = 1024 * c.args.frame in
    let p = c.loop-part.part in
    let h = c.loop-part.invariant.adds a b m r at_a at_b at_m is in
    let all : 32 * p ≡ 1024 = omega (arith, c.loop-part-test.false, c.loop-part.invariant.most) in
    let left : 1024 - 32 * p + r ≡ r = omega (arith, all) in (
      h.0 ∙ ap (λ v. c.args.to.now.items ++ changes_from a m s v) all,
      h.1 ∙ ap₂ (λ v w. changes_from a b (s + v) w) all left,
    )
