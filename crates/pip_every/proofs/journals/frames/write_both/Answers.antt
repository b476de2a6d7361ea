-- One word was written of those that are left, over both.
use Rattle.std.proofs.Common.{◌∙◌, sym, ap, subst, length, drop}
use Rattle.std.proofs.lemmas.List.{take_rest}
use Rattle.pip_switch.specs.Rewinding.{ArePlaces, rewritten}
use Rattle.pip_every.proofs.Writing.{written_next}
use Rattle.pip_every.proofs.journals.frames.write_both.Goals as goal

pub loop-rest-preserved : goal.loop-rest-preserved
loop-rest-preserved c =
    let o = c.loop-rest in
    let n = length o.one.block.frames in
    let one = written_next o.one.block.frames c.set_word.new.self.block.frames n o.rest.now c.new-frame.result
    c.loop-rest-test.true c.new-frame.ensures c.set_word.ensures.words o.invariant.places in
    let other = written_next o.other.block.frames c.set_word-in-loop-rest.new.self.block.frames n o.rest.now
    c.new-frame.result c.loop-rest-test.true c.new-frame.ensures c.set_word-in-loop-rest.ensures.words
    o.invariant.places in
    record {
      places = subst (λ v. ArePlaces (length c.set_word.new.self.block.frames) v) (sym (take_rest o.rest.now 2))
          (subst (λ v. ArePlaces v (drop 2 o.rest.now)) (sym c.set_word.ensures.count) one.1);
      count = c.set_word-in-loop-rest.ensures.count ∙ (o.invariant.count ∙ sym c.set_word.ensures.count);
      one = ap (rewritten c.set_word.new.self.block.frames) (take_rest o.rest.now 2) ∙ (one.0 ∙ o.invariant.one);
      other = ap (rewritten c.set_word-in-loop-rest.new.self.block.frames) (take_rest o.rest.now 2)
          ∙ (other.0 ∙ o.invariant.other);
    }
