-- One word was written of those that are left.
use Rattle.std.proofs.Common.{◌∙◌, sym, ap, subst, length}
use Rattle.std.proofs.lemmas.List.{take_rest}
use Rattle.pip_switch.specs.Rewinding.{ArePlaces, rewritten}
use Rattle.pip_every.proofs.Writing.{written_next}
use Rattle.pip_every.proofs.journals.journal.Journal.write.Goals as goal

pub loop-rest-preserved : goal.loop-rest-preserved
loop-rest-preserved g c =
    let h = written_next c.loop-rest.self.frames.block.frames c.set_word.new.self.frames.block.frames
    (length g.F.First.words) c.loop-rest.rest.now c.new.result c.loop-rest-test.true c.new.ensures
    c.set_word.ensures.words c.loop-rest.invariant.places in
    record {
      same = ap (λ v. rewritten c.set_word.new.self.frames.block.frames v) (take_rest c.loop-rest.rest.now 2) ∙
          (h.0 ∙ c.loop-rest.invariant.same);
      places = subst (λ v. ArePlaces (length g.F.First.words) v) (sym (take_rest c.loop-rest.rest.now 2)) h.1;
    }
