-- A word is another, and those that are left are looked at.
use Rattle.std.proofs.Common.{◌∙◌, ◌+◌, ◌%◌, sym, ap, get_or, length, refl, subst}
use Rattle.std.proofs.lemmas.List.{take_rest}
use Rattle.pip_base.specs.Memory.{word_at}
use Rattle.pip_switch.specs.Rewinding.{ArePlaces}
use Rattle.pip_every.specs.Changes.{AreOther}
use Rattle.pip_every.proofs.Places.{other_next}
use Rattle.pip_every.proofs.journals.frames.are_other.Goals as goal

pub loop-rest-preserved : goal.loop-rest-preserved
loop-rest-preserved g c =
    let o = c.loop-rest in
    let a = c.args.first.now.block.frames in
    let p = get_or o.rest.now 0 0 in
    let rest = take_rest o.rest.now 2 in
    let h = other_next a (length a) o.least (p + 1) p o.rest.now c.loop-rest-test.true o.invariant.places refl refl
    c.if-place-least.false
    (λ e. c.if-word-rest.false (c.word-word.ensures.word ∙ (ap (λ v. word_at a v (p % 1024)) c.new.ensures ∙ e))) in
    record {
      places = subst (λ v. ArePlaces (length a) v) (sym rest) h.1;
      other = λ k. o.invariant.other (h.0 (subst (λ v. AreOther a (p + 1) v) rest k));
    }
