use Rattle.std.proofs.Common.{◌∙◌, sym}
use Rattle.pip_switch.proofs.Blocking.{found_place, refused_place, unsaved_place}
use Rattle.pip_switch.proofs.switching.find_save.Goals as goal

pub returns-then-save-eq-NOT_SAVED-clause-place : goal.returns-then-save-eq-NOT_SAVED-clause-place
returns-then-save-eq-NOT_SAVED-clause-place g c t x s laid found =
    unsaved_place t c.args.caller c.args.save c.if-save-eq-NOT_SAVED.true

pub returns-in-None-clause-place : goal.returns-in-None-clause-place
returns-in-None-clause-place g c t x s laid found = refused_place t c.args.caller c.args.save c.requires.vector
    c.if-save-eq-NOT_SAVED.false (sym c.in-None.is ∙ c.find_place.ensures.place t x s laid found)

pub returns-in-Some-clause-place : goal.returns-in-Some-clause-place
returns-in-Some-clause-place g c t x s laid found = found_place t c.args.caller c.args.save c.requires.vector
    c.if-save-eq-NOT_SAVED.false c.in-Some.place (sym c.in-Some.is ∙ c.find_place.ensures.place t x s laid found)
