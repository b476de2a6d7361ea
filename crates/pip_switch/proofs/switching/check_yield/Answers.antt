use Rattle.std.proofs.Common.{◌∙◌, ap, sym, subst, true, false, Some}
use Rattle.pip_model.specs.Answers.{five_of}
use Rattle.pip_switch.specs.Blocks.{IsPlace}
use Rattle.pip_switch.proofs.Running.{busy_in}
use Rattle.pip_switch.proofs.Targets.{target_found, target_name, target_stands, vectors_pass, well_placed, yield_badly}
use Rattle.pip_switch.proofs.Targets.{yield_childless, yield_handler, yield_misplaced, yield_passes, yield_runs}
use Rattle.pip_switch.proofs.Targets.{yield_unhandled, yield_unsaved}
use Rattle.pip_switch.proofs.switching.check_yield.Goals as goal

pub returns-then-is_misplaced-clause-tested : goal.returns-then-is_misplaced-clause-tested
returns-then-is_misplaced-clause-tested g c w x s found = yield_misplaced w s.sound.tree c.args.caller
    (five_of c.args.args.now) (sym c.is_misplaced.ensures ∙ c.if-is_misplaced.true)

pub find_target-requires-clause-place : goal.find_target-requires-clause-place
find_target-requires-clause-place g c =
    well_placed (five_of c.args.args.now).x0 (sym c.is_misplaced.ensures ∙ c.if-is_misplaced.false)

pub returns-in_default-clause-tested : goal.returns-in_default-clause-tested
returns-in_default-clause-tested g c w x s found =
    yield_childless w s.sound.tree c.args.caller (five_of c.args.args.now)
    (sym c.is_misplaced.ensures ∙ c.if-is_misplaced.false) (sym c.in_default.is
    ∙ c.find_target.ensures.target w.tree x s.sound.tree s.shows.laid found)

pub returns-then-is_no_vector-clause-tested : goal.returns-then-is_no_vector-clause-tested
returns-then-is_no_vector-clause-tested g c w x s found =
    yield_badly w s.sound.tree c.args.caller (five_of c.args.args.now)
    (sym c.is_misplaced.ensures ∙ c.if-is_misplaced.false) c.in-Some.to
    (sym c.in-Some.is ∙ c.find_target.ensures.target w.tree x s.sound.tree s.shows.laid found)
    (sym c.is_no_vector.ensures ∙ c.if-is_no_vector.true)

pub returns-then-is_busy-clause-tested : goal.returns-then-is_busy-clause-tested
returns-then-is_busy-clause-tested g c w x s found =
    yield_runs w s.sound.tree c.args.caller (five_of c.args.args.now)
    (sym c.is_misplaced.ensures ∙ c.if-is_misplaced.false) c.in-Some.to
    (sym c.in-Some.is ∙ c.find_target.ensures.target w.tree x s.sound.tree s.shows.laid found)
    (sym c.is_no_vector.ensures ∙ c.if-is_no_vector.false)
    (busy_in w c.args.cpus.now.items c.as_slice.result.now s.shows.cpus c.as_slice.ensures.value c.in-Some.to
    c.args.caller c.is_busy.result true c.is_busy.ensures c.if-is_busy.true)

pub find_handler-requires-clause-stands : goal.find_handler-requires-clause-stands
find_handler-requires-clause-stands g c = let k = c.requires in
    target_stands _ c.args.caller (five_of c.args.args.now).x0 c.in-Some.to k
    (sym c.in-Some.is ∙ c.find_target.ensures.target k.tree k.node k.sound k.laid k.found)

pub find_handler-requires-clause-vector : goal.find_handler-requires-clause-vector
find_handler-requires-clause-vector g c = (vectors_pass (five_of c.args.args.now).x1 (five_of c.args.args.now).x2
    (sym c.is_no_vector.ensures ∙ c.if-is_no_vector.false)).0

pub find_save-requires-clause-vector : goal.find_save-requires-clause-vector
find_save-requires-clause-vector g c = (vectors_pass (five_of c.args.args.now).x1 (five_of c.args.args.now).x2
    (sym c.is_no_vector.ensures ∙ c.if-is_no_vector.false)).1

pub returns-in_default-find_handler-clause-tested : goal.returns-in_default-find_handler-clause-tested
returns-in_default-find_handler-clause-tested g c w x s found =
    let named = sym c.in-Some.is ∙ c.find_target.ensures.target w.tree x s.sound.tree s.shows.laid found in
    let y = target_found w.tree s.sound.tree c.args.caller (five_of c.args.args.now).x0 c.in-Some.to named in
    yield_unhandled w s.sound.tree c.args.caller (five_of c.args.args.now) (sym c.is_misplaced.ensures
    ∙ c.if-is_misplaced.false) c.in-Some.to named (sym c.is_no_vector.ensures ∙ c.if-is_no_vector.false)
    (busy_in w c.args.cpus.now.items c.as_slice.result.now s.shows.cpus c.as_slice.ensures.value c.in-Some.to
    c.args.caller c.is_busy.result false c.is_busy.ensures c.if-is_busy.false)
    (sym c.in_default-find_handler.is ∙ c.find_handler.ensures.handler w.tree y.0 s.sound.tree s.shows.laid y.1)

pub returns-in-Err-clause-tested : goal.returns-in-Err-clause-tested
returns-in-Err-clause-tested g c w x s found =
    let named = sym c.in-Some.is ∙ c.find_target.ensures.target w.tree x s.sound.tree s.shows.laid found in
    let y = target_found w.tree s.sound.tree c.args.caller (five_of c.args.args.now).x0 c.in-Some.to named in
    let p = subst (IsPlace w.tree c.args.caller (five_of c.args.args.now).x2) c.in-Err.is
    (c.find_save.ensures.place w.tree x s.sound.tree s.shows.laid found) in
    yield_unsaved w s.sound.tree c.args.caller (five_of c.args.args.now) (sym c.is_misplaced.ensures
    ∙ c.if-is_misplaced.false) c.in-Some.to named (sym c.is_no_vector.ensures ∙ c.if-is_no_vector.false)
    (busy_in w c.args.cpus.now.items c.as_slice.result.now s.shows.cpus c.as_slice.ensures.value c.in-Some.to
    c.args.caller c.is_busy.result false c.is_busy.ensures c.if-is_busy.false)
    c.in-Some-find_handler.ctx (sym c.in-Some-find_handler.is
    ∙ c.find_handler.ensures.handler w.tree y.0 s.sound.tree s.shows.laid y.1) p.1 ∙ ap Some (sym p.0)

pub returns-in-Ok-clause-tested : goal.returns-in-Ok-clause-tested
returns-in-Ok-clause-tested g c w x s found =
    let named = sym c.in-Some.is ∙ c.find_target.ensures.target w.tree x s.sound.tree s.shows.laid found in
    let y = target_found w.tree s.sound.tree c.args.caller (five_of c.args.args.now).x0 c.in-Some.to named in
    let handled = sym c.in-Some-find_handler.is ∙ c.find_handler.ensures.handler w.tree y.0 s.sound.tree
    s.shows.laid y.1 in
    let placed = sym c.is_misplaced.ensures ∙ c.if-is_misplaced.false in
    let good = sym c.is_no_vector.ensures ∙ c.if-is_no_vector.false in
    let still = busy_in w c.args.cpus.now.items c.as_slice.result.now s.shows.cpus c.as_slice.ensures.value c.in-Some.to
    c.args.caller c.is_busy.result false c.is_busy.ensures c.if-is_busy.false in
    let p = subst (IsPlace w.tree c.args.caller (five_of c.args.args.now).x2) c.in-Ok.is
    (c.find_save.ensures.place w.tree x s.sound.tree s.shows.laid found) in (
      yield_passes w s.sound.tree c.args.caller (five_of c.args.args.now) placed c.in-Some.to named good still
          c.in-Some-find_handler.ctx handled p.1,
      (
        target_name w.tree s.sound.tree c.args.caller (five_of c.args.args.now).x0 c.in-Some.to named,
        yield_handler w s.sound.tree c.args.caller (five_of c.args.args.now) placed c.in-Some.to named good still
            c.in-Some-find_handler.ctx handled,
        p.0,
      ),
    )
